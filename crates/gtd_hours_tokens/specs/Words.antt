-- The words of opening hours, in the letters of ASCII. Their case matters.
use Rattle.std.specs.Prelude.{ℕ, Bool, ◌||◌, List, Option, Some, None, if◌then◌else◌, codes, nat_eq, option_map}
use Rattle.std.specs.Option.{option_or}
use Rattle.std.specs.Cmp.Lexicographic.{pointwise}
use Rattle.gtd_hours_tokens.specs.declared.token.TokenKind.{TokenKind}
use Rattle.gtd_hours_tokens.specs.declared.token.TokenKind.TheVariants.{Month, Weekday, Week, Open, Closed, Day}
use Rattle.gtd_hours_tokens.specs.declared.token.TokenKind.TheVariants.{Unsupported}

-- The text is the word, byte for byte.
abbrev pub is_word : List ℕ → List ℕ → Bool
is_word text word = pointwise nat_eq text word

-- The month that a word names.
abbrev pub month_of : List ℕ → Option ℕ
month_of word =
    if is_word word (codes "Jan") then Some 1
    else if is_word word (codes "Feb") then Some 2
    else if is_word word (codes "Mar") then Some 3
    else if is_word word (codes "Apr") then Some 4
    else if is_word word (codes "May") then Some 5
    else if is_word word (codes "Jun") then Some 6
    else if is_word word (codes "Jul") then Some 7
    else if is_word word (codes "Aug") then Some 8
    else if is_word word (codes "Sep") then Some 9
    else if is_word word (codes "Oct") then Some 10
    else if is_word word (codes "Nov") then Some 11
    else if is_word word (codes "Dec") then Some 12
    else None

-- The weekday that a word names, from 1 for Sunday to 7 for Saturday.
abbrev pub weekday_of : List ℕ → Option ℕ
weekday_of word =
    if is_word word (codes "Su") then Some 1
    else if is_word word (codes "Mo") then Some 2
    else if is_word word (codes "Tu") then Some 3
    else if is_word word (codes "We") then Some 4
    else if is_word word (codes "Th") then Some 5
    else if is_word word (codes "Fr") then Some 6
    else if is_word word (codes "Sa") then Some 7
    else None

-- Words of OpenStreetMap that are not read here: of days, of the sun, and `unknown`.
abbrev pub is_day_word : List ℕ → Bool
is_day_word word = is_word word (codes "PH") || is_word word (codes "SH") || is_word word (codes "easter")

abbrev pub is_sun_word : List ℕ → Bool
is_sun_word word =
    is_word word (codes "sunrise") || is_word word (codes "sunset") || is_word word (codes "dawn") || is_word word (codes "dusk")

abbrev pub is_refused_word : List ℕ → Bool
is_refused_word word = is_day_word word || is_sun_word word || is_word word (codes "unknown")

-- The other words.
abbrev pub other_word : List ℕ → Option TokenKind
other_word word =
    if is_word word (codes "week") then Some Week
    else if is_word word (codes "open") || is_word word (codes "on") then Some Open
    else if is_word word (codes "closed") || is_word word (codes "off") then Some Closed
    else if is_word word (codes "day") || is_word word (codes "days") then Some Day
    else if is_refused_word word then Some Unsupported
    else None

-- What a word is: a month, a weekday, or another one of these.
abbrev pub word_of : List ℕ → Option TokenKind
word_of word = option_or (option_map Month (month_of word)) (option_or (option_map Weekday (weekday_of word)) (other_word word))
