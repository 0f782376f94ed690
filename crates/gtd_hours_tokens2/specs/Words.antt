-- The words of opening hours by all their names, in letters of lower case and by their length.
use Rattle.std.specs.Prelude.{ℕ, Bool, false, ◌&&◌, ◌==◌, nat_le, List, [], ◌∷◌, length, map, Option, Some, None, if◌then◌else◌, codes, nat_eq}
use Rattle.std.specs.Cmp.Lexicographic.{pointwise}
use Rattle.std.specs.List.{list_all}
use Rattle.std.specs.Char.{is_ascii_lowercase, is_ascii_uppercase, to_ascii_lowercase}
use Rattle.gtd_hours_tokens2.specs.declared.token.TokenKind.TheVariants as token
use Rattle.gtd_hours_tokens2.specs.declared.token.Event.TheVariants as event
use Rattle.gtd_hours_tokens2.specs.declared.token.Word.TheVariants as word
use Rattle.gtd_hours_tokens2.specs.declared.words.Name.{Name}
use Rattle.gtd_hours_tokens2.specs.declared.words.Name.TheVariants.{Capital, Upper, Lower, Other, German}

abbrev pub is_word : List ℕ → List ℕ → Bool
is_word text name = pointwise nat_eq text name

-- A name is strictly written with a capital (`Mo`), in upper case (`PH`), in lower case (`off`), or is another name, which is
-- loose. German ones may be weekdays of other languages, too.
abbrev pub two_letters : List ℕ → Option Name
two_letters w =
    if is_word w (codes "mo") then Some (Capital (token.Weekday 2))
    else if is_word w (codes "tu") then Some (Capital (token.Weekday 3))
    else if is_word w (codes "we") then Some (Capital (token.Weekday 4))
    else if is_word w (codes "th") then Some (Capital (token.Weekday 5))
    else if is_word w (codes "fr") then Some (Capital (token.Weekday 6))
    else if is_word w (codes "sa") then Some (Capital (token.Weekday 7))
    else if is_word w (codes "su") then Some (Capital (token.Weekday 1))
    else if is_word w (codes "ph") then Some (Upper token.PublicHoliday)
    else if is_word w (codes "sh") then Some (Upper token.SchoolHoliday)
    else if is_word w (codes "on") then Some (Lower (token.Word word.Open))
    else if is_word w (codes "mi") then Some (Other (token.Weekday 4))
    else if is_word w (codes "di") then Some (German 3)
    else if is_word w (codes "do") then Some (German 5)
    else if is_word w (codes "so") then Some (German 1)
    else None

abbrev pub other_three : List ℕ → Option Name
other_three w =
    if is_word w (codes "mai") then Some (Other (token.Month 5))
    else if is_word w (codes "okt") then Some (Other (token.Month 10))
    else if is_word w (codes "dez") then Some (Other (token.Month 12))
    else if is_word w (codes "mon") then Some (Other (token.Weekday 2))
    else if is_word w (codes "tue") then Some (Other (token.Weekday 3))
    else if is_word w (codes "wed") then Some (Other (token.Weekday 4))
    else if is_word w (codes "thu") then Some (Other (token.Weekday 5))
    else if is_word w (codes "fri") then Some (Other (token.Weekday 6))
    else if is_word w (codes "sat") then Some (Other (token.Weekday 7))
    else if is_word w (codes "sun") then Some (Other (token.Weekday 1))
    else None

abbrev pub three_letters : List ℕ → Option Name
three_letters w =
    if is_word w (codes "jan") then Some (Capital (token.Month 1))
    else if is_word w (codes "feb") then Some (Capital (token.Month 2))
    else if is_word w (codes "mar") then Some (Capital (token.Month 3))
    else if is_word w (codes "apr") then Some (Capital (token.Month 4))
    else if is_word w (codes "may") then Some (Capital (token.Month 5))
    else if is_word w (codes "jun") then Some (Capital (token.Month 6))
    else if is_word w (codes "jul") then Some (Capital (token.Month 7))
    else if is_word w (codes "aug") then Some (Capital (token.Month 8))
    else if is_word w (codes "sep") then Some (Capital (token.Month 9))
    else if is_word w (codes "oct") then Some (Capital (token.Month 10))
    else if is_word w (codes "nov") then Some (Capital (token.Month 11))
    else if is_word w (codes "dec") then Some (Capital (token.Month 12))
    else if is_word w (codes "off") then Some (Lower (token.Word word.Off))
    else if is_word w (codes "day") then Some (Lower token.Day)
    else other_three w

abbrev pub four_letters : List ℕ → Option Name
four_letters w =
    if is_word w (codes "open") then Some (Lower (token.Word word.Open))
    else if is_word w (codes "week") then Some (Lower token.Week)
    else if is_word w (codes "days") then Some (Lower token.Day)
    else if is_word w (codes "dawn") then Some (Lower (token.Event event.Dawn))
    else if is_word w (codes "dusk") then Some (Lower (token.Event event.Dusk))
    else if is_word w (codes "june") then Some (Other (token.Month 6))
    else if is_word w (codes "juni") then Some (Other (token.Month 6))
    else if is_word w (codes "july") then Some (Other (token.Month 7))
    else if is_word w (codes "juli") then Some (Other (token.Month 7))
    else if is_word w (codes "sept") then Some (Other (token.Month 9))
    else if is_word w (codes "tues") then Some (Other (token.Weekday 3))
    else if is_word w (codes "thur") then Some (Other (token.Weekday 5))
    else None

abbrev pub five_letters : List ℕ → Option Name
five_letters w =
    if is_word w (codes "march") then Some (Other (token.Month 3))
    else if is_word w (codes "april") then Some (Other (token.Month 4))
    else if is_word w (codes "thurs") then Some (Other (token.Weekday 5))
    else None

abbrev pub six_letters : List ℕ → Option Name
six_letters w =
    if is_word w (codes "closed") then Some (Lower (token.Word word.Off))
    else if is_word w (codes "easter") then Some (Lower token.Easter)
    else if is_word w (codes "sunset") then Some (Lower (token.Event event.Sunset))
    else if is_word w (codes "januar") then Some (Other (token.Month 1))
    else if is_word w (codes "august") then Some (Other (token.Month 8))
    else if is_word w (codes "monday") then Some (Other (token.Weekday 2))
    else if is_word w (codes "montag") then Some (Other (token.Weekday 2))
    else if is_word w (codes "friday") then Some (Other (token.Weekday 6))
    else if is_word w (codes "sunday") then Some (Other (token.Weekday 1))
    else None

abbrev pub seven_letters : List ℕ → Option Name
seven_letters w =
    if is_word w (codes "unknown") then Some (Lower (token.Word word.Unknown))
    else if is_word w (codes "sunrise") then Some (Lower (token.Event event.Sunrise))
    else if is_word w (codes "january") then Some (Other (token.Month 1))
    else if is_word w (codes "februar") then Some (Other (token.Month 2))
    else if is_word w (codes "october") then Some (Other (token.Month 10))
    else if is_word w (codes "oktober") then Some (Other (token.Month 10))
    else if is_word w (codes "tuesday") then Some (Other (token.Weekday 3))
    else if is_word w (codes "freitag") then Some (Other (token.Weekday 6))
    else if is_word w (codes "samstag") then Some (Other (token.Weekday 7))
    else if is_word w (codes "sonntag") then Some (Other (token.Weekday 1))
    else None

abbrev pub long_word : List ℕ → Option Name
long_word w =
    if is_word w (codes "february") then Some (Other (token.Month 2))
    else if is_word w (codes "november") then Some (Other (token.Month 11))
    else if is_word w (codes "december") then Some (Other (token.Month 12))
    else if is_word w (codes "dezember") then Some (Other (token.Month 12))
    else if is_word w (codes "dienstag") then Some (Other (token.Weekday 3))
    else if is_word w (codes "mittwoch") then Some (Other (token.Weekday 4))
    else if is_word w (codes "thursday") then Some (Other (token.Weekday 5))
    else if is_word w (codes "saturday") then Some (Other (token.Weekday 7))
    else if is_word w (codes "september") then Some (Other (token.Month 9))
    else if is_word w (codes "wednesday") then Some (Other (token.Weekday 4))
    else if is_word w (codes "sonnabend") then Some (Other (token.Weekday 7))
    else if is_word w (codes "donnerstag") then Some (Other (token.Weekday 5))
    else None

abbrev pub lower_name : List ℕ → Option Name
lower_name w =
    if length w == 2 then two_letters w
    else if length w == 3 then three_letters w
    else if length w == 4 then four_letters w
    else if length w == 5 then five_letters w
    else if length w == 6 then six_letters w
    else if length w == 7 then seven_letters w
    else long_word w

-- what letters name, in any case
abbrev pub name_of : List ℕ → Option Name
name_of letters = if nat_le (length letters) 10 then lower_name (map to_ascii_lowercase letters) else None

abbrev pub is_capital : List ℕ → Bool
is_capital [] = false
is_capital (byte ∷ rest) = is_ascii_uppercase byte && list_all is_ascii_lowercase rest

abbrev pub is_upper : List ℕ → Bool
is_upper letters = list_all is_ascii_uppercase letters

abbrev pub is_lower : List ℕ → Bool
is_lower letters = list_all is_ascii_lowercase letters
