-- The words of opening hours, and other names of months and weekdays, in letters of lower case. In which case they are written
-- is not asked here.
use Rattle.std.specs.Prelude.{ℕ, Bool, ◌||◌, List, Option, Some, None, if◌then◌else◌, codes, nat_eq, option_map}
use Rattle.std.specs.Option.{option_or}
use Rattle.std.specs.Cmp.Lexicographic.{pointwise}
use Rattle.gtd_hours_loose_tokens.specs.declared.token.DayNames.{DayNames}
use Rattle.gtd_hours_loose_tokens.specs.declared.token.DayNames.TheVariants.{Unsaid, German}
use Rattle.gtd_hours_loose_tokens.specs.declared.token.LooseKind.{LooseKind}
use Rattle.gtd_hours_loose_tokens.specs.declared.token.LooseKind.TheVariants.{Month, Weekday, Week, Open, Closed, PublicHoliday}
use Rattle.gtd_hours_loose_tokens.specs.declared.token.LooseKind.TheVariants.{SchoolHoliday, Event, Unread, Ambiguous}

-- The text is the word, byte for byte.
abbrev pub is_word : List ℕ → List ℕ → Bool
is_word text word = pointwise nat_eq text word

-- The month that a short name names.
abbrev pub short_month : List ℕ → Option ℕ
short_month word =
    if is_word word (codes "jan") then Some 1
    else if is_word word (codes "feb") then Some 2
    else if is_word word (codes "mar") then Some 3
    else if is_word word (codes "apr") then Some 4
    else if is_word word (codes "may") then Some 5
    else if is_word word (codes "jun") then Some 6
    else if is_word word (codes "jul") then Some 7
    else if is_word word (codes "aug") then Some 8
    else if is_word word (codes "sep") then Some 9
    else if is_word word (codes "oct") then Some 10
    else if is_word word (codes "nov") then Some 11
    else if is_word word (codes "dec") then Some 12
    else None

-- The month of an English name in full. `May` is a short name, too.
abbrev pub english_month : List ℕ → Option ℕ
english_month word =
    if is_word word (codes "january") then Some 1
    else if is_word word (codes "february") then Some 2
    else if is_word word (codes "march") then Some 3
    else if is_word word (codes "april") then Some 4
    else if is_word word (codes "june") then Some 6
    else if is_word word (codes "july") then Some 7
    else if is_word word (codes "august") then Some 8
    else if is_word word (codes "september") then Some 9
    else if is_word word (codes "october") then Some 10
    else if is_word word (codes "november") then Some 11
    else if is_word word (codes "december") then Some 12
    else None

-- The month of `Sept` and of German names.
abbrev pub other_month : List ℕ → Option ℕ
other_month word =
    if is_word word (codes "januar") then Some 1
    else if is_word word (codes "februar") then Some 2
    else if is_word word (codes "mai") then Some 5
    else if is_word word (codes "juni") then Some 6
    else if is_word word (codes "juli") then Some 7
    else if is_word word (codes "sept") then Some 9
    else if is_word word (codes "oktober") then Some 10
    else if is_word word (codes "okt") then Some 10
    else if is_word word (codes "dezember") then Some 12
    else if is_word word (codes "dez") then Some 12
    else None

abbrev pub month_of : List ℕ → Option ℕ
month_of word = option_or (short_month word) (option_or (english_month word) (other_month word))

-- The weekday that a short name names, from 1 for Sunday to 7 for Saturday. `Mi` is a German one.
abbrev pub short_weekday : List ℕ → Option ℕ
short_weekday word =
    if is_word word (codes "su") then Some 1
    else if is_word word (codes "mo") then Some 2
    else if is_word word (codes "tu") then Some 3
    else if is_word word (codes "we") then Some 4
    else if is_word word (codes "th") then Some 5
    else if is_word word (codes "fr") then Some 6
    else if is_word word (codes "sa") then Some 7
    else if is_word word (codes "mi") then Some 4
    else None

-- The weekday of an English name in full.
abbrev pub english_weekday : List ℕ → Option ℕ
english_weekday word =
    if is_word word (codes "sunday") then Some 1
    else if is_word word (codes "monday") then Some 2
    else if is_word word (codes "tuesday") then Some 3
    else if is_word word (codes "wednesday") then Some 4
    else if is_word word (codes "thursday") then Some 5
    else if is_word word (codes "friday") then Some 6
    else if is_word word (codes "saturday") then Some 7
    else None

-- The weekday of a shortened English name.
abbrev pub shortened_weekday : List ℕ → Option ℕ
shortened_weekday word =
    if is_word word (codes "sun") then Some 1
    else if is_word word (codes "mon") then Some 2
    else if is_word word (codes "tue") || is_word word (codes "tues") then Some 3
    else if is_word word (codes "wed") then Some 4
    else if is_word word (codes "thu") || is_word word (codes "thur") || is_word word (codes "thurs") then Some 5
    else if is_word word (codes "fri") then Some 6
    else if is_word word (codes "sat") then Some 7
    else None

-- The weekday of a German name in full.
abbrev pub german_weekday : List ℕ → Option ℕ
german_weekday word =
    if is_word word (codes "sonntag") then Some 1
    else if is_word word (codes "montag") then Some 2
    else if is_word word (codes "dienstag") then Some 3
    else if is_word word (codes "mittwoch") then Some 4
    else if is_word word (codes "donnerstag") then Some 5
    else if is_word word (codes "freitag") then Some 6
    else if is_word word (codes "samstag") then Some 7
    else if is_word word (codes "sonnabend") then Some 7
    else None

abbrev pub weekday_of : List ℕ → Option ℕ
weekday_of word =
    option_or (short_weekday word)
    (option_or (english_weekday word) (option_or (shortened_weekday word) (german_weekday word)))

-- The weekday of a short name that is one in German, and may be another one in other languages: `Do` is Sunday in Italian.
abbrev pub short_german : List ℕ → Option ℕ
short_german word =
    if is_word word (codes "so") then Some 1
    else if is_word word (codes "di") then Some 3
    else if is_word word (codes "do") then Some 5
    else None

-- Such a name is refused unless it is said that names are German.
abbrev pub in_german : DayNames → ℕ → LooseKind
in_german German weekday = Weekday weekday
in_german Unsaid weekday = Ambiguous

-- The month or weekday that a word names.
abbrev pub name_of : DayNames → List ℕ → Option LooseKind
name_of names word =
    option_or (option_map Month (month_of word))
    (option_or (option_map Weekday (weekday_of word)) (option_map (in_german names) (short_german word)))

-- Words of OpenStreetMap that are not read.
abbrev pub unread_word : List ℕ → Option LooseKind
unread_word word =
    if is_word word (codes "easter") then Some Unread
    else if is_word word (codes "unknown") then Some Unread
    else if is_word word (codes "day") then Some Unread
    else if is_word word (codes "days") then Some Unread
    else None

-- Words of the sun, and those.
abbrev pub sun_word : List ℕ → Option LooseKind
sun_word word =
    if is_word word (codes "sunrise") then Some Event
    else if is_word word (codes "sunset") then Some Event
    else if is_word word (codes "dawn") then Some Event
    else if is_word word (codes "dusk") then Some Event
    else unread_word word

-- Words that name no month and no weekday.
abbrev pub word_of : List ℕ → Option LooseKind
word_of word =
    if is_word word (codes "week") then Some Week
    else if is_word word (codes "open") then Some Open
    else if is_word word (codes "on") then Some Open
    else if is_word word (codes "closed") then Some Closed
    else if is_word word (codes "off") then Some Closed
    else if is_word word (codes "ph") then Some PublicHoliday
    else if is_word word (codes "sh") then Some SchoolHoliday
    else sun_word word
