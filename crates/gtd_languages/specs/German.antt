-- The words of German.
use Rattle.std.specs.Prelude.{ℕ, Bool, true, false, List, [], ◌∷◌, codes}
use Rattle.gtd_languages.specs.Shared.{Role, On, From, If, Form, Unit, Years, Months, Weeks, Days, Hours, Minutes, Seconds, Fixed}
use Rattle.gtd_languages.specs.Shared.{EachDay, FromBeginning, OfEachMonth, EveryYear, WholeMinute, Sharp, AllDay, NextDay}
use Rattle.gtd_languages.specs.Shared.{Included, Counted, InWeek, YearAlone, OfYear, FromHour, FromMinute, FromMinuteAnd}
use Rattle.gtd_languages.specs.Shared.{SecondOfEveryHour, FromSecond, FromSecondOf, DaysLater, Word, OfEach, For, And, Comma}
use Rattle.gtd_languages.specs.Shared.{UntilTime, UntilDay, UntilThe, UntilTheEnd, Or, OnlyIn, ExceptIn, by_role, one_or}
use Rattle.gtd_languages.specs.Shared.{time_lead, time_end}
use Rattle.gtd_languages.specs.Names.{name_from, utf8}

abbrev pub german_weekdays : List (List ℕ)
german_weekdays =
    codes "Sonntag" ∷ codes "Montag" ∷ codes "Dienstag" ∷ codes "Mittwoch" ∷ codes "Donnerstag" ∷ codes "Freitag"
    ∷ codes "Samstag" ∷ []

-- The name of a weekday.
unfoldable pub german_weekday : ℕ → List ℕ
german_weekday n = name_from 1 german_weekdays n

abbrev pub german_months : List (List ℕ)
german_months =
    codes "Januar" ∷ codes "Februar" ∷ utf8 (codes "März") ∷ codes "April" ∷ codes "Mai" ∷ codes "Juni" ∷ codes "Juli"
    ∷ codes "August" ∷ codes "September" ∷ codes "Oktober" ∷ codes "November" ∷ codes "Dezember" ∷ []

-- The name of a month.
unfoldable pub german_month : ℕ → List ℕ
german_month n = name_from 1 german_months n

abbrev pub german_of_months : List (List ℕ)
german_of_months =
    codes "im Januar " ∷ codes "im Februar " ∷ utf8 (codes "im März ") ∷ codes "im April " ∷ codes "im Mai "
    ∷ codes "im Juni " ∷ codes "im Juli " ∷ codes "im August " ∷ codes "im September " ∷ codes "im Oktober "
    ∷ codes "im November " ∷ codes "im Dezember " ∷ []

-- A month, after a day that is not of the month.
unfoldable pub german_of_month : ℕ → List ℕ
german_of_month n = name_from 1 german_of_months n

abbrev pub german_beginnings : List (List ℕ)
german_beginnings =
    codes "von Anfang Januar " ∷ codes "von Anfang Februar " ∷ utf8 (codes "von Anfang März ")
    ∷ codes "von Anfang April " ∷ codes "von Anfang Mai " ∷ codes "von Anfang Juni " ∷ codes "von Anfang Juli "
    ∷ codes "von Anfang August " ∷ codes "von Anfang September " ∷ codes "von Anfang Oktober "
    ∷ codes "von Anfang November " ∷ codes "von Anfang Dezember " ∷ []

-- The beginning of a month.
unfoldable pub german_beginning : ℕ → List ℕ
german_beginning n = name_from 1 german_beginnings n

-- The name of a weekday in a list.
unfoldable pub german_day : Role → ℕ → List ℕ
german_day On n = name_from 1
    (codes "sonntags" ∷ codes "montags" ∷ codes "dienstags" ∷ codes "mittwochs" ∷ codes "donnerstags"
    ∷ codes "freitags" ∷ codes "samstags" ∷ []) n
german_day From n = german_weekday n
german_day If n = german_weekday n

-- What comes before a list of weekdays.
unfoldable pub german_list_lead : Role → List ℕ
german_list_lead role = by_role role [] (codes "von jedem ") (codes "(wenn er auf ")

-- What comes before neighbouring weekdays.
unfoldable pub german_run_lead : Role → List ℕ
german_run_lead role = by_role role [] (codes "von jedem Tag von ") (codes "(wenn er auf ")

-- What comes before the last weekday of a list.
unfoldable pub german_list_last : Role → List ℕ
german_list_last role = by_role role (codes " und ") (codes " und ") (codes " oder ")

-- What comes before the last of neighbouring weekdays.
unfoldable pub german_run_to : Role → List ℕ
german_run_to role = by_role role (codes " bis ") (codes " bis ") (codes " bis ")

-- What comes after weekdays.
unfoldable pub german_list_end : Role → List ℕ
german_list_end role = by_role role (codes " ") (codes " ") (utf8 (codes " fällt) "))

-- A place of a weekday from the beginning of the month.
unfoldable pub german_place_lead : Role → ℕ → List ℕ
german_place_lead On n = name_from 1
    (codes "am ersten " ∷ codes "am zweiten " ∷ codes "am dritten " ∷ codes "am vierten " ∷ utf8 (codes "am fünften ")
    ∷ []) n
german_place_lead From n = name_from 1
    (codes "vom ersten " ∷ codes "vom zweiten " ∷ codes "vom dritten " ∷ codes "vom vierten "
    ∷ utf8 (codes "vom fünften ") ∷ []) n
german_place_lead If n = name_from 1
    (codes "(wenn es der erste " ∷ codes "(wenn es der zweite " ∷ codes "(wenn es der dritte "
    ∷ codes "(wenn es der vierte " ∷ utf8 (codes "(wenn es der fünfte ") ∷ []) n

-- What comes after that weekday.
unfoldable pub german_place_end : Role → List ℕ
german_place_end role = by_role role (codes " ") (codes " ") (codes " im Monat ist) ")

-- A place of a weekday from the end of the month.
unfoldable pub german_back_lead : Role → ℕ → List ℕ
german_back_lead On n = name_from 1
    (codes "am letzten " ∷ codes "am vorletzten " ∷ codes "am drittletzten " ∷ codes "am viertletzten "
    ∷ utf8 (codes "am fünftletzten ") ∷ []) n
german_back_lead From n = name_from 1
    (codes "vom letzten " ∷ codes "vom vorletzten " ∷ codes "vom drittletzten " ∷ codes "vom viertletzten "
    ∷ utf8 (codes "vom fünftletzten ") ∷ []) n
german_back_lead If n = name_from 1
    (codes "(wenn es auch der letzte " ∷ codes "(wenn es auch der vorletzte " ∷ codes "(wenn es auch der drittletzte "
    ∷ codes "(wenn es auch der viertletzte " ∷ utf8 (codes "(wenn es auch der fünftletzte ") ∷ []) n

-- What comes after that weekday.
unfoldable pub german_back_end : Role → ℕ → List ℕ
german_back_end role n = by_role role (codes " ") (codes " ") (codes " im Monat ist) ")

-- What comes before a day of a month.
unfoldable pub german_date_lead : Bool → List ℕ
german_date_lead true = codes "am "
german_date_lead false = codes "vom "

-- What comes before a day of each month.
unfoldable pub german_each_lead : Bool → List ℕ
german_each_lead named = german_date_lead named

-- The Monday of a week.
unfoldable pub german_monday : Bool → List ℕ
german_monday true = codes "am Montag "
german_monday false = codes "vom Montag "

-- What makes the number of a day of each month an ordinal number.
unfoldable pub german_ordinal : Form → List ℕ
german_ordinal form = codes "."

-- The same for a day of a month.
unfoldable pub german_date_ending : Form → List ℕ
german_date_ending form = codes "."

-- Words without a number or a name.
unfoldable pub german_fixed : Fixed → List ℕ
german_fixed EachDay = utf8 (codes "täglich ")
german_fixed FromBeginning = codes "von Jahresbeginn "
german_fixed OfEachMonth = codes "jedes Monats "
german_fixed EveryYear = codes "jedes Jahres "
german_fixed WholeMinute = codes " "
german_fixed Sharp = codes " genau "
german_fixed AllDay = utf8 (codes "ganztägig")
german_fixed NextDay = codes " des Folgetags"
german_fixed Included = utf8 (codes " (einschließlich)")

-- What comes before a number.
unfoldable pub german_lead : Counted → List ℕ
german_lead InWeek = codes "in Woche "
german_lead YearAlone = []
german_lead OfYear = codes "im Jahr "
german_lead FromHour = codes "von "
german_lead FromMinute = codes "von Minute "
german_lead FromMinuteAnd = codes "von Minute "
german_lead SecondOfEveryHour = []
german_lead FromSecond = codes "von Sekunde "
german_lead FromSecondOf = codes "von Sekunde "
german_lead DaysLater = codes ", "
german_lead counted = time_lead counted

-- What comes after a number.
unfoldable pub german_end : Counted → List ℕ
german_end InWeek = codes " "
german_end YearAlone = codes " "
german_end OfYear = codes " "
german_end FromMinute = codes " jeder Stunde "
german_end FromMinuteAnd = codes " und Sekunde "
german_end SecondOfEveryHour = codes " jeder Stunde "
german_end FromSecond = codes " jeder Minute jeder Stunde "
german_end FromSecondOf = codes " jeder Minute der Stunde "
german_end DaysLater = utf8 (codes " Tage später")
german_end counted = time_end counted

-- Other words.
unfoldable pub german_word : Word → List ℕ
german_word OfEach = codes " jedes Monats "
german_word For = utf8 (codes "an für ")
german_word And = codes " und "
german_word Comma = codes ", "
german_word UntilTime = codes "bis "
german_word UntilDay = codes "bis "
german_word UntilThe = codes "bis zum "
german_word UntilTheEnd = codes "bis Ende Februar"
german_word Or = codes "oder:"
german_word OnlyIn = codes "und all dies nur:"
german_word ExceptIn = utf8 (codes "und all dies außer:")

-- A unit of time after a number.
unfoldable pub german_unit : Unit → Form → List ℕ
german_unit Years form = one_or form (codes "Jahr") (codes "Jahre")
german_unit Months form = one_or form (codes "Monat") (codes "Monate")
german_unit Weeks form = one_or form (codes "Woche") (codes "Wochen")
german_unit Days form = one_or form (codes "Tag") (codes "Tage")
german_unit Hours form = one_or form (codes "Stunde") (codes "Stunden")
german_unit Minutes form = one_or form (codes "Minute") (codes "Minuten")
german_unit Seconds form = one_or form (codes "Sekunde") (codes "Sekunden")
