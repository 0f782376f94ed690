-- The words of English.
use Rattle.std.specs.Prelude.{ℕ, Bool, true, false, List, [], ◌∷◌, codes}
use Rattle.gtd_languages.specs.Shared.{Role, On, From, If, Form, Zero, One, EndsInOne, EndsInTwo, EndsInThree, Other, Unit, Years}
use Rattle.gtd_languages.specs.Shared.{Months, Weeks, Days, Hours, Minutes, Seconds, Fixed, EachDay, FromBeginning, OfEachMonth}
use Rattle.gtd_languages.specs.Shared.{EveryYear, WholeMinute, Sharp, AllDay, NextDay, Included, Counted, InWeek, YearAlone}
use Rattle.gtd_languages.specs.Shared.{OfYear, FromHour, FromMinute, FromMinuteAnd, SecondOfEveryHour, FromSecond, FromSecondOf}
use Rattle.gtd_languages.specs.Shared.{DaysLater, Word, OfEach, For, And, Comma, UntilTime, UntilDay, UntilThe, UntilTheEnd, Or}
use Rattle.gtd_languages.specs.Shared.{OnlyIn, ExceptIn, by_role, one_or, time_lead, time_end}
use Rattle.gtd_languages.specs.Names.{name_from}

abbrev pub english_weekdays : List (List ℕ)
english_weekdays =
    codes "Sunday" ∷ codes "Monday" ∷ codes "Tuesday" ∷ codes "Wednesday" ∷ codes "Thursday" ∷ codes "Friday"
    ∷ codes "Saturday" ∷ []

-- The name of a weekday.
unfoldable pub english_weekday : ℕ → List ℕ
english_weekday n = name_from 1 english_weekdays n

abbrev pub english_months : List (List ℕ)
english_months =
    codes "January" ∷ codes "February" ∷ codes "March" ∷ codes "April" ∷ codes "May" ∷ codes "June" ∷ codes "July"
    ∷ codes "August" ∷ codes "September" ∷ codes "October" ∷ codes "November" ∷ codes "December" ∷ []

-- The name of a month.
unfoldable pub english_month : ℕ → List ℕ
english_month n = name_from 1 english_months n

abbrev pub english_of_months : List (List ℕ)
english_of_months =
    codes "of January " ∷ codes "of February " ∷ codes "of March " ∷ codes "of April " ∷ codes "of May "
    ∷ codes "of June " ∷ codes "of July " ∷ codes "of August " ∷ codes "of September " ∷ codes "of October "
    ∷ codes "of November " ∷ codes "of December " ∷ []

-- A month, after a day that is not of the month.
unfoldable pub english_of_month : ℕ → List ℕ
english_of_month n = name_from 1 english_of_months n

abbrev pub english_beginnings : List (List ℕ)
english_beginnings =
    codes "from the beginning of January " ∷ codes "from the beginning of February "
    ∷ codes "from the beginning of March " ∷ codes "from the beginning of April " ∷ codes "from the beginning of May "
    ∷ codes "from the beginning of June " ∷ codes "from the beginning of July "
    ∷ codes "from the beginning of August " ∷ codes "from the beginning of September "
    ∷ codes "from the beginning of October " ∷ codes "from the beginning of November "
    ∷ codes "from the beginning of December " ∷ []

-- The beginning of a month.
unfoldable pub english_beginning : ℕ → List ℕ
english_beginning n = name_from 1 english_beginnings n

-- The name of a weekday in a list.
unfoldable pub english_day : Role → ℕ → List ℕ
english_day role n = by_role role (english_weekday n) (english_weekday n) (english_weekday n)

-- What comes before a list of weekdays.
unfoldable pub english_list_lead : Role → List ℕ
english_list_lead role = by_role role (codes "every ") (codes "from every ") (codes "if it falls on ")

-- What comes before neighbouring weekdays.
unfoldable pub english_run_lead : Role → List ℕ
english_run_lead role = by_role role (codes "every ") (codes "from every ") (codes "if it falls on ")

-- What comes before the last weekday of a list.
unfoldable pub english_list_last : Role → List ℕ
english_list_last role = by_role role (codes " and ") (codes " and ") (codes " or ")

-- What comes before the last of neighbouring weekdays.
unfoldable pub english_run_to : Role → List ℕ
english_run_to role = by_role role (codes " to ") (codes " to ") (codes " to ")

-- What comes after weekdays.
unfoldable pub english_list_end : Role → List ℕ
english_list_end role = by_role role (codes " ") (codes " ") (codes " ")

-- A place of a weekday from the beginning of the month.
unfoldable pub english_place_lead : Role → ℕ → List ℕ
english_place_lead On n = name_from 1
    (codes "on the first " ∷ codes "on the second " ∷ codes "on the third " ∷ codes "on the fourth "
    ∷ codes "on the fifth " ∷ []) n
english_place_lead From n = name_from 1
    (codes "from the first " ∷ codes "from the second " ∷ codes "from the third " ∷ codes "from the fourth "
    ∷ codes "from the fifth " ∷ []) n
english_place_lead If n = name_from 1
    (codes "if it is the first " ∷ codes "if it is the second " ∷ codes "if it is the third "
    ∷ codes "if it is the fourth " ∷ codes "if it is the fifth " ∷ []) n

-- What comes after that weekday.
unfoldable pub english_place_end : Role → List ℕ
english_place_end role = by_role role (codes " ") (codes " ") (codes " of the month ")

-- A place of a weekday from the end of the month.
unfoldable pub english_back_lead : Role → ℕ → List ℕ
english_back_lead role n = by_role role (codes "on the last ") (codes "from the last ") (codes "if it is also the last ")

-- What comes after that weekday.
unfoldable pub english_back_end : Role → ℕ → List ℕ
english_back_end On n = name_from 1
    (codes " " ∷ codes " but one " ∷ codes " but two " ∷ codes " but three " ∷ codes " but four " ∷ []) n
english_back_end From n = name_from 1
    (codes " " ∷ codes " but one " ∷ codes " but two " ∷ codes " but three " ∷ codes " but four " ∷ []) n
english_back_end If n = name_from 1
    (codes " of the month " ∷ codes " but one of the month " ∷ codes " but two of the month "
    ∷ codes " but three of the month " ∷ codes " but four of the month " ∷ []) n

-- What comes before a day of a month.
unfoldable pub english_date_lead : Bool → List ℕ
english_date_lead true = codes "on "
english_date_lead false = codes "from "

-- What comes before a day of each month.
unfoldable pub english_each_lead : Bool → List ℕ
english_each_lead true = codes "on the "
english_each_lead false = codes "from the "

-- The Monday of a week.
unfoldable pub english_monday : Bool → List ℕ
english_monday true = codes "on the Monday "
english_monday false = codes "from the Monday "

-- What makes the number of a day of each month an ordinal number.
unfoldable pub english_ordinal : Form → List ℕ
english_ordinal Zero = codes "th"
english_ordinal One = codes "st"
english_ordinal EndsInOne = codes "st"
english_ordinal EndsInTwo = codes "nd"
english_ordinal EndsInThree = codes "rd"
english_ordinal Other = codes "th"

-- The same for a day of a month.
unfoldable pub english_date_ending : Form → List ℕ
english_date_ending form = []

-- Words without a number or a name.
unfoldable pub english_fixed : Fixed → List ℕ
english_fixed EachDay = codes "each day "
english_fixed FromBeginning = codes "from the beginning "
english_fixed OfEachMonth = codes "of every month "
english_fixed EveryYear = codes "every year "
english_fixed WholeMinute = codes " "
english_fixed Sharp = codes " sharp "
english_fixed AllDay = codes "all day"
english_fixed NextDay = codes " the next day"
english_fixed Included = codes " (included)"

-- What comes before a number.
unfoldable pub english_lead : Counted → List ℕ
english_lead InWeek = codes "in week "
english_lead YearAlone = []
english_lead OfYear = codes "of the year "
english_lead FromHour = codes "from "
english_lead FromMinute = codes "from minute "
english_lead FromMinuteAnd = codes "from minute "
english_lead SecondOfEveryHour = []
english_lead FromSecond = codes "from second "
english_lead FromSecondOf = codes "from second "
english_lead DaysLater = codes ", "
english_lead counted = time_lead counted

-- What comes after a number.
unfoldable pub english_end : Counted → List ℕ
english_end InWeek = codes " "
english_end YearAlone = codes " "
english_end OfYear = codes " "
english_end FromMinute = codes " of every hour "
english_end FromMinuteAnd = codes " and second "
english_end SecondOfEveryHour = codes " of every hour "
english_end FromSecond = codes " of every minute of every hour "
english_end FromSecondOf = codes " of every minute of hour "
english_end DaysLater = codes " days later"
english_end counted = time_end counted

-- Other words.
unfoldable pub english_word : Word → List ℕ
english_word OfEach = codes " of every month "
english_word For = codes "for "
english_word And = codes " and "
english_word Comma = codes ", "
english_word UntilTime = codes "until "
english_word UntilDay = codes "until "
english_word UntilThe = codes "until "
english_word UntilTheEnd = codes "until the end of February"
english_word Or = codes "or:"
english_word OnlyIn = codes "and all this only in:"
english_word ExceptIn = codes "and all this except in:"

-- A unit of time after a number.
unfoldable pub english_unit : Unit → Form → List ℕ
english_unit Years form = one_or form (codes "year") (codes "years")
english_unit Months form = one_or form (codes "month") (codes "months")
english_unit Weeks form = one_or form (codes "week") (codes "weeks")
english_unit Days form = one_or form (codes "day") (codes "days")
english_unit Hours form = one_or form (codes "hour") (codes "hours")
english_unit Minutes form = one_or form (codes "minute") (codes "minutes")
english_unit Seconds form = one_or form (codes "second") (codes "seconds")
