-- The words of French.
use Rattle.std.specs.Prelude.{ℕ, Bool, true, false, List, [], ◌∷◌, codes}
use Rattle.gtd_languages.specs.Shared.{Role, On, From, If, Form, Zero, One, Unit, Years, Months, Weeks, Days, Hours, Minutes}
use Rattle.gtd_languages.specs.Shared.{Seconds, Fixed, EachDay, FromBeginning, OfEachMonth, EveryYear, WholeMinute, Sharp, AllDay}
use Rattle.gtd_languages.specs.Shared.{NextDay, Included, Counted, InWeek, YearAlone, OfYear, FromHour, FromMinute, FromMinuteAnd}
use Rattle.gtd_languages.specs.Shared.{SecondOfEveryHour, FromSecond, FromSecondOf, DaysLater, Word, OfEach, For, And, Comma}
use Rattle.gtd_languages.specs.Shared.{UntilTime, UntilDay, UntilThe, UntilTheEnd, Or, OnlyIn, ExceptIn, by_role, one_or}
use Rattle.gtd_languages.specs.Shared.{time_lead, time_end}
use Rattle.gtd_languages.specs.Names.{name_from, utf8}

abbrev pub french_weekdays : List (List ℕ)
french_weekdays =
    codes "dimanche" ∷ codes "lundi" ∷ codes "mardi" ∷ codes "mercredi" ∷ codes "jeudi" ∷ codes "vendredi"
    ∷ codes "samedi" ∷ []

-- The name of a weekday.
unfoldable pub french_weekday : ℕ → List ℕ
french_weekday n = name_from 1 french_weekdays n

abbrev pub french_months : List (List ℕ)
french_months =
    codes "janvier" ∷ utf8 (codes "février") ∷ codes "mars" ∷ codes "avril" ∷ codes "mai" ∷ codes "juin"
    ∷ codes "juillet" ∷ utf8 (codes "août") ∷ codes "septembre" ∷ codes "octobre" ∷ codes "novembre"
    ∷ utf8 (codes "décembre") ∷ []

-- The name of a month.
unfoldable pub french_month : ℕ → List ℕ
french_month n = name_from 1 french_months n

abbrev pub french_of_months : List (List ℕ)
french_of_months =
    codes "de janvier " ∷ utf8 (codes "de février ") ∷ codes "de mars " ∷ codes "d'avril " ∷ codes "de mai "
    ∷ codes "de juin " ∷ codes "de juillet " ∷ utf8 (codes "d'août ") ∷ codes "de septembre " ∷ codes "d'octobre "
    ∷ codes "de novembre " ∷ utf8 (codes "de décembre ") ∷ []

-- A month, after a day that is not of the month.
unfoldable pub french_of_month : ℕ → List ℕ
french_of_month n = name_from 1 french_of_months n

abbrev pub french_beginnings : List (List ℕ)
french_beginnings =
    utf8 (codes "du début de janvier ") ∷ utf8 (codes "du début de février ") ∷ utf8 (codes "du début de mars ")
    ∷ utf8 (codes "du début d'avril ") ∷ utf8 (codes "du début de mai ") ∷ utf8 (codes "du début de juin ")
    ∷ utf8 (codes "du début de juillet ") ∷ utf8 (codes "du début d'août ") ∷ utf8 (codes "du début de septembre ")
    ∷ utf8 (codes "du début d'octobre ") ∷ utf8 (codes "du début de novembre ") ∷ utf8 (codes "du début de décembre ")
    ∷ []

-- The beginning of a month.
unfoldable pub french_beginning : ℕ → List ℕ
french_beginning n = name_from 1 french_beginnings n

-- The name of a weekday in a list.
unfoldable pub french_day : Role → ℕ → List ℕ
french_day role n = by_role role (french_weekday n) (french_weekday n) (french_weekday n)

-- What comes before a list of weekdays.
unfoldable pub french_list_lead : Role → List ℕ
french_list_lead role = by_role role (codes "chaque ") (codes "de chaque ") (codes "(s'il tombe un ")

-- What comes before neighbouring weekdays.
unfoldable pub french_run_lead : Role → List ℕ
french_run_lead role = by_role role (codes "du ") (codes "de chaque jour du ") (codes "(s'il tombe du ")

-- What comes before the last weekday of a list.
unfoldable pub french_list_last : Role → List ℕ
french_list_last role = by_role role (codes " et ") (codes " et ") (codes " ou ")

-- What comes before the last of neighbouring weekdays.
unfoldable pub french_run_to : Role → List ℕ
french_run_to role = by_role role (codes " au ") (codes " au ") (codes " au ")

-- What comes after weekdays.
unfoldable pub french_list_end : Role → List ℕ
french_list_end role = by_role role (codes " ") (codes " ") (codes ") ")

-- A place of a weekday from the beginning of the month.
unfoldable pub french_place_lead : Role → ℕ → List ℕ
french_place_lead On n = name_from 1
    (codes "le premier " ∷ utf8 (codes "le deuxième ") ∷ utf8 (codes "le troisième ") ∷ utf8 (codes "le quatrième ")
    ∷ utf8 (codes "le cinquième ") ∷ []) n
french_place_lead From n = name_from 1
    (codes "du premier " ∷ utf8 (codes "du deuxième ") ∷ utf8 (codes "du troisième ") ∷ utf8 (codes "du quatrième ")
    ∷ utf8 (codes "du cinquième ") ∷ []) n
french_place_lead If n = name_from 1
    (codes "(si c'est le premier " ∷ utf8 (codes "(si c'est le deuxième ") ∷ utf8 (codes "(si c'est le troisième ")
    ∷ utf8 (codes "(si c'est le quatrième ") ∷ utf8 (codes "(si c'est le cinquième ") ∷ []) n

-- What comes after that weekday.
unfoldable pub french_place_end : Role → List ℕ
french_place_end role = by_role role (codes " ") (codes " ") (codes " du mois) ")

-- A place of a weekday from the end of the month.
unfoldable pub french_back_lead : Role → ℕ → List ℕ
french_back_lead On n = name_from 1
    (codes "le dernier " ∷ codes "l'avant-dernier " ∷ utf8 (codes "l'antépénultième ") ∷ utf8 (codes "le quatrième ")
    ∷ utf8 (codes "le cinquième ") ∷ []) n
french_back_lead From n = name_from 1
    (codes "du dernier " ∷ codes "de l'avant-dernier " ∷ utf8 (codes "de l'antépénultième ")
    ∷ utf8 (codes "du quatrième ") ∷ utf8 (codes "du cinquième ") ∷ []) n
french_back_lead If n = name_from 1
    (codes "(si c'est aussi le dernier " ∷ codes "(si c'est aussi l'avant-dernier "
    ∷ utf8 (codes "(si c'est aussi l'antépénultième ") ∷ utf8 (codes "(si c'est aussi le quatrième ")
    ∷ utf8 (codes "(si c'est aussi le cinquième ") ∷ []) n

-- What comes after that weekday.
unfoldable pub french_back_end : Role → ℕ → List ℕ
french_back_end On n = name_from 1
    (codes " " ∷ codes " " ∷ codes " " ∷ codes " en partant de la fin " ∷ codes " en partant de la fin " ∷ []) n
french_back_end From n = name_from 1
    (codes " " ∷ codes " " ∷ codes " " ∷ codes " en partant de la fin " ∷ codes " en partant de la fin " ∷ []) n
french_back_end If n = name_from 1
    (codes " du mois) " ∷ codes " du mois) " ∷ codes " du mois) " ∷ codes " en partant de la fin du mois) "
    ∷ codes " en partant de la fin du mois) " ∷ []) n

-- What comes before a day of a month.
unfoldable pub french_date_lead : Bool → List ℕ
french_date_lead true = codes "le "
french_date_lead false = codes "du "

-- What comes before a day of each month.
unfoldable pub french_each_lead : Bool → List ℕ
french_each_lead named = french_date_lead named

-- The Monday of a week.
unfoldable pub french_monday : Bool → List ℕ
french_monday true = codes "le lundi "
french_monday false = utf8 (codes "à partir du lundi ")

-- What makes the number of a day of each month an ordinal number.
unfoldable pub french_ordinal : Form → List ℕ
french_ordinal form = one_or form (codes "er") []

-- The same for a day of a month.
unfoldable pub french_date_ending : Form → List ℕ
french_date_ending form = one_or form (codes "er") []

-- Words without a number or a name.
unfoldable pub french_fixed : Fixed → List ℕ
french_fixed EachDay = codes "chaque jour "
french_fixed FromBeginning = utf8 (codes "du début ")
french_fixed OfEachMonth = codes "de chaque mois "
french_fixed EveryYear = utf8 (codes "de chaque année ")
french_fixed WholeMinute = codes " "
french_fixed Sharp = utf8 (codes " précises ")
french_fixed AllDay = utf8 (codes "toute la journée")
french_fixed NextDay = codes " le lendemain"
french_fixed Included = codes " (inclus)"

-- What comes before a number.
unfoldable pub french_lead : Counted → List ℕ
french_lead InWeek = codes "de la semaine "
french_lead YearAlone = []
french_lead OfYear = utf8 (codes "de l'année ")
french_lead FromHour = codes "de "
french_lead FromMinute = codes "de la minute "
french_lead FromMinuteAnd = codes "de la minute "
french_lead SecondOfEveryHour = []
french_lead FromSecond = codes "de la seconde "
french_lead FromSecondOf = codes "de la seconde "
french_lead DaysLater = codes ", "
french_lead counted = time_lead counted

-- What comes after a number.
unfoldable pub french_end : Counted → List ℕ
french_end InWeek = codes " "
french_end YearAlone = codes " "
french_end OfYear = codes " "
french_end FromMinute = codes " de chaque heure "
french_end FromMinuteAnd = codes " et de la seconde "
french_end SecondOfEveryHour = codes " de chaque heure "
french_end FromSecond = codes " de chaque minute de chaque heure "
french_end FromSecondOf = codes " de chaque minute de l'heure "
french_end DaysLater = codes " jours plus tard"
french_end counted = time_end counted

-- Other words.
unfoldable pub french_word : Word → List ℕ
french_word OfEach = codes " de chaque mois "
french_word For = utf8 (codes "pour une durée de ")
french_word And = codes " et "
french_word Comma = codes ", "
french_word UntilTime = utf8 (codes "jusqu'à ")
french_word UntilDay = codes "jusqu'au "
french_word UntilThe = codes "jusqu'au "
french_word UntilTheEnd = utf8 (codes "jusqu'à la fin de février")
french_word Or = codes "ou :"
french_word OnlyIn = codes "et tout cela seulement :"
french_word ExceptIn = codes "et tout cela sauf :"

-- A text for 0 and 1, and one for all other numbers.
abbrev pub up_to_one : Form → List ℕ → List ℕ → List ℕ
up_to_one Zero one other = one
up_to_one One one other = one
up_to_one form one other = other

-- A unit of time after a number.
unfoldable pub french_unit : Unit → Form → List ℕ
french_unit Years form = up_to_one form (codes "an") (codes "ans")
french_unit Months form = up_to_one form (codes "mois") (codes "mois")
french_unit Weeks form = up_to_one form (codes "semaine") (codes "semaines")
french_unit Days form = up_to_one form (codes "jour") (codes "jours")
french_unit Hours form = up_to_one form (codes "heure") (codes "heures")
french_unit Minutes form = up_to_one form (codes "minute") (codes "minutes")
french_unit Seconds form = up_to_one form (codes "seconde") (codes "secondes")
