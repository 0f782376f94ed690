-- The words of each language, from its table.
use Rattle.std.specs.Prelude.{ℕ, Bool, List}
use Rattle.gtd_languages.specs.declared.word.Counted.{Counted}
use Rattle.gtd_languages.specs.declared.word.Fixed.{Fixed}
use Rattle.gtd_languages.specs.declared.word.Form.{Form}
use Rattle.gtd_phrases.specs.declared.phrase.Language.{Language}
use Rattle.gtd_languages.specs.declared.word.Role.{Role}
use Rattle.gtd_languages.specs.declared.word.Unit.{Unit}
use Rattle.gtd_languages.specs.declared.word.Word.{Word}
use Rattle.gtd_phrases.specs.declared.phrase.Language.TheVariants.{English, German, French}
use Rattle.gtd_languages.specs.English.{english_weekday, english_month, english_of_month, english_beginning, english_day}
use Rattle.gtd_languages.specs.English.{english_list_lead, english_run_lead, english_list_last, english_run_to}
use Rattle.gtd_languages.specs.English.{english_list_end, english_place_lead, english_place_end, english_back_lead}
use Rattle.gtd_languages.specs.English.{english_back_end, english_date_lead, english_each_lead, english_monday}
use Rattle.gtd_languages.specs.English.{english_ordinal, english_date_ending, english_fixed, english_lead, english_end}
use Rattle.gtd_languages.specs.English.{english_word, english_unit}
use Rattle.gtd_languages.specs.German.{german_weekday, german_month, german_of_month, german_beginning, german_day}
use Rattle.gtd_languages.specs.German.{german_list_lead, german_run_lead, german_list_last, german_run_to, german_list_end}
use Rattle.gtd_languages.specs.German.{german_place_lead, german_place_end, german_back_lead, german_back_end}
use Rattle.gtd_languages.specs.German.{german_date_lead, german_each_lead, german_monday, german_ordinal}
use Rattle.gtd_languages.specs.German.{german_date_ending, german_fixed, german_lead, german_end, german_word, german_unit}
use Rattle.gtd_languages.specs.French.{french_weekday, french_month, french_of_month, french_beginning, french_day}
use Rattle.gtd_languages.specs.French.{french_list_lead, french_run_lead, french_list_last, french_run_to, french_list_end}
use Rattle.gtd_languages.specs.French.{french_place_lead, french_place_end, french_back_lead, french_back_end}
use Rattle.gtd_languages.specs.French.{french_date_lead, french_each_lead, french_monday, french_ordinal}
use Rattle.gtd_languages.specs.French.{french_date_ending, french_fixed, french_lead, french_end, french_word, french_unit}

-- The name of a weekday.
abbrev pub weekday_in : Language → ℕ → List ℕ
weekday_in English n = english_weekday n
weekday_in German n = german_weekday n
weekday_in French n = french_weekday n

-- The name of a month.
abbrev pub month_in : Language → ℕ → List ℕ
month_in English n = english_month n
month_in German n = german_month n
month_in French n = french_month n

-- A month, after a day that is not of the month.
abbrev pub of_month_in : Language → ℕ → List ℕ
of_month_in English n = english_of_month n
of_month_in German n = german_of_month n
of_month_in French n = french_of_month n

-- The beginning of a month.
abbrev pub beginning_in : Language → ℕ → List ℕ
beginning_in English n = english_beginning n
beginning_in German n = german_beginning n
beginning_in French n = french_beginning n

-- The name of a weekday in a list.
abbrev pub day_in : Language → Role → ℕ → List ℕ
day_in English role n = english_day role n
day_in German role n = german_day role n
day_in French role n = french_day role n

-- What comes before a list of weekdays.
abbrev pub list_lead_in : Language → Role → List ℕ
list_lead_in English role = english_list_lead role
list_lead_in German role = german_list_lead role
list_lead_in French role = french_list_lead role

-- What comes before neighbouring weekdays.
abbrev pub run_lead_in : Language → Role → List ℕ
run_lead_in English role = english_run_lead role
run_lead_in German role = german_run_lead role
run_lead_in French role = french_run_lead role

-- What comes before the last weekday of a list.
abbrev pub list_last_in : Language → Role → List ℕ
list_last_in English role = english_list_last role
list_last_in German role = german_list_last role
list_last_in French role = french_list_last role

-- What comes before the last of neighbouring weekdays.
abbrev pub run_to_in : Language → Role → List ℕ
run_to_in English role = english_run_to role
run_to_in German role = german_run_to role
run_to_in French role = french_run_to role

-- What comes after weekdays.
abbrev pub list_end_in : Language → Role → List ℕ
list_end_in English role = english_list_end role
list_end_in German role = german_list_end role
list_end_in French role = french_list_end role

-- A place of a weekday from the beginning of the month.
abbrev pub place_lead_in : Language → Role → ℕ → List ℕ
place_lead_in English role n = english_place_lead role n
place_lead_in German role n = german_place_lead role n
place_lead_in French role n = french_place_lead role n

-- What comes after that weekday.
abbrev pub place_end_in : Language → Role → List ℕ
place_end_in English role = english_place_end role
place_end_in German role = german_place_end role
place_end_in French role = french_place_end role

-- A place of a weekday from the end of the month.
abbrev pub back_lead_in : Language → Role → ℕ → List ℕ
back_lead_in English role n = english_back_lead role n
back_lead_in German role n = german_back_lead role n
back_lead_in French role n = french_back_lead role n

-- What comes after that weekday.
abbrev pub back_end_in : Language → Role → ℕ → List ℕ
back_end_in English role n = english_back_end role n
back_end_in German role n = german_back_end role n
back_end_in French role n = french_back_end role n

-- What comes before a day of a month.
abbrev pub date_lead_in : Language → Bool → List ℕ
date_lead_in English named = english_date_lead named
date_lead_in German named = german_date_lead named
date_lead_in French named = french_date_lead named

-- What comes before a day of each month.
abbrev pub each_lead_in : Language → Bool → List ℕ
each_lead_in English named = english_each_lead named
each_lead_in German named = german_each_lead named
each_lead_in French named = french_each_lead named

-- The Monday of a week.
abbrev pub monday_in : Language → Bool → List ℕ
monday_in English named = english_monday named
monday_in German named = german_monday named
monday_in French named = french_monday named

-- What makes the number of a day of each month an ordinal number.
abbrev pub ordinal_in : Language → Form → List ℕ
ordinal_in English form = english_ordinal form
ordinal_in German form = german_ordinal form
ordinal_in French form = french_ordinal form

-- The same for a day of a month.
abbrev pub date_ending_in : Language → Form → List ℕ
date_ending_in English form = english_date_ending form
date_ending_in German form = german_date_ending form
date_ending_in French form = french_date_ending form

-- Words without a number or a name.
abbrev pub fixed_in : Language → Fixed → List ℕ
fixed_in English fixed = english_fixed fixed
fixed_in German fixed = german_fixed fixed
fixed_in French fixed = french_fixed fixed

-- What comes before a number.
abbrev pub lead_in : Language → Counted → List ℕ
lead_in English counted = english_lead counted
lead_in German counted = german_lead counted
lead_in French counted = french_lead counted

-- What comes after a number.
abbrev pub end_in : Language → Counted → List ℕ
end_in English counted = english_end counted
end_in German counted = german_end counted
end_in French counted = french_end counted

-- Other words.
abbrev pub word_in : Language → Word → List ℕ
word_in English word = english_word word
word_in German word = german_word word
word_in French word = french_word word

-- A unit of time after a number.
abbrev pub unit_in : Language → Unit → Form → List ℕ
unit_in English unit form = english_unit unit form
unit_in German unit form = german_unit unit form
unit_in French unit form = french_unit unit form
