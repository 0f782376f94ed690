-- The table of French is good.
use Rattle.std.proofs.Common.{◌≡◌, true, refl}
use Rattle.gtd_languages.specs.French.{french_weekday, french_month, french_of_month, french_beginning, french_day}
use Rattle.gtd_languages.specs.French.{french_list_lead, french_run_lead, french_list_last, french_run_to, french_list_end}
use Rattle.gtd_languages.specs.French.{french_place_lead, french_place_end, french_back_lead, french_back_end}
use Rattle.gtd_languages.specs.French.{french_date_lead, french_each_lead, french_monday, french_ordinal}
use Rattle.gtd_languages.specs.French.{french_date_ending, french_fixed, french_lead, french_end, french_word, french_unit}
use Rattle.gtd_phrases.specs.Grammar.{Group, First, Later, NoMonth, AfterHour, AfterMinute, AfterMinuteAnd, AfterSecondOf}
use Rattle.gtd_phrases.specs.Grammar.{AfterEndHour, AfterEnd, AfterEndDay}
use Rattle.gtd_phrases.specs.Runs.{run_of}
use Rattle.gtd_phrases.specs.Pieces.{after, before, days_words, figures_of, weekday_if_set, weekday_list}
use Rattle.gtd_phrases.specs.declared.phrase.Language.TheVariants.{French}
use Rattle.gtd_phrases.proofs.Beginnings.{is_begun}
use Rattle.gtd_phrases.proofs.Closers.{is_closed}
use Rattle.gtd_phrases.proofs.Marks.{is_marked}
use Rattle.gtd_phrases.proofs.Tables.{Good, is_good}

french_places : (place : Group) → is_good French place ≡ true
unfolding after before days_words figures_of weekday_if_set weekday_list run_of french_weekday french_month
    french_of_month french_beginning french_day french_list_lead french_run_lead french_list_last french_run_to
    french_list_end french_place_lead french_place_end french_back_lead french_back_end french_date_lead
    french_each_lead french_monday french_ordinal french_date_ending french_fixed french_lead french_end french_word
    french_unit
french_places First = refl
french_places Later = refl
french_places NoMonth = refl
french_places AfterHour = refl
french_places AfterMinute = refl
french_places AfterMinuteAnd = refl
french_places AfterSecondOf = refl
french_places AfterEndHour = refl
french_places AfterEnd = refl
french_places AfterEndDay = refl

pub french_good : Good French
french_good = record { places = french_places }

pub french_tried : (is_begun French ≡ true) × (is_closed French ≡ true) × (is_marked French ≡ true)
unfolding after before days_words figures_of weekday_if_set weekday_list run_of french_weekday french_month
    french_of_month french_beginning french_day french_list_lead french_run_lead french_list_last french_run_to
    french_list_end french_place_lead french_place_end french_back_lead french_back_end french_date_lead
    french_each_lead french_monday french_ordinal french_date_ending french_fixed french_lead french_end french_word
    french_unit
french_tried = (refl, refl, refl)
