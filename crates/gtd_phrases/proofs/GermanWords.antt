-- The table of German is good.
use Rattle.std.proofs.Common.{◌≡◌, true, refl}
use Rattle.gtd_languages.specs.German.{german_weekday, german_month, german_of_month, german_beginning, german_day}
use Rattle.gtd_languages.specs.German.{german_list_lead, german_run_lead, german_list_last, german_run_to, german_list_end}
use Rattle.gtd_languages.specs.German.{german_place_lead, german_place_end, german_back_lead, german_back_end}
use Rattle.gtd_languages.specs.German.{german_date_lead, german_each_lead, german_monday, german_ordinal}
use Rattle.gtd_languages.specs.German.{german_date_ending, german_fixed, german_lead, german_end, german_word, german_unit}
use Rattle.gtd_phrases.specs.Grammar.{Group, First, Later, NoMonth, AfterHour, AfterMinute, AfterMinuteAnd, AfterSecondOf}
use Rattle.gtd_phrases.specs.Grammar.{AfterEndHour, AfterEnd, AfterEndDay}
use Rattle.gtd_phrases.specs.Runs.{run_of}
use Rattle.gtd_phrases.specs.Pieces.{after, before, days_words, figures_of, weekday_if_set, weekday_list}
use Rattle.gtd_phrases.specs.declared.phrase.Language.TheVariants.{German}
use Rattle.gtd_phrases.proofs.Beginnings.{is_begun}
use Rattle.gtd_phrases.proofs.Closers.{is_closed}
use Rattle.gtd_phrases.proofs.Marks.{is_marked}
use Rattle.gtd_phrases.proofs.Tables.{Good, is_good}

german_places : (place : Group) → is_good German place ≡ true
unfolding after before days_words figures_of weekday_if_set weekday_list run_of german_weekday german_month
    german_of_month german_beginning german_day german_list_lead german_run_lead german_list_last german_run_to
    german_list_end german_place_lead german_place_end german_back_lead german_back_end german_date_lead
    german_each_lead german_monday german_ordinal german_date_ending german_fixed german_lead german_end german_word
    german_unit
german_places First = refl
german_places Later = refl
german_places NoMonth = refl
german_places AfterHour = refl
german_places AfterMinute = refl
german_places AfterMinuteAnd = refl
german_places AfterSecondOf = refl
german_places AfterEndHour = refl
german_places AfterEnd = refl
german_places AfterEndDay = refl

pub german_good : Good German
german_good = record { places = german_places }

pub german_tried : (is_begun German ≡ true) × (is_closed German ≡ true) × (is_marked German ≡ true)
unfolding after before days_words figures_of weekday_if_set weekday_list run_of german_weekday german_month
    german_of_month german_beginning german_day german_list_lead german_run_lead german_list_last german_run_to
    german_list_end german_place_lead german_place_end german_back_lead german_back_end german_date_lead
    german_each_lead german_monday german_ordinal german_date_ending german_fixed german_lead german_end german_word
    german_unit
german_tried = (refl, refl, refl)
