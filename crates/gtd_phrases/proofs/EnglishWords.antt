-- The table of English is good.
use Rattle.std.proofs.Common.{◌≡◌, true, refl}
use Rattle.gtd_languages.specs.English.{english_weekday, english_month, english_of_month, english_beginning, english_day}
use Rattle.gtd_languages.specs.English.{english_list_lead, english_run_lead, english_list_last, english_run_to}
use Rattle.gtd_languages.specs.English.{english_list_end, english_place_lead, english_place_end, english_back_lead}
use Rattle.gtd_languages.specs.English.{english_back_end, english_date_lead, english_each_lead, english_monday}
use Rattle.gtd_languages.specs.English.{english_ordinal, english_date_ending, english_fixed, english_lead, english_end}
use Rattle.gtd_languages.specs.English.{english_word, english_unit}
use Rattle.gtd_phrases.specs.Grammar.{Group, First, Later, NoMonth, AfterHour, AfterMinute, AfterMinuteAnd, AfterSecondOf}
use Rattle.gtd_phrases.specs.Grammar.{AfterEndHour, AfterEnd, AfterEndDay}
use Rattle.gtd_phrases.specs.Runs.{run_of}
use Rattle.gtd_phrases.specs.Pieces.{after, before, days_words, figures_of, weekday_if_set, weekday_list}
use Rattle.gtd_phrases.specs.declared.phrase.Language.TheVariants.{English}
use Rattle.gtd_phrases.proofs.Beginnings.{is_begun}
use Rattle.gtd_phrases.proofs.Closers.{is_closed}
use Rattle.gtd_phrases.proofs.Marks.{is_marked}
use Rattle.gtd_phrases.proofs.Tables.{Good, is_good}

english_places : (place : Group) → is_good English place ≡ true
unfolding after before days_words figures_of weekday_if_set weekday_list run_of english_weekday english_month
    english_of_month english_beginning english_day english_list_lead english_run_lead english_list_last english_run_to
    english_list_end english_place_lead english_place_end english_back_lead english_back_end english_date_lead
    english_each_lead english_monday english_ordinal english_date_ending english_fixed english_lead english_end
    english_word english_unit
english_places First = refl
english_places Later = refl
english_places NoMonth = refl
english_places AfterHour = refl
english_places AfterMinute = refl
english_places AfterMinuteAnd = refl
english_places AfterSecondOf = refl
english_places AfterEndHour = refl
english_places AfterEnd = refl
english_places AfterEndDay = refl

pub english_good : Good English
english_good = record { places = english_places }

pub english_tried : (is_begun English ≡ true) × (is_closed English ≡ true) × (is_marked English ≡ true)
unfolding after before days_words figures_of weekday_if_set weekday_list run_of english_weekday english_month
    english_of_month english_beginning english_day english_list_lead english_run_lead english_list_last english_run_to
    english_list_end english_place_lead english_place_end english_back_lead english_back_end english_date_lead
    english_each_lead english_monday english_ordinal english_date_ending english_fixed english_lead english_end
    english_word english_unit
english_tried = (refl, refl, refl)
