-- What the pieces of a line say in a language. The order of the parts of a phrase is the same in each language.
use Rattle.std.specs.Prelude.{ℕ, ◌+◌, ◌-◌, ◌/◌, ◌%◌, ◌^◌, ◌==◌, Bool, true, false, List, [], ◌∷◌, ◌++◌, if◌then◌else◌, codes}
use Rattle.std.specs.Prelude.{decimal}
use Rattle.gtd_languages.specs.Forms.{form_of}
use Rattle.gtd_phrases.specs.Runs.{run_of}
use Rattle.gtd_phrases.specs.Tables.{back_end_in, back_lead_in, beginning_in, date_ending_in, date_lead_in, day_in}
use Rattle.gtd_phrases.specs.Tables.{each_lead_in}
use Rattle.gtd_phrases.specs.Tables.{end_in, fixed_in, lead_in, list_end_in, list_last_in, list_lead_in, monday_in, month_in}
use Rattle.gtd_phrases.specs.Tables.{of_month_in, ordinal_in, place_end_in, place_lead_in, run_lead_in, run_to_in, unit_in}
use Rattle.gtd_phrases.specs.Tables.{weekday_in, word_in}
use Rattle.gtd_languages.specs.declared.word.Counted.{Counted}
use Rattle.gtd_languages.specs.declared.word.Counted.TheVariants.{AtMinute, AtSecond, EndHour, EndMinute, EndSecond, FromHour}
use Rattle.gtd_languages.specs.declared.word.Counted.TheVariants.{OfYear, YearAlone}
use Rattle.gtd_phrases.specs.declared.phrase.Figures.{Figures}
use Rattle.gtd_phrases.specs.declared.phrase.Figures.TheVariants.{Nothing, Plain, Two, Four}
use Rattle.gtd_languages.specs.declared.word.Form.{Form}
use Rattle.gtd_phrases.specs.declared.phrase.Language.{Language}
use Rattle.gtd_phrases.specs.declared.phrase.Phrase.{Phrase}
use Rattle.gtd_phrases.specs.declared.phrase.Phrase.TheVariants.{Also, BackOf, BeginningOf, DateOf, DateOfEach, DaysOf}
use Rattle.gtd_phrases.specs.declared.phrase.Phrase.TheVariants.{Lasting, MondayOf, Numbered, OfMonth, PlaceOf, Said, UntilDate}
use Rattle.gtd_phrases.specs.declared.phrase.Phrase.TheVariants.{UntilFebruary, UntilHour, UntilWeekday}
use Rattle.gtd_phrases.specs.declared.phrase.Piece.{Piece}
use Rattle.gtd_languages.specs.declared.word.Role.{Role}
use Rattle.gtd_languages.specs.declared.word.Word.TheVariants.{And, Comma, For, OfEach, UntilDay, UntilThe, UntilTheEnd}
use Rattle.gtd_languages.specs.declared.word.Word.TheVariants.{UntilTime}

-- ---- numbers

-- How the number of a phrase is written.
abbrev pub counted_figures : Counted → Figures
counted_figures YearAlone = Four
counted_figures OfYear = Four
counted_figures FromHour = Two
counted_figures AtMinute = Two
counted_figures AtSecond = Two
counted_figures EndHour = Two
counted_figures EndMinute = Two
counted_figures EndSecond = Two
counted_figures other = Plain

unfoldable pub figures_of : Phrase → Figures
figures_of (DateOf named month) = Plain
figures_of (DateOfEach named) = Plain
figures_of (Numbered counted) = counted_figures counted
figures_of (Lasting unit) = Plain
figures_of (Also unit) = Plain
figures_of (UntilHour after) = Two
figures_of (UntilDate after month) = Plain
figures_of other = Nothing

abbrev pub two_digits : ℕ → List ℕ
two_digits n = (48 + n / 10) ∷ (48 + n % 10) ∷ []

abbrev pub four_digits : ℕ → List ℕ
four_digits n = (48 + n / 1000) ∷ (48 + n / 100 % 10) ∷ (48 + n / 10 % 10) ∷ (48 + n % 10) ∷ []

unfoldable pub number_text : Figures → ℕ → List ℕ
number_text Nothing n = []
number_text Plain n = decimal n
number_text Two n = two_digits n
number_text Four n = four_digits n

-- ---- weekdays

-- What comes before the name of a weekday in a list of them: nothing if it is the first, and these words if it is the last.
abbrev pub weekday_joint : List ℕ → ℕ → ℕ → List ℕ
weekday_joint last weekdays k =
    if weekdays % 2 ^ (k - 1) == 0 then [] else (if weekdays / 2 ^ k == 0 then last else codes ", ")

-- The name of weekday k, where bit k - 1 is set.
unfoldable pub weekday_if_set : Language → Role → ℕ → ℕ → List ℕ
weekday_if_set language role weekdays k =
    if weekdays / 2 ^ (k - 1) % 2 == 1 then weekday_joint (list_last_in language role) weekdays k
    ++ day_in language role k else []

-- `Monday`, `Monday and Friday`, `Monday, Wednesday and Friday`; or with ` or ` before the last
unfoldable pub weekday_list : Language → Role → ℕ → List ℕ
weekday_list language role weekdays =
    weekday_if_set language role weekdays 1 ++ weekday_if_set language role weekdays 2
    ++ weekday_if_set language role weekdays 3 ++ weekday_if_set language role weekdays 4
    ++ weekday_if_set language role weekdays 5 ++ weekday_if_set language role weekdays 6
    ++ weekday_if_set language role weekdays 7

-- `Monday to Friday`
abbrev pub run_words : Language → Role → ℕ × ℕ → List ℕ
run_words language role run =
    run_lead_in language role ++ day_in language role run.0 ++ run_to_in language role ++ day_in language role run.1

-- weekdays as a run, or else as a list
unfoldable pub days_words : Language → Role → ℕ → List ℕ
days_words language role weekdays =
    (if (run_of weekdays).0 == 0 then list_lead_in language role ++ weekday_list language role weekdays
    else run_words language role (run_of weekdays)) ++ list_end_in language role

-- ---- phrases

-- An end after a duration has words between them.
abbrev pub comma : Language → Bool → List ℕ
comma language true = word_in language Comma
comma language false = []

-- The words before the number of a phrase, or all its words if it has none.
unfoldable pub before : Language → Phrase → List ℕ
before language (DateOf named month) = date_lead_in language named
before language (DateOfEach named) = each_lead_in language named
before language (PlaceOf role n weekday) =
    place_lead_in language role n ++ weekday_in language weekday ++ place_end_in language role
before language (BackOf role n weekday) =
    back_lead_in language role n ++ weekday_in language weekday ++ back_end_in language role n
before language (DaysOf role weekdays) = days_words language role weekdays
before language (MondayOf named) = monday_in language named
before language (BeginningOf month) = beginning_in language month
before language (OfMonth month) = of_month_in language month
before language (Said fixed) = fixed_in language fixed
before language (Numbered counted) = lead_in language counted
before language (Lasting unit) = word_in language For
before language (Also unit) = word_in language And
before language (UntilHour after) = comma language after ++ word_in language UntilTime
before language (UntilWeekday after weekday) =
    comma language after ++ word_in language UntilDay ++ weekday_in language weekday
before language (UntilDate after month) = comma language after ++ word_in language UntilThe
before language (UntilFebruary after) = comma language after ++ word_in language UntilTheEnd

-- The words after the number of a phrase.
unfoldable pub after : Language → Phrase → Form → List ℕ
after language (DateOf named month) form = date_ending_in language form ++ codes " " ++ month_in language month ++ codes " "
after language (DateOfEach named) form = ordinal_in language form ++ word_in language OfEach
after language (Numbered counted) form = end_in language counted
after language (Lasting unit) form = codes " " ++ unit_in language unit form
after language (Also unit) form = codes " " ++ unit_in language unit form
after language (UntilHour later) form = codes ":"
after language (UntilDate later month) form = date_ending_in language form ++ codes " " ++ month_in language month
after language other form = []

-- A phrase with its number.
unfoldable pub phrase_text : Language → Phrase → ℕ → List ℕ
phrase_text language phrase n =
    before language phrase ++ number_text (figures_of phrase) n ++ after language phrase (form_of n)

-- The pieces, one after the other.
abbrev pub text : Language → List Piece → List ℕ
text language [] = []
text language (piece ∷ pieces) = phrase_text language piece.phrase piece.number ++ text language pieces
