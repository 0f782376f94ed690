-- What remarks, rules that say days alone and years add to the warnings of a text.
use Rattle.std.proofs.Common.{◌≡◌, ◌∙◌, ◌+◌, ◌≤◌, sym, ap, subst, arith, ℕ, suc, List, ◌∷◌, length, take}
use Rattle.std.specs.Prelude.{OnOk, Option, Some, Result, Ok, Err}
use Rattle.std.specs.List.{prefix_len}
use Rattle.std.proofs.lemmas.List.{take_all}
use Rattle.gtd_hours_holidays.specs.declared.known_years.KnownYears.{KnownYears}
use Rattle.gtd_hours_loose.specs.declared.strict.StrictForm.{StrictForm}
use Rattle.gtd_hours_moments.specs.Reading.{IsMomentText}
use Rattle.gtd_hours_moments.specs.declared.placed.Placed.{Placed}
use Rattle.gtd_hours_moments.specs.declared.text.MomentText.{MomentText}
use Rattle.gtd_hours_warnings.specs.Marks.{AddsRemarks, AddsWholeDays, AddsWholeDaysAt, AddsYears}
use Rattle.gtd_hours_warnings.specs.Marks.{IsKnownYearsWarning}
use Rattle.gtd_hours_warnings.specs.Marks.{IsRemarkWarning, IsWholeDayWarning, comment_of, is_unquoted}
use Rattle.gtd_hours_warnings.specs.Warnings.{place_in, put_in, strict_text}
use Rattle.gtd_hours_warnings.specs.WholeDays.{ArePlainDays, AreWholeDays, written_places}
use Rattle.gtd_hours_warnings.specs.declared.warnings.Warning.{Warning}

-- the bytes of a comment up to its second quote
pub comment_cut : (bytes inner : List ℕ) (quote n : ℕ) → bytes ≡ quote ∷ inner → n ≡ prefix_len is_unquoted inner
    → take (n + 2) bytes ≡ comment_of bytes
comment_cut bytes inner quote n e count =
    rw e (ap (λ (k : ℕ). take k (quote ∷ inner)) (step n (prefix_len is_unquoted inner) count))
  where
    step : (n m : ℕ) → n ≡ m → n + 2 ≡ suc (m + 1)
    step n m e = omega (arith, e)

-- and all of them, if it has none
pub comment_whole : (bytes inner : List ℕ) (quote n : ℕ) → bytes ≡ quote ∷ inner → n ≡ prefix_len is_unquoted inner
    → length inner ≤ n → bytes ≡ comment_of bytes
comment_whole bytes inner quote n e count many =
    rw e (ap (λ (l : List ℕ). quote ∷ l) (sym (take_all (prefix_len is_unquoted inner + 1) inner (omega (arith, count, many)))))

-- one warning more, and those that the other places add
pub remarks_left : (text : List ℕ) (form : Option StrictForm) (all more : List ℕ) (place : ℕ) (w : Warning)
    (before after found : List Warning) → all ≡ place ∷ more → IsRemarkWarning text form place w → after ≡ put_in w before
    → AddsRemarks text form more after found → AddsRemarks text form all before found
remarks_left text form all more place w before after found e is put adds =
    subst (λ (l : List ℕ). AddsRemarks text form l before found) (sym e)
    (w, is, subst (λ (l : List Warning). AddsRemarks text form more l found) put adds)

pub whole_days_left : (text : List ℕ) (form : Option StrictForm) (all more : List ℕ) (place : ℕ) (w : Warning)
    (before after found : List Warning) → all ≡ place ∷ more → IsWholeDayWarning (place_in text form place) w
    → after ≡ put_in w before → AddsWholeDaysAt text form more after found → AddsWholeDaysAt text form all before found
whole_days_left text form all more place w before after found e is put adds =
    subst (λ (l : List ℕ). AddsWholeDaysAt text form l before found) (sym e)
    (w, is, subst (λ (l : List Warning). AddsWholeDaysAt text form more l found) put adds)

-- the places of rules of the checked text are led back
pub whole_days_found : (text : List ℕ) (moments : MomentText) (checked plain own found : List ℕ) (forms : List Placed)
    → IsMomentText text moments → checked ≡ moments.checked.text.items → ArePlainDays checked plain → own ≡ plain
    → forms ≡ moments.checked.places.items → found ≡ written_places (length text) forms own → AreWholeDays text found
whole_days_found text moments checked plain own found forms is e days same f led =
    AreWholeDays.tokens moments plain is (subst (λ (t : List ℕ). ArePlainDays t plain) e days)
    (led ∙ ap (λ (l : List Placed). written_places (length text) l own) f
    ∙ ap (written_places (length text) moments.checked.places.items) same)

-- the rules of the strict form are looked through
pub whole_days_put : {E : Type 0} (text : List ℕ) (form : Option StrictForm) (strict places found : List ℕ)
    (result : Result (Unit {0}) E) (before after : List Warning) → strict ≡ strict_text text form → AreWholeDays strict found
    → places ≡ found → OnOk result (AddsWholeDaysAt text form places before after)
    → OnOk result (AddsWholeDays text form before after)
whole_days_put text form strict places found (Ok done) before after e are same adds = record {
  places = found;
  are = subst (λ (t : List ℕ). AreWholeDays t found) e are;
  put = subst (λ (l : List ℕ). AddsWholeDaysAt text form l before after) same adds;
}
whole_days_put text form strict places found (Err why) before after e are same adds = tt

pub years_put : {E : Type 0} (place : ℕ) (given : Option KnownYears) (years : KnownYears) (w : Warning)
    (result : Result (Unit {0}) E) (before after : List Warning) → given ≡ Some years → IsKnownYearsWarning place years w
    → OnOk result (after ≡ put_in w before) → OnOk result (AddsYears place given before after)
years_put place given years w (Ok done) before after e is put =
    subst (λ (o : Option KnownYears). AddsYears place o before after) (sym e) (w, is, put)
years_put place given years w (Err why) before after e is put = tt
