-- What is added to the warnings of a text, and what is shown of a text with a comma.
use Rattle.std.proofs.Common.{◌≡◌, refl, sym, subst, Bool, true, false, List, [], ◌∷◌, ◌++◌, ℕ}
use Rattle.std.specs.Prelude.{Option, Some, None}
use Rattle.gtd_hours.specs.declared.hours.Hours.{Hours}
use Rattle.gtd_hours_loose.specs.declared.strict.Part.{Part}
use Rattle.gtd_hours_loose.specs.declared.strict.StrictForm.{StrictForm}
use Rattle.gtd_hours_warnings.specs.Forms.{IsFaulty, IsReadIf}
use Rattle.gtd_hours_warnings.specs.Warnings.{AddsHides, AreRules, IsHidesWarning, IsLooseWarning, IsPut, put_in}
use Rattle.gtd_hours_warnings.specs.declared.warnings.Warning.{Warning}

-- a text of which no hours are read is at fault
pub faulty : (text : List ℕ) (found : Option Hours) → IsReadIf text found → ((hours : Hours) → found ≡ Some hours → ⊥)
    → IsFaulty text
faulty text (Some hours) is none = absurd (none hours refl)
faulty text None is none = is

-- the warning of a part that is written loosely is put behind the others
pub one_put : (b : Bool) (strict : List ℕ) (p : Part) (w : Warning) (before after : List Warning) → b ≡ true
    → IsLooseWarning strict p w → after ≡ before ++ w ∷ [] → IsPut b strict p before after
one_put true strict p w before after e is put = (w, is, put)
one_put false strict p w before after e is put = absurd cc

-- ---- rules

first_rule : (hours : Hours) (all more : List ℕ) (k : ℕ) → all ≡ k ∷ more → AreRules hours all → AreRules hours (k ∷ more)
first_rule hours all more k e are = subst (AreRules hours) e are

pub rules_left : (hours : Hours) (all more : List ℕ) (k : ℕ) → all ≡ k ∷ more → AreRules hours all → AreRules hours more
rules_left hours all more k e are = (first_rule hours all more k e are).2

-- one warning more, and those that the other rules add
pub hides_left : (text : List ℕ) (hours : Hours) (form : Option StrictForm) (all more : List ℕ) (k : ℕ) (w : Warning)
    (before after found : List Warning) → all ≡ k ∷ more → IsHidesWarning text hours form k w → after ≡ put_in w before
    → AddsHides text hours form more after found → AddsHides text hours form all before found
hides_left text hours form all more k w before after found e is put adds =
    subst (λ (l : List ℕ). AddsHides text hours form l before found) (sym e)
    (w, is, subst (λ (l : List Warning). AddsHides text hours form more l found) put adds)
