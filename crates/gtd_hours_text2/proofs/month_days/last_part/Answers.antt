-- The last part is that of the parts before it and it.
use Rattle.std.proofs.Common.{◌≡◌, ◌∙◌, ap, sym, refl, List, [], ◌∷◌, ◌++◌}
use Rattle.std.specs.Prelude.{Some}
use Rattle.gtd_hours2.specs.declared.values.RulePart.{RulePart}
use Rattle.gtd_hours_text2.specs.Parts.{last_part}
use Rattle.gtd_hours_text2.proofs.month_days.last_part.Goals as goal

last_of : (xs : List RulePart) (x : RulePart) → last_part (xs ++ x ∷ []) ≡ Some x
last_of [] x = refl
last_of (y ∷ []) x = refl
last_of (y ∷ z ∷ xs) x = last_of (z ∷ xs) x

pub returns-in-Some : goal.returns-in-Some
returns-in-Some c =
    sym (ap last_part (c.in-Some.ensures.cases).0 ∙ last_of c.in-Some.field-0-1.now c.in-Some.last.now)
