-- Lists of parts, taken from their first part on: for `push_list`.
use Rattle.std.proofs.Common.{◌≡◌, refl, Bool, true, false, List, [], ◌∷◌, ◌++◌, not, ◌&&◌, if◌then◌else◌}
use Rattle.std.specs.Prelude.{Option, Some, None}
use Rattle.gtd_hours2.specs.declared.values.PartKind.{PartKind}
use Rattle.gtd_hours2.specs.declared.values.RulePart.{RulePart}
use Rattle.gtd_hours2.specs.Rules.{has_kind, is_of, is_some_part, of_kind}
use Rattle.gtd_hours2.specs.Written.{listed_text, more_text, rest_text}

some_by : (b : Bool) → (leads : Bool) → (k : PartKind) → (x : RulePart) → (xs : List RulePart)
    → has_kind leads k xs ≡ is_some_part (of_kind leads k xs)
    → (if b then true else has_kind leads k xs) ≡ is_some_part (if b then x ∷ of_kind leads k xs else of_kind leads k xs)
some_by true leads k x xs h = refl
some_by false leads k x xs h = h

pub has_some : (leads : Bool) → (k : PartKind) → (xs : List RulePart) → has_kind leads k xs ≡ is_some_part (of_kind leads k xs)
has_some leads k [] = refl
has_some leads k (x ∷ xs) = some_by (is_of leads k x) leads k x xs (has_some leads k xs)

pub rest_more : (before : Option RulePart) → (follows : Bool) → (x : RulePart) → (ys : List RulePart)
    → rest_text before follows (x ∷ ys) ≡ listed_text before (follows && not (is_some_part ys)) x ++ more_text x ys
rest_more None follows x ys = refl
rest_more (Some before) follows x ys = refl
