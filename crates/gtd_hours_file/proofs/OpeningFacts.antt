-- Hours of which no rule opens are open at no second.
use Rattle.std.proofs.Common.{◌≡◌, Bool, true, false, List, [], ◌∷◌, refl}
use Rattle.std.specs.Prelude.{◌||◌, ℤ}
use Rattle.std.specs.List.{list_any}
use Rattle.gtd_hours.specs.Opening.{IsClosedBy, IsOpenAfter, IsOpenBy}
use Rattle.gtd_hours.specs.declared.hours.Link.{Link}
use Rattle.gtd_hours.specs.declared.hours.Link.TheVariants as link
use Rattle.gtd_hours.specs.declared.hours.Modifier.{Modifier}
use Rattle.gtd_hours.specs.declared.hours.Modifier.TheVariants.{Open, Closed}
use Rattle.gtd_hours.specs.declared.hours.Rule.{Rule}
use Rattle.gtd_hours_file.specs.Warnings.{opens}

-- what is not open before a rule that closes is not open after it
closed_by : (m : Modifier) (l : Link) (rule : Rule) (WasOpen WasClosed : Type 0) (s : ℤ) → (WasOpen → ⊥) → opens m ≡ false
    → IsOpenBy m l rule WasOpen WasClosed s → ⊥
closed_by Open l rule WasOpen WasClosed s closed none held = absurd cc
closed_by Closed link.Instead rule WasOpen WasClosed s closed none held = closed held.0
closed_by Closed link.Also rule WasOpen WasClosed s closed none held = closed held.0
closed_by Closed link.Fallback rule WasOpen WasClosed s closed none held = closed held

first_none : (a b : Bool) → (a || b) ≡ false → a ≡ false
first_none true b none = absurd cc
first_none false b none = refl

rest_none : (a b : Bool) → (a || b) ≡ false → b ≡ false
rest_none true b none = absurd cc
rest_none false b none = none

pub open_by_none : (rules : List Rule) (WasOpen WasClosed : Type 0) (s : ℤ) → (WasOpen → ⊥)
    → list_any (λ (rule : Rule). opens rule.modifier) rules ≡ false → IsOpenAfter rules WasOpen WasClosed s → ⊥
open_by_none [] WasOpen WasClosed s closed none held = closed held
open_by_none (rule ∷ rules) WasOpen WasClosed s closed none held =
    let here = first_none (opens rule.modifier) (list_any (λ (r : Rule). opens r.modifier) rules) none in
    let rest = rest_none (opens rule.modifier) (list_any (λ (r : Rule). opens r.modifier) rules) none in
    open_by_none rules (IsOpenBy rule.modifier rule.link rule WasOpen WasClosed s)
    (IsClosedBy rule.modifier rule.link rule WasOpen WasClosed s) s
    (closed_by rule.modifier rule.link rule WasOpen WasClosed s closed here) rest held
