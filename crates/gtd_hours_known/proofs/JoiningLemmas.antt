-- The kinds of a rule with days of holidays.
use Rattle.std.proofs.Common.{◌≡◌, ap, refl, Bool, List, [], ◌∷◌, ◌++◌}
use Rattle.gtd_hours.specs.declared.hours.Selector.{Selector}
use Rattle.gtd_hours_known.specs.Joining.{last_with, with_days}

-- only the last kind changes
pub days_last : (led : Bool) (order : List Bool) (days : List Selector) (kinds : List (List Selector)) (last : List Selector)
    → with_days led order days (kinds ++ last ∷ []) ≡ kinds ++ last_with led order days last
days_last led order days [] last = refl
days_last led order days (k ∷ []) last = refl
days_last led order days (k ∷ more ∷ kinds) last =
    ap (λ (l : List (List Selector)). k ∷ l) (days_last led order days (more ∷ kinds) last)
