-- Rules that hide hours come after another one.
use Rattle.std.proofs.Common.{refl, ℕ, suc, List, [], ◌∷◌, arith}
use Rattle.std.specs.List.{Contains}
use Rattle.std.proofs.lemmas.Option.{slice_get_within}
use Rattle.gtd_hours.specs.declared.hours.Hours.{Hours}
use Rattle.gtd_hours_hidden.specs.Hides.{Hides}
use Rattle.gtd_hours_warnings.specs.Warnings.{AreRules}

contains_first : (k : ℕ) (ks : List ℕ) → Contains (k ∷ ks) k
contains_first k ks = (0, omega arith, refl)

contains_later : (x k : ℕ) (ks : List ℕ) → Contains ks k → Contains (x ∷ ks) k
contains_later x k ks is = (suc is.0, omega (arith, is.1), is.2)

pub are_rules : (hours : Hours) (ks : List ℕ) → ((k : ℕ) → Contains ks k → Hides hours.rules.items k) → AreRules hours ks
are_rules hours [] hide = tt
are_rules hours (k ∷ ks) hide =
    let h = hide k (contains_first k ks) in (
      (let e = h.1.order in omega (arith, e)),
      slice_get_within hours.rules.items k h.1.later h.1.is_later,
      are_rules hours ks (λ x is. hide x (contains_later k x ks is)),
    )
