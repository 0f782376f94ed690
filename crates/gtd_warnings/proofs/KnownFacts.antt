-- Days with the same ends are the same.
use mathlib.Core.HLevel.{is_prop→PathP}
use Rattle.std.proofs.Common.{◌≡◌, true}
use Rattle.std.proofs.Props.{props}
use Rattle.std.proofs.lemmas.Bool.{and_parts}
use Rattle.std.specs.Cmp.{signed_Decides}
use Rattle.std.specs.Ordering.{int_eq}
use Rattle.std.specs.Prelude.{ℤ, pos, neg_ℤ, ◌&&◌, ◌<ℤ◌, ◌≤ℤ◌, ◌-ℤ◌}
use Rattle.gtd_core.specs.declared.horizon.Horizon.{Horizon}

same_horizon : (a b : Horizon) → a.from_day ≡ b.from_day → a.to_day ≡ b.to_day → a ≡ b
same_horizon a b from to = λ i. record {
  from_day = from i;
  to_day = to i;
  not_empty = is_prop→PathP (λ j. from j <ℤ to j) (λ j. hlevel props) a.not_empty b.not_empty i;
  not_early = is_prop→PathP (λ j. neg_ℤ (pos 25_202) ≤ℤ from j) (λ j. hlevel props) a.not_early b.not_early i;
  not_late = is_prop→PathP (λ j. to j ≤ℤ pos 266_627) (λ j. hlevel props) a.not_late b.not_late i;
  not_long = is_prop→PathP (λ j. (to j -ℤ from j) ≤ℤ pos 146_098) (λ j. hlevel props) a.not_long b.not_long i;
}

same_number : (x y : ℤ) → int_eq x y ≡ true → x ≡ y
same_number x y t = (signed_Decides x y).0 t

pub same_days : (a b : Horizon) → (int_eq a.from_day b.from_day && int_eq a.to_day b.to_day) ≡ true → a ≡ b
same_days a b t =
    let parts = and_parts (int_eq a.from_day b.from_day) (int_eq a.to_day b.to_day) t in
    same_horizon a b (same_number a.from_day b.from_day parts.0) (same_number a.to_day b.to_day parts.1)
