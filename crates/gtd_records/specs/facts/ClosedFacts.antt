-- What is open of an element that no restriction closes, or one without a domain does: all, or nothing.
use Rattle.std.proofs.Common.{◌≡◌, sym, subst, inl, inr, ℕ, List, [], ◌∷◌, length, arith}
use Rattle.std.specs.Prelude.{Any, Option, ℤ, slice_index_or}
use Rattle.std.proofs.lemmas.Int.{ints}
use Rattle.gtd_core.specs.Seconds.{Interval}
use Rattle.gtd_core.specs.Trees.{Tree}
use Rattle.gtd_core.specs.Whole.{whole}
use Rattle.gtd_core.specs.declared.horizon.Horizon.{Horizon}
use Rattle.gtd_eval.specs.Membership.{IsNormalOver}
use Rattle.gtd_spans.specs.Normal.{Holds, IsNormal}
use Rattle.gtd_spans.specs.facts.NormalFor.{normal-for}
use Rattle.gtd_records.specs.ClosedWhen.{ClosesAlways, ConcernsElement}
use Rattle.gtd_records.specs.Closing.{Closes, HoldsAt, IsOpen, Restriction}
use Rattle.gtd_rows.specs.declared.direction.Direction.{Direction}

module _ (rows : List Restriction) (element : ℕ) (direction : Direction) (vehicle : ℕ) where
  -- an element that no restriction concerns is open throughout
  pub never_closed : (horizon : Horizon) (list : List Interval) → (Any (ConcernsElement element direction vehicle) rows → ⊥)
      → list ≡ whole horizon ∷ [] → IsNormalOver (IsOpen rows element direction vehicle) horizon list
  never_closed horizon list none same =
      normal-for (IsOpen rows element direction vehicle) (whole horizon).from (whole horizon).until list
      (subst IsNormal (sym same) (omega (arith, ints, horizon.not_empty), tt, tt))
      (λ t. (
        (λ h. elim (subst (λ (l : List Interval). Holds l t) same h) [
          | inl w ↦ (w.0, w.1, free t)
          | inr z ↦ absurd z
        ]),
        (λ q. subst (λ (l : List Interval). Holds l t) (sym same) (inl (q.0, q.1))),
      ))
    where
      free : (t : ℤ) → IsOpen rows element direction vehicle t
      free t = λ a. none (a.0, a.1, a.2, a.3, record { names = a.4.names; concerns = a.4.concerns })

  -- one that a restriction without a domain closes has no open second
  pub always_closed : (horizon : Horizon) (list : List Interval) → Any (ClosesAlways element direction vehicle) rows
      → ((t : ℤ) → Holds list t → ⊥) → IsNormal list → IsNormalOver (IsOpen rows element direction vehicle) horizon list
  always_closed horizon list some none normal =
      normal-for (IsOpen rows element direction vehicle) (whole horizon).from (whole horizon).until list normal
      (λ t. ((λ h. absurd (none t h)), (λ q. absurd (q.2 (closed t)))))
    where
      closed : (t : ℤ) → Any (Closes element direction vehicle t) rows
      closed t = (
        some.0,
        some.1,
        some.2,
        some.3,
        record {
          names = some.4.names;
          concerns = some.4.concerns;
          holds = subst (λ (d : Option Tree). HoldsAt d t) (sym some.4.always) tt;
        },
      )
