-- A second is in a basic domain, or it is not.
use Rattle.std.proofs.Common.{subst, inl, inr, ℕ, zero, suc, arith}
use Rattle.std.specs.Prelude.{ℤ, pos, ◌+ℤ◌, ◌-ℤ◌, ◌≤ℤ◌, ◌<ℤ◌}
use Rattle.std.proofs.lemmas.Int.{ints, by_lt_z}
use Rattle.gtd_calendar.specs.facts.ClockLemmas.{stop-bound}
use Rattle.gtd_calendar.specs.ComputedEnds.{stop}
use Rattle.gtd_core.specs.Ranges.{bound_of}
use Rattle.gtd_core.specs.declared.duration.DurationParts.{DurationParts}
use Rattle.gtd_core.specs.declared.start.StartParts.{StartParts}
use Rattle.gtd_recur.specs.Begins.{begins}
use Rattle.gtd_core.specs.facts.Deciding.{Decided, at_most, below, both, is_true}
use Rattle.gtd_recur.specs.ComputedStretches.{InComputedStretches, IsHeldToStop}
use Rattle.gtd_recur.specs.Membership.{InStretches}
use Rattle.gtd_recur.specs.facts.MembershipLemmas.{from_computed, to_computed}

module _ (p : StartParts) (q : DurationParts) (s : ℤ) where
  held_from : (b : ℤ) → Decided (IsHeldToStop p q b s)
  held_from b =
      elim (is_true (begins p b)) [
        | inl begun ↦ elim (both (b ≤ℤ s) (s <ℤ stop q b) (at_most b s) (below s (stop q b))) [
          | inl held ↦ inl (begun, held.0, held.1)
          | inr never ↦ inr (λ h. never (h.1, h.2))
        ]
        | inr never ↦ inr (λ h. never h.0)
      ]

  -- the stretch of some start from so many seconds before on holds the second
  held_within : (n : ℕ) → Decided ((b : ℤ) × (s ≤ℤ (b +ℤ pos n)) × IsHeldToStop p q b s)
  held_within zero =
      elim (held_from s) [
        | inl h ↦ inl (s, omega (arith, ints), h)
        | inr never ↦ inr (λ h. never (subst (λ (b : ℤ). IsHeldToStop p q b s) (omega (arith, ints, h.1, h.2.1)) h.2))
      ]
  held_within (suc n) =
      elim (held_within n) [
        | inl h ↦ inl (h.0, omega (arith, ints, h.1), h.2)
        | inr later ↦ elim (held_from (s -ℤ pos (suc n))) [
          | inl h ↦ inl (s -ℤ pos (suc n), omega (arith, ints), h)
          | inr never ↦ inr (λ h. by_lt_z {P = ⊥} (h.0 +ℤ pos n) s
              (λ lt. never (subst (λ (b : ℤ). IsHeldToStop p q b s) (omega (arith, ints, lt, h.1)) h.2))
              (λ le. later (h.0, le, h.2)))
        ]
      ]

  -- the stretch of some start holds the second or does not: no stretch is longer than its bound
  computed : Decided (InComputedStretches p q s)
  computed =
      elim (held_within (bound_of q)) [
        | inl h ↦ inl (h.0, h.2)
        | inr never ↦ inr (λ h. never (h.0, (let e = (stop-bound q h.0).1 in omega (arith, ints, h.1.2, e)), h.1))
      ]

  pub in_stretches : Decided (InStretches p q s)
  in_stretches =
      elim computed [ inl h ↦ inl (from_computed p q s h) | inr never ↦ inr (λ h. never (to_computed p q s h)) ]
