-- What repeats and closes an element in a period closes it from then on; and what is open then: nothing.
use Rattle.std.proofs.Common.{◌≡◌, sym, subst, arith, ◌<◌, inl, inr, ◌↔◌, ◌⊎◌, ℕ, zero, suc, List, [], ◌∷◌, length}
use Rattle.std.specs.Prelude.{Any, ℤ, pos, ◌+ℤ◌, ◌-ℤ◌, ◌≤ℤ◌, ◌<ℤ◌, slice_index_or, unsigned_abs}
use Rattle.std.proofs.lemmas.Int.{ints, by_lt_z}
use Rattle.gtd_core.specs.Seconds.{Interval}
use Rattle.gtd_core.specs.Whole.{whole}
use Rattle.gtd_core.specs.declared.horizon.Horizon.{Horizon}
use Rattle.gtd_spans.specs.Normal.{Holds, IsNormal}
use Rattle.gtd_spans.specs.facts.NormalFor.{normal-for}
use Rattle.gtd_eval.specs.Cursors.{SomeHolds}
use Rattle.gtd_eval.specs.Membership.{IsNormalOver}
use Rattle.gtd_eval.specs.Periods.{Period, period_seconds, RepeatsFrom}
use Rattle.gtd_eval.specs.facts.PeriodFacts.{from-longer, some-period}
use Rattle.gtd_records.specs.Closing.{Closes, Concerns, HoldsAt, IsClosed, IsOpen, Restriction}
use Rattle.gtd_records.specs.ClosingCursors.{AddsRepeating, ClosesRepeating, IsClosedRepeating}
use Rattle.gtd_records.specs.declared.closing_cursors.ClosingCursors.{ClosingCursors}
use Rattle.gtd_rows.specs.declared.direction.Direction.{Direction}

-- a set that has each second of a period has each later one
within-many : (set : ℤ → Type 0) (w from : ℤ) → pos 0 <ℤ w → ((t : ℤ) → set t → set (t +ℤ w))
    → ((t : ℤ) → from ≤ℤ t → t <ℤ (from +ℤ w) → set t) → (k : ℕ) (t : ℤ) → from ≤ℤ t → t <ℤ (from +ℤ pos k) → set t
within-many set w from some on all zero t late early = absurd (omega (arith, ints, late, early))
within-many set w from some on all (suc k) t late early =
    by_lt_z {P = set t} t (from +ℤ w)
    (λ lt. all t late lt)
    (λ ge.
    let before = within-many set w from some on all k (t -ℤ w) (omega (arith, ints, ge)) (omega (arith, ints, some, early)) in
    let back : (t -ℤ w) +ℤ w ≡ t = omega (arith, ints) in
    subst set back (on (t -ℤ w) before))

pub for-ever : (set : ℤ → Type 0) (x : Period) (from until : ℤ) → RepeatsFrom x set
    → period_seconds x ≤ℤ (until -ℤ from) → ((t : ℤ) → from ≤ℤ t → t <ℤ until → set t) → (t : ℤ) → from ≤ℤ t → set t
for-ever set x from until repeats enough all t late =
    let n : ℕ = unsigned_abs (t -ℤ from) in
    within-many set (period_seconds x) from (some-period x)
    (λ u h. (repeats x (omega (arith, ints)) u).0 h)
    (λ u a b. all u a (omega (arith, ints, b, enough))) (suc n) t late (grind (arith, ints))

module _ (rows : List Restriction) (element : ℕ) (direction : Direction) (vehicle : ℕ) where
  -- restrictions that repeat close the element at seconds that repeat
  pub closed-repeats : (x : Period) → RepeatsFrom x (IsClosedRepeating x rows element direction vehicle)
  closed-repeats x y le t = (
    (λ a. moved t (t +ℤ period_seconds y) a (λ r. (a.4.repeats y le t).0 r)),
    (λ a. moved (t +ℤ period_seconds y) t a (λ r. (a.4.repeats y le t).1 r)),
  )
    where
      moved : (a b : ℤ) → (found : IsClosedRepeating x rows element direction vehicle a)
          → (HoldsAt found.1.domain a → HoldsAt found.1.domain b) → IsClosedRepeating x rows element direction vehicle b
      moved a b found holds = (
        found.0,
        found.1,
        found.2,
        found.3,
        record {
          closes = record {
            names = found.4.closes.names;
            concerns = found.4.closes.concerns;
            holds = holds found.4.closes.holds;
          };
          repeats = found.4.repeats;
        },
      )

  -- and they close it
  pub closed-again : (x : Period) (t : ℤ) → IsClosedRepeating x rows element direction vehicle t
      → IsClosed rows element direction vehicle t
  closed-again x t a = (a.0, a.1, a.2, a.3, a.4.closes)

  -- if they close it at each second of some days that have a period, they do from these on
  pub closed-for-ever : (x : Period) (days : Horizon) (have : ℤ → Type 0)
      → period_seconds x ≤ℤ ((whole days).until -ℤ (whole days).from)
      → ((t : ℤ) → have t → IsClosedRepeating x rows element direction vehicle t)
      → ((t : ℤ) → (whole days).from ≤ℤ t → t <ℤ (whole days).until → have t)
      → (t : ℤ) → (whole days).from ≤ℤ t → IsClosed rows element direction vehicle t
  closed-for-ever x days have enough again all t late =
      closed-again x t (for-ever (IsClosedRepeating x rows element direction vehicle) x (whole days).from (whole days).until
      (closed-repeats x) enough (λ u a b. again u (all u a b)) t late)

  -- one more restriction
  pub added-again : (old new : ClosingCursors) (k : ℕ) (r : Restriction) → k < length rows → r ≡ slice_index_or rows k r
      → r.element ≡ element → Concerns direction vehicle r → AddsRepeating (HoldsAt r.domain) old new
      → ((t : ℤ) → SomeHolds old.repeating.items t → IsClosedRepeating old.period rows element direction vehicle t)
      → (t : ℤ) → SomeHolds new.repeating.items t → IsClosedRepeating new.period rows element direction vehicle t
  added-again old new k r there at names concerns adds are t h = elim (adds.added t h) [
    | inl before ↦
        let a = are t before in (
          a.0,
          a.1,
          a.2,
          a.3,
          record {
            closes = a.4.closes;
            repeats = from-longer old.period new.period (HoldsAt a.1.domain) adds.longer a.4.repeats;
          },
        )
    | inr added ↦ (
      k,
      r,
      there,
      sym at,
      record { closes = record { names = names; concerns = concerns; holds = added.0 }; repeats = added.1 },
    )
  ]

  -- what is closed at each second has no open one
  pub nothing-open : (horizon : Horizon) (list : List Interval)
      → ((t : ℤ) → (whole horizon).from ≤ℤ t → IsClosed rows element direction vehicle t)
      → ((t : ℤ) → Holds list t → ⊥) → IsNormal list → IsNormalOver (IsOpen rows element direction vehicle) horizon list
  nothing-open horizon list closed none normal =
      normal-for (IsOpen rows element direction vehicle) (whole horizon).from (whole horizon).until list normal
      (λ t. ((λ h. absurd (none t h)), (λ q. absurd (q.2 (closed t q.0)))))
