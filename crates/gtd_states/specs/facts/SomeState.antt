-- An element has a state at each second.
use Rattle.std.proofs.Common.{◌≡◌, refl, subst, arith, ◌+◌, ◌⊎◌, inl, inr, ℕ, zero, suc, List}
use Rattle.std.proofs.Common.{Option, Some, None}
use Rattle.std.specs.Prelude.{ℤ, pos, ◌+ℤ◌, ◌-ℤ◌, ◌*ℤ◌, negsuc, ◌≤ℤ◌, ◌<ℤ◌, MatchOption}
use Rattle.std.proofs.lemmas.Int.{ints, by_lt_z}
use Rattle.gtd_core.specs.Limits.{horizons_end, most_horizon_days}
use Rattle.gtd_core.specs.Seconds.{day_of_second, IsHorizonSecond}
use Rattle.gtd_records.specs.facts.OpenDecisions.{open_or_not}
use Rattle.gtd_core.specs.facts.Deciding.{Decided}
use Rattle.gtd_records.specs.Closing.{IsOpen, Restriction}
use Rattle.gtd_rows.specs.declared.direction.Direction.{Direction}
use Rattle.gtd_report.specs.facts.SomeClosingRows.{some_rows}
use Rattle.gtd_spans.specs.Change.{IsNextChange, NeverChanges, SameAt}
use Rattle.gtd_states.specs.States.{IsLookEnd, IsState, State, none_closes}
use Rattle.gtd_states.specs.facts.DayFacts.{looks_at}
use Rattle.gtd_states.specs.facts.RowFacts.{open_by_rows}

-- ---- the end

pub some_end : (day : ℤ) → (last : ℤ) × IsLookEnd day last
some_end day =
    by_lt_z {P = (last : ℤ) × IsLookEnd day last} horizons_end (day +ℤ pos most_horizon_days)
    (λ lt. (horizons_end, inr (refl, lt)))
    (λ ge. (day +ℤ pos most_horizon_days, inl (refl, ge)))

-- ---- the change

module _ (set : ℤ → Type 0) (decided : (t : ℤ) → Decided (set t)) (s : ℤ) where
  same : (t : ℤ) → Decided (SameAt set s t)
  same t =
      elim (decided s) [
        | inl a ↦ elim (decided t) [ inl b ↦ inl ((λ h. b), (λ h. a)) | inr b ↦ inr (λ h. b (h.0 a)) ]
        | inr a ↦ elim (decided t) [ inl b ↦ inr (λ h. a (h.1 b)) | inr b ↦ inl ((λ h. absurd (a h)), (λ h. absurd (b h))) ]
      ]

  abbrev Found : ℤ → ℕ → Type 0
  Found t n = ((u : ℤ) → t ≤ℤ u → u <ℤ (t +ℤ pos n) → SameAt set s u)
      ⊎ ((c : ℤ) × (t ≤ℤ c) × (c <ℤ (t +ℤ pos n)) × (SameAt set s c → ⊥) × ((u : ℤ) → t ≤ℤ u → u <ℤ c → SameAt set s u))

  look : (n : ℕ) (t : ℤ) → Found t n
  look zero t = inl (λ u low high. absurd (omega (arith, ints, low, high)))
  look (suc n) t =
      elim (same t) [
        | inr differs ↦ inr (
          t,
          omega (arith, ints),
          omega (arith, ints),
          differs,
          (λ u low high. absurd (omega (arith, ints, low, high))),
        )
        | inl h ↦ elim (look n (t +ℤ pos 1)) [
          | inl all ↦ inl (λ u low high. first t u h (λ k. all u k (omega (arith, ints, high))) low)
          | inr r ↦ inr (
            r.0,
            omega (arith, ints, r.1),
            omega (arith, ints, r.2),
            r.3,
            (λ u low high. first t u h (λ k. r.4 u k high) low),
          )
        ]
      ]
    where
      first : (t u : ℤ) → SameAt set s t → ((t +ℤ pos 1) ≤ℤ u → SameAt set s u) → t ≤ℤ u → SameAt set s u
      first t u h more low =
          by_lt_z {P = SameAt set s u} t u (λ lt. more (omega (arith, ints, lt)))
          (λ ge. let e : t ≡ u = omega (arith, ints, ge, low) in subst (λ (z : ℤ). SameAt set s z) e h)

  some_change : (until : ℤ) (n : ℕ) → (s +ℤ pos (n + 1)) ≡ until
      → (o : Option ℤ) × MatchOption o (NeverChanges set s until) (λ c. IsNextChange set s until c)
  some_change until n e =
      elim (look n (s +ℤ pos 1)) [
        | inl all ↦ (None, (λ t later early. all t (omega (arith, ints, later)) (omega (arith, ints, e, early))))
        | inr r ↦ (
          Some r.0,
          record {
            later = omega (arith, ints, r.1);
            within = omega (arith, ints, r.2, e);
            differs = r.3;
            least = λ t later early. r.4 t (omega (arith, ints, later)) early;
          },
        )
      ]

-- ---- the state

gap : (s until : ℤ) → s <ℤ until → (n : ℕ) × ((s +ℤ pos (n + 1)) ≡ until)
gap s until lt = by_sign ((until -ℤ s) -ℤ pos 1) refl
  where
    by_sign : (d : ℤ) → ((until -ℤ s) -ℤ pos 1) ≡ d → (n : ℕ) × ((s +ℤ pos (n + 1)) ≡ until)
    by_sign (pos n) e = (n, omega (arith, ints, e))
    by_sign (negsuc n) e = absurd (omega (arith, ints, e, lt))

pub some_state : (found : List Restriction) (element : ℕ) (direction : Direction) (vehicle : ℕ) (second : ℤ)
    → IsHorizonSecond second → (state : State) × IsState found element direction vehicle second state
some_state found element direction vehicle second range =
    let e = some_end (day_of_second second) in
    let g = gap second (e.0 *ℤ pos 86400) (looks_at second (day_of_second second) e.0 range refl e.1).1 in
    let c = some_change (IsOpen found element direction vehicle) (open_or_not found element direction vehicle) second
    (e.0 *ℤ pos 86400) g.0 g.1 in
    let r = some_rows found element direction vehicle second in (
      record { is_open = none_closes r.0; change = c.0; rows = r.0 },
      record {
        opens = open_by_rows found element direction vehicle second r.0 r.1;
        last = e.0;
        ends = e.1;
        until = c.1;
        closing = r.1;
      },
    )
