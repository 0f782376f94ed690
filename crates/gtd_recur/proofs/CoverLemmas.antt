-- A day's latest start decides, and no start before the lookback matters.
use Rattle.std.proofs.Common.{◌≡◌, ℕ, ◌+◌, ◌-◌, ◌/◌, ◌<◌, ◌≤◌, true, Option, Some, None, refl, sym, ◌∙◌, arith, ℤ, pos, ◌+ℤ◌}
use Rattle.std.proofs.Common.{◌-ℤ◌, ◌*ℤ◌, ◌<ℤ◌, ◌≤ℤ◌, int_lt}
use Rattle.std.specs.Prelude.{is_some, IsTrue, MatchOption, ◌↔◌}
use Rattle.std.proofs.lemmas.Bool.{and_parts, and_from, both_ways, false≢true}
use Rattle.gtd_core.specs.declared.second.Sec.{Sec}
use Rattle.gtd_core.specs.Limits.{first_horizon_day, horizons_end}
use Rattle.gtd_calendar.specs.facts.Signed.{signed_arith}
use Rattle.gtd_core.specs.declared.start.StartParts.{StartParts}
use Rattle.gtd_core.specs.declared.duration.DurationParts.{DurationParts}
use Rattle.gtd_core.specs.Limits.{last_second_of_day}
use Rattle.gtd_core.specs.Ranges.{bound_of, lookback_of}
use Rattle.gtd_calendar.specs.facts.ClockLemmas.{second-parts, second-only, stop-same_day, stop-bound}
use Rattle.gtd_calendar.specs.ComputedFields.{day_fields}
use Rattle.gtd_core.specs.Seconds.{day_of_second, IsHorizonSecond}
use Rattle.gtd_calendar.specs.Clock.{second_of_day}
use Rattle.gtd_calendar.specs.ComputedEnds.{stop}
use Rattle.gtd_recur.specs.Begins.{begins, begins_on, begins_at}
use Rattle.gtd_recur.specs.ClockSearch.{IsLatestBegin}
use Rattle.gtd_recur.specs.Membership.{InStretches}
use Rattle.gtd_recur.specs.facts.MembershipLemmas.{from_computed, to_computed}
use Rattle.gtd_recur.specs.Changes.{IsStretchEnd}
use Rattle.gtd_recur.specs.ComputedStretches.{IsHeldFromDay, IsHeldFromDays, IsLatestNotAfter}
use borrow.Author.Differences.{up, down, true_is_lt}

pub begins-parts : (p : StartParts) (b : ℤ) → begins p b ≡ true → (begins_on p (day_fields (day_of_second b)) ≡ true)
    × (begins_at p (second_of_day b) ≡ true)
unfolding begins
begins-parts p b h = and_parts _ _ h

pub begins-from : (p : StartParts) (n : ℤ) (k : ℕ) → k < 86400 → begins_on p (day_fields n) ≡ true → begins_at p k ≡ true
    → begins p (pos 86400 *ℤ n +ℤ pos k) ≡ true
unfolding begins
begins-from p n k low on at =
    let is = second-only (pos 86400 *ℤ n +ℤ pos k) n k low refl in
    rw (is.0, is.1) (and_from _ _ on at)

-- where a start of a day stands in it
started : (p : StartParts) (q : DurationParts) (n s : ℤ) (held : IsHeldFromDay p q n s)
    → (held.0 ≡ pos 86400 *ℤ n +ℤ pos (second_of_day held.0)) × (second_of_day held.0 < 86400)
    × ((pos 86400 *ℤ n +ℤ pos (second_of_day held.0)) ≤ℤ s)
    × (begins_on p (day_fields n) ≡ true) × (begins_at p (second_of_day held.0) ≡ true)
started p q n s held =
    let parts = rw held.1 at (second-parts held.0) in
    let fit = rw held.1 at (begins-parts p held.0 held.2.0) in
    (parts.0, parts.1, rw (← parts.0) held.2.1, fit.0, fit.1)

-- a day with no start up to the second holds nothing
pub no_latest : (p : StartParts) (q : DurationParts) (n s : ℤ) → IsLatestNotAfter p n s None → ¬ (IsHeldFromDay p q n s)
no_latest p q n s latest held =
    let at = started p q n s held in both_ways _ (latest (second_of_day held.0) at.1 at.2) at.4

-- the latest start of the day holds what any start of the day holds
pub held_by_latest : (p : StartParts) (q : DurationParts) (n s : ℤ) (k : ℕ) → IsLatestNotAfter p n s (Some k)
    → IsHeldFromDay p q n s → (begins_on p (day_fields n) ≡ true) × (s <ℤ stop q (pos 86400 *ℤ n +ℤ pos k))
held_by_latest p q n s k latest held =
    let at = started p q n s held in
    let none : ¬ (k < second_of_day held.0) = λ lt. both_ways _ (latest.3 (second_of_day held.0) lt at.1 at.2) at.4 in
    let is = second-only (pos 86400 *ℤ n +ℤ pos k) n k latest.0 refl in
    let apart = rw is.1 at (stop-same_day q held.0 (pos 86400 *ℤ n +ℤ pos k) (held.1 ∙ sym is.0)) in
    (at.3, ends s (stop q held.0) (stop q (pos 86400 *ℤ n +ℤ pos k)) (second_of_day held.0) k none held.2.2 apart)
  where
    ends : (s a b : ℤ) (j k : ℕ) → ¬ (k < j) → s <ℤ a → a +ℤ pos k ≡ b +ℤ pos j → s <ℤ b
    ends s a b j k none lt e = omega (arith, signed_arith)

-- and it holds the second if it ends after it
pub latest_holds : (p : StartParts) (q : DurationParts) (n s : ℤ) (k : ℕ) → IsLatestNotAfter p n s (Some k)
    → begins_on p (day_fields n) ≡ true → s <ℤ stop q (pos 86400 *ℤ n +ℤ pos k) → IsHeldFromDay p q n s
latest_holds p q n s k latest on lt =
    let is = second-only (pos 86400 *ℤ n +ℤ pos k) n k latest.0 refl in
    (pos 86400 *ℤ n +ℤ pos k, is.0, (begins-from p n k latest.0 on latest.1, latest.2, lt))

-- its end is then that of a stretch that holds the second
pub latest_ends : (p : StartParts) (q : DurationParts) (n s : ℤ) (k : ℕ) (e : ℤ) → IsLatestNotAfter p n s (Some k)
    → begins_on p (day_fields n) ≡ true → e ≡ stop q (pos 86400 *ℤ n +ℤ pos k) → s <ℤ e → IsStretchEnd p q s e
latest_ends p q n s k e latest on is lt =
    (pos 86400 *ℤ n +ℤ pos k, (begins-from p n k latest.0 on latest.1, latest.2, rw is at lt), is)

-- what is known where there is no end may be said otherwise
pub or-none : {P Q : Type 0} (E : Sec → Type 0) (o : Option Sec) → (P → Q) → MatchOption o P E → MatchOption o Q E
or-none E None f h = f h
or-none E (Some e) f h = h

-- a basic domain contains a second exactly if a stretch that holds it has an end
pub end-tells : (p : StartParts) (q : DurationParts) (s : ℤ) (o : Option Sec)
    → MatchOption o (InStretches p q s → ⊥) (λ e. IsStretchEnd p q s e.0) → IsTrue (is_some o) ↔ InStretches p q s
end-tells p q s None h = ((λ e. absurd (false≢true e)), (λ m. absurd (h m)))
end-tells p q s (Some e) h = ((λ t. from_computed p q s (h.0, h.1)), (λ m. refl))

-- a stretch that holds a second begins on its day or at most the lookback before
pub held_in_lookback : (p : StartParts) (q : DurationParts) (s : ℤ) → InStretches p q s → (k : ℕ) × (k ≤ lookback_of q)
    × IsHeldFromDay p q (day_of_second s -ℤ pos k) s
held_in_lookback p q s member =
    let held = to_computed p q s member in
    let here = second-parts s in
    let there = second-parts held.0 in
    let reach = (stop-bound q held.0).1 in
    let k = up (day_of_second s) + down (day_of_second held.0) - (down (day_of_second s) + up (day_of_second held.0)) in
    let near = within s held.0 (day_of_second s) (day_of_second held.0) (stop q held.0) (second_of_day s) (second_of_day held.0)
    (bound_of q) here.0 here.1 there.0 there.1 held.1.1 held.1.2 reach in
    (k, near.0, (held.0, near.1, held.1))
  where
    within : (s b n m e : ℤ) (i j bound : ℕ) → s ≡ pos 86400 *ℤ n +ℤ pos i → i < 86400 → b ≡ pos 86400 *ℤ m +ℤ pos j → j < 86400
        → b ≤ℤ s → s <ℤ e → e ≤ℤ (b +ℤ pos bound)
        → (up n + down m - (down n + up m) ≤ (bound + 86399) / 86400) × (m ≡ n -ℤ pos (up n + down m - (down n + up m)))
    within s b n m e i j bound p lowi q lowj le lt reach = (omega (arith, signed_arith), omega (arith, signed_arith))

-- a stretch from some day holds the second
pub from_day : (p : StartParts) (q : DurationParts) (n s : ℤ) → IsHeldFromDay p q n s → InStretches p q s
from_day p q n s held = from_computed p q s (held.0, held.2)

-- the day's latest start up to the second, found up to the second's own place in its day
pub latest_today : (p : StartParts) (s : ℤ) (o : Option ℕ) → IsLatestBegin p (second_of_day s) o
    → IsLatestNotAfter p (day_of_second s) s o
latest_today p s None h = let here = second-parts s in λ j low le. h j (before s (day_of_second s) (second_of_day s) j here.0 le)
  where
    before : (s n : ℤ) (i j : ℕ) → s ≡ pos 86400 *ℤ n +ℤ pos i → (pos 86400 *ℤ n +ℤ pos j) ≤ℤ s → j ≤ i
    before s n i j e le = omega (arith, signed_arith)
latest_today p s (Some k) h =
    let here = second-parts s in (
      omega arith,
      h.1,
      after s (day_of_second s) (second_of_day s) k here.0 h.0,
      λ j later low le. h.2 j later (before s (day_of_second s) (second_of_day s) j here.0 le),
    )
  where
    before : (s n : ℤ) (i j : ℕ) → s ≡ pos 86400 *ℤ n +ℤ pos i → (pos 86400 *ℤ n +ℤ pos j) ≤ℤ s → j ≤ i
    before s n i j e le = omega (arith, signed_arith)

    after : (s n : ℤ) (i k : ℕ) → s ≡ pos 86400 *ℤ n +ℤ pos i → k ≤ i → (pos 86400 *ℤ n +ℤ pos k) ≤ℤ s
    after s n i k e le = omega (arith, signed_arith)

-- on an earlier day it is the latest of the whole day
pub latest_before : (p : StartParts) (n s : ℤ) (o : Option ℕ) → n <ℤ day_of_second s → IsLatestBegin p last_second_of_day o
    → IsLatestNotAfter p n s o
latest_before p n s None lt h = λ j low le. h j (omega arith)
latest_before p n s (Some k) lt h =
    let here = second-parts s in
    (omega arith, h.1, after s n (day_of_second s) (second_of_day s) k here.0 lt h.0, λ j later low le. h.2 j later (omega arith))
  where
    after : (s n m : ℤ) (i k : ℕ) → s ≡ pos 86400 *ℤ m +ℤ pos i → n <ℤ m → k ≤ 86399 → (pos 86400 *ℤ n +ℤ pos k) ≤ℤ s
    after s n m i k e lt le = omega (arith, signed_arith)

-- no stretch from an earlier day holds a second if the last one of a day ends on it
pub ends-on-day : (p : StartParts) (q : DurationParts) (low s : ℤ) (k : ℕ) → IsLatestBegin p last_second_of_day (Some k)
    → (pos k +ℤ pos (bound_of q)) ≤ℤ pos 86400 → IsHeldFromDays p q low (day_of_second s) s → ⊥
ends-on-day p q low s k latest ends (m, from, before, held) =
    let at = started p q m s held in
    let here = second-parts s in
    let none : ¬ (k < second_of_day held.0) = λ lt. both_ways _ (latest.2 (second_of_day held.0) lt (omega (arith, at.1))) at.4 in
    past s held.0 (stop q held.0) m (day_of_second s) (second_of_day held.0) k (bound_of q) (second_of_day s) here.0 before at.0
    none held.2.2 (stop-bound q held.0).1 ends
  where
    past : (s b e m n : ℤ) (j k bound i : ℕ) → s ≡ pos 86400 *ℤ n +ℤ pos i → m <ℤ n → b ≡ pos 86400 *ℤ m +ℤ pos j → ¬ (k < j)
        → s <ℤ e → e ≤ℤ (b +ℤ pos bound) → (pos k +ℤ pos bound) ≤ℤ pos 86400 → ⊥
    past s b e m n j k bound i is before begun none lt reach ends = omega (arith, signed_arith)

-- the days of the seconds that horizons have
pub horizon-day : (s : ℤ) → IsHorizonSecond s → (first_horizon_day ≤ℤ day_of_second s) × (day_of_second s ≤ℤ pos 266626)
horizon-day s h =
    let parts = second-parts s in
    within s (day_of_second s) (second_of_day s) h.0 h.1 parts.0 parts.1
  where
    within : (s n : ℤ) (k : ℕ) → (first_horizon_day *ℤ pos 86400) ≤ℤ s → s <ℤ (horizons_end *ℤ pos 86400) → s ≡ pos 86400 *ℤ n
        +ℤ pos k → k < 86400
        → (first_horizon_day ≤ℤ n) × (n ≤ℤ pos 266626)
    within s n k a b e lt = (omega (arith, signed_arith), omega (arith, signed_arith))

-- a test of two signed numbers
pub test_from_lt : (a b : ℤ) → a <ℤ b → int_lt a b ≡ true
test_from_lt a b h = sym (true_is_lt a b (omega (arith, signed_arith)))

pub lt_from_test : (a b : ℤ) → int_lt a b ≡ true → a <ℤ b
lt_from_test a b h = omega (arith, signed_arith)
