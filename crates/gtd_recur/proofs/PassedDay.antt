-- A walk that passes over the starts that are left of its open day.
use Rattle.std.proofs.Common.{◌≡◌, ℕ, ◌+◌, ◌-◌, ◌/◌, ◌<◌, ◌≤◌, List, ◌++◌, length, arith, refl, sym, ◌∙◌, ℤ, pos, ◌+ℤ◌, ◌*ℤ◌}
use Rattle.gtd_calendar.specs.facts.Signed.{signed_arith}
use Rattle.gtd_calendar.specs.facts.ClockLemmas.{second-only}
use Rattle.gtd_core.specs.Parts.{start_parts}
use Rattle.gtd_core.specs.Seconds.{day_of_second}
use Rattle.gtd_core.specs.Whole.{to_day}
use Rattle.gtd_recur.specs.declared.walk.Walk.{Walk}
use Rattle.gtd_recur.specs.Stepping.{Stepped}
use Rattle.gtd_recur.specs.Starts.{clock_starts, starts_left}
use Rattle.gtd_recur.specs.Walking.{IsOpenBehind, walk_to_come}
use Rattle.gtd_recur.specs.facts.StartsLemmas.{length-clock, small-counts}
use Rattle.gtd_recur.proofs.SmallLemmas.{word}
use Rattle.gtd_recur.proofs.StepLemmas.{stepping, passed-count, left-passed, last-behind}

-- the second of a clock on the open day, as it is computed
pub open-second : (s : Walk) (k : ℕ) (clock : ℤ) → clock ≡ pos k → k < 86400
    → word (word (pos 86400 *ℤ word s.day) +ℤ word clock) ≡ pos 86400 *ℤ s.day +ℤ pos k
open-second s k clock e low =
    let w = s.in_window in
    let a0 = w.first_in in let a1 = w.day_in in let a2 = w.next_in in let a3 = w.end_in in let a4 = w.last_in in
    omega (arith, signed_arith, a0, a1, a2, a3, a4, e, low)

-- the starts of the open day after one of them, up to the last of the day
pub record ArePassed (s : Walk) (b : ℤ) (list : List ℤ) : Type 0 where
  pub low : s.clock ≤ s.clocks.last + 1
  pub last : s.clocks.last < 86400
  pub count : (s.clocks.last + 1 - s.clock) / s.clocks.step ≡ length list
  pub few : s.handed + length list < 50_000_000_000
  pub split : walk_to_come s ≡ list ++ starts_left (start_parts s.basic.start) s.day 86400 s.next_day (to_day s.horizon)
  pub stepped : Stepped s.clocks.step b list (pos 86400 *ℤ s.day +ℤ pos s.clocks.last)
  pub day : day_of_second (pos 86400 *ℤ s.day +ℤ pos s.clocks.last) ≡ day_of_second b

pub are-passed : (s : Walk) (b : ℤ) (o : IsOpenBehind s b)
    → ArePassed s b (clock_starts (start_parts s.basic.start) s.day (o.clock + 1))
are-passed s b o =
    let p = start_parts s.basic.start in
    let n = s.day in
    let k = o.clock in
    let last = s.clocks.last in
    let is = s.clocked.apart in
    let end = s.clocked.end in
    let low = last-behind p k last end o.low o.begins in
    let stepped = stepping p n s.clocks.step last is end last k o.begins low (omega arith) in
    let counts = small-counts p s.first s.seen n s.next_day (to_day s.horizon) s.looked s.handed _ s.in_window s.counted s.left in
    let most = length-clock p n (k + 1) in
    let here = second-only (pos 86400 *ℤ n +ℤ pos k) n k o.low refl in
    let there = second-only (pos 86400 *ℤ n +ℤ pos last) n last (omega (arith, end.0)) refl in
    let next = o.next in
    record {
      low = omega (arith, low, next);
      last = omega (arith, end.0);
      count = rw next (passed-count n s.clocks.step k last _ is.known low stepped);
      few = omega (arith, counts.3, most);
      split = rw next (left-passed p n s.next_day (to_day s.horizon) (k + 1));
      stepped = rw (o.is) stepped;
      day = rw (o.is) (there.0 ∙ sym here.0);
    }
