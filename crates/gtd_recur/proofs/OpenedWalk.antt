-- A walk that opens a day on which its start begins, or the last one that is not excluded.
use Rattle.std.proofs.Common.{◌≡◌, ℕ, ◌+◌, ◌<◌, [], false, arith, ℤ, pos, ◌+ℤ◌, ◌-ℤ◌, ◌≤ℤ◌, ◌<ℤ◌, neg_ℤ}
use Rattle.std.proofs.Common.{unsigned_abs}
use Rattle.std.specs.Prelude.{IsTrue}
use Rattle.gtd_calendar.specs.facts.Signed.{signed_arith}
use Rattle.gtd_calendar.specs.ComputedFields.{day_fields}
use Rattle.gtd_core.specs.Parts.{start_parts}
use Rattle.gtd_core.specs.Whole.{to_day}
use Rattle.gtd_recur.specs.declared.walk.Walk.{Walk}
use Rattle.gtd_recur.specs.Begins.{begins_on, month_and_year_fit}
use Rattle.gtd_recur.specs.Jumps.{IsNextRun}
use Rattle.gtd_recur.specs.Starts.{AreFitting, IsInWindow, IsLookedCount, IsOpened, clock_starts, starts_left}
use Rattle.gtd_recur.specs.Walking.{walk_to_come}
use Rattle.gtd_recur.specs.facts.StartsLemmas.{looked-window, later_by}
use Rattle.gtd_recur.proofs.SmallLemmas.{word, walk-day, run-ahead}
use Rattle.gtd_recur.proofs.WalkLemmas.{opened-left, opened-count}

-- how many days are looked at up to a day, as it is computed
abbrev computed_days : Walk → ℤ → ℤ
computed_days s n = word (word (word n +ℤ pos 1) -ℤ word s.next_day)

-- that number is what it should be, and small
pub record AreDaysPassed (s : Walk) (n : ℤ) : Type 0 where
  pub is : computed_days s n ≡ n +ℤ pos 1 -ℤ s.next_day
  pub few : unsigned_abs (n +ℤ pos 1 -ℤ s.next_day) < 400_000
  pub count : n +ℤ pos 1 ≡ s.next_day +ℤ pos (unsigned_abs (n +ℤ pos 1 -ℤ s.next_day))

pub days-passed : (s : Walk) (n : ℤ) → s.next_day ≤ℤ n → n <ℤ s.fits_until → AreDaysPassed s n
days-passed s n low high =
    let end = s.fitting.within in
    let day = walk-day s n low (omega (arith, signed_arith, high, end)) in
    let next = walk-day s s.next_day (omega (arith, signed_arith)) (omega (arith, signed_arith, low, high, end)) in
    let count = later_by s.next_day (n +ℤ pos 1) (omega (arith, signed_arith, low)) in
    record {
      is = passed n s.next_day day.is next.is next.low day.high low;
      few = some n s.next_day _ count next.low day.high;
      count = count;
    }
  where
    passed : (a b : ℤ) → word a ≡ a → word b ≡ b → neg_ℤ (pos 62_050) ≤ℤ b → a ≤ℤ pos 303_100 → b ≤ℤ a
        → word (word (word a +ℤ pos 1) -ℤ word b) ≡ a +ℤ pos 1 -ℤ b
    passed a b p q low high le = omega (arith, signed_arith)

    some : (a b : ℤ) (k : ℕ) → a +ℤ pos 1 ≡ b +ℤ pos k → neg_ℤ (pos 62_050) ≤ℤ b → a ≤ℤ pos 303_100 → k < 400_000
    some a b k e low high = omega (arith, signed_arith)

-- what holds once a day is open from a second on, and the next run of days is known
pub record IsOpenedWalk (s : Walk) (n from until : ℤ) (clock looked : ℕ) : Type 0 where
  pub same : starts_left (start_parts s.basic.start) n clock from (to_day s.horizon) ≡ walk_to_come s
  pub later : s.next_day <ℤ from
  pub in_window : IsInWindow s.first n from (to_day s.horizon)
  pub fitting : AreFitting (start_parts s.basic.start) from until (to_day s.horizon)
  pub counted : IsLookedCount (start_parts s.basic.start) s.first s.seen n from looked

pub opened-walk : (s : Walk) (n from until : ℤ) (clock : ℕ) → s.next_day ≤ℤ n → n <ℤ s.fits_until
    → ((m : ℤ) → s.next_day ≤ℤ m → m <ℤ n → begins_on (start_parts s.basic.start) (day_fields m) ≡ false)
    → clock_starts (start_parts s.basic.start) s.day s.clock ≡ [] → IsOpened (start_parts s.basic.start) n clock
    → IsNextRun (λ m. IsTrue (month_and_year_fit (start_parts s.basic.start) m)) (word n +ℤ pos 1) (to_day s.horizon) from until
    → IsOpenedWalk s (word n) (word from) (word until) clock (s.looked + unsigned_abs (computed_days s n))
opened-walk s n from until clock low high none done opened given =
    let p = start_parts s.basic.start in
    let end = to_day s.horizon in
    let w = s.in_window in
    let within = s.fitting.within in
    let day = walk-day s n low (omega (arith, signed_arith, high, within)) in
    let days = days-passed s n low high in
    let run = rw (day.is) at given in
    let d0 = day.low in
    let ahead = run-ahead p (n +ℤ pos 1) end from until (omega (arith, signed_arith, d0)) w.last_in run in
    let a0 = ahead.low in
    let later : n <ℤ from = omega (arith, signed_arith, a0) in
    let skipped : (i : ℤ) → n <ℤ i → i <ℤ from → month_and_year_fit p i ≡ false
    = λ i gt lt. ahead.skipped i (omega (arith, signed_arith, gt)) lt in
    let next_in = w.next_in in
    let window : IsInWindow s.first s.day n end = record {
      first_in = w.first_in;
      day_in = w.day_in;
      next_in = omega (arith, signed_arith, next_in, low);
      end_in = omega (arith, signed_arith, high, within);
      last_in = w.last_in;
    } in
    rw (days.is, day.is, ahead.from_is, ahead.until_is) (record {
      same = opened-left p s.day s.next_day n from end s.clock clock done opened low later ahead.high none skipped;
      later = omega (arith, signed_arith, later, low);
      in_window = looked-window s.first s.day n from end window later ahead.high;
      fitting = ahead.fitting;
      counted = opened-count p s.first s.seen s.day s.next_day n from end s.looked _ w days.count low later
          (λ i ge le. s.fitting.fit i ge (omega (arith, signed_arith, le, high))) skipped s.counted;
    })
