-- The days and years that the code computes with are small: a word of 64 bits holds them as they are.
use Rattle.std.proofs.Common.{◌≡◌, arith, ℤ, pos, neg_ℤ, false, ◌+ℤ◌, ◌-ℤ◌, ◌≤ℤ◌, ◌<ℤ◌, to_z, of_z, w64}
use Rattle.std.specs.Prelude.{IsTrue}
use Rattle.std.proofs.lemmas.Bool.{false_from_ne_true}
use Rattle.gtd_calendar.specs.facts.Signed.{signed_arith}
use Rattle.gtd_core.specs.declared.start.StartParts.{StartParts}
use Rattle.gtd_core.specs.Limits.{horizons_end}
use Rattle.gtd_core.specs.Whole.{to_day}
use Rattle.gtd_recur.specs.declared.walk.Walk.{Walk}
use Rattle.gtd_recur.specs.Begins.{month_and_year_fit}
use Rattle.gtd_recur.specs.Jumps.{IsNextRun}
use Rattle.gtd_recur.specs.Starts.{AreFitting}
use Rattle.gtd_recur.specs.facts.StartsLemmas.{run-small}

-- a number as it is read back from a word of 64 bits
abbrev pub word : ℤ → ℤ
word n = to_z w64 (of_z w64 n)

-- A word holds the number, and those beside it. The bounds leave out no day of a window and no year of the calendar.
pub record IsSmall (n : ℤ) : Type 0 where
  pub is : word n ≡ n
  pub before : word (n -ℤ pos 1) ≡ n -ℤ pos 1
  pub after : word (n +ℤ pos 1) ≡ n +ℤ pos 1
  pub low : neg_ℤ (pos 62_050) ≤ℤ n
  pub high : n ≤ℤ pos 303_100

pub small-day : (n : ℤ) → neg_ℤ (pos 62_050) ≤ℤ n → n ≤ℤ pos 303_100 → IsSmall n
small-day n low high = record {
  is = omega (arith, signed_arith);
  before = omega (arith, signed_arith);
  after = omega (arith, signed_arith);
  low = low;
  high = high;
}

-- the years of the calendar are small
pub year-small : (y : ℤ) → (pos 1800 ≤ℤ y) × (y ≤ℤ pos 2701) → IsSmall y
year-small y h = let a = h.0 in let b = h.1 in small-day y (omega (arith, signed_arith, a)) (omega (arith, signed_arith, b))

-- and so are the days of a walk that are still to be looked at
pub walk-day : (s : Walk) (n : ℤ) → s.next_day ≤ℤ n → n ≤ℤ to_day s.horizon → IsSmall n
walk-day s n low high =
    let w = s.in_window in
    let a0 = w.first_in in let a1 = w.day_in in let a2 = w.next_in in let a4 = w.last_in in
    small-day n (omega (arith, signed_arith, a0, a1, a2, low)) (omega (arith, signed_arith, a4, high))

-- A run of days that no given month or year excludes, as a word holds it. The days before it, from a day on, are excluded.
pub record IsRunAhead (p : StartParts) (day end from until : ℤ) : Type 0 where
  pub from_is : word from ≡ from
  pub until_is : word until ≡ until
  pub low : day ≤ℤ from
  pub high : from ≤ℤ end
  pub fitting : AreFitting p from until end
  pub skipped : (n : ℤ) → day ≤ℤ n → n <ℤ from → month_and_year_fit p n ≡ false

pub run-ahead : (p : StartParts) (day end from until : ℤ) → neg_ℤ (pos 62_050) ≤ℤ day → end ≤ℤ horizons_end
    → IsNextRun (λ n. IsTrue (month_and_year_fit p n)) day end from until → IsRunAhead p day end from until
run-ahead p day end from until low high run =
    let small = run-small _ day end from until (omega (arith, signed_arith, low)) high run in
    let a = run.order in let b = run.within in
    record {
      from_is = small.0;
      until_is = small.1;
      low = run.low;
      high = omega (arith, signed_arith, a, b);
      fitting = record { within = b; some = run.some; fit = run.run };
      skipped = λ n ge lt. false_from_ne_true _ (run.skipped n ge lt);
    }
