-- Whether what comes next fits can be told, at the places from which a piece is given.
use Rattle.std.proofs.Common.{◌≡◌, ℕ, ◌≤◌, ◌↔◌, Bool, true, false, Option, Some, refl}
use Rattle.std.specs.Prelude.{nat_le, ◌==◌}
use Rattle.std.proofs.lemmas.Bool.{le-leb, leb-true, eq-eqb, eqb-true}
use Rattle.gtd_hours.specs.Ranges.{IsMonth, IsWeekday}
use Rattle.gtd_hours_tokens.specs.declared.token.TokenKind.TheVariants as token
use Rattle.gtd_hours_parts.specs.declared.digits.Digits.{Digits}
use Rattle.gtd_hours_parts.specs.declared.clock.ClockTime.{ClockTime}
use Rattle.gtd_hours_parts.specs.Numbers.{IsWeekNumber, IsYearNumber}
use Rattle.gtd_hours_parts.specs.Times.{IsBegin}
use Rattle.gtd_hours_moves.specs.Terms.{TokenKind, Stage, Place}
use Rattle.gtd_hours_moves.specs.declared.stage.Stage.TheVariants as stage
use Rattle.gtd_hours_moves.specs.Sound.{Fits, ListedFits, MonthFits, NumberFits, TimeFits}
use Rattle.gtd_hours_moves.specs.Moves.{written, clock}
use Rattle.gtd_hours_moves.specs.facts.RunSteps.{yes, denied}

pub record SomeBit (A : Type 0) : Type 0 where
  pub fits : Bool
  pub is : (fits ≡ true) ↔ A

pub yes_bit : (A : Type 0) → A → SomeBit A
yes_bit A a = record { fits = true; is = yes A a }

pub no_bit : (A : Type 0) → (A → ⊥) → SomeBit A
no_bit A none = record { fits = false; is = denied A none }

le_bit : (a b : ℕ) → SomeBit (a ≤ b)
le_bit a b = record { fits = nat_le a b; is = (leb-true a b, le-leb a b) }

eq_bit : (a b : ℕ) → SomeBit (a ≡ b)
eq_bit a b = record { fits = a == b; is = (eqb-true a b, eq-eqb a b) }

both_by : (A B : Type 0) (a b : Bool) → ((a ≡ true) ↔ A) → ((b ≡ true) ↔ B) → SomeBit (A × B)
both_by A B true true h k = yes_bit (A × B) (h.0 refl, k.0 refl)
both_by A B true false h k = no_bit (A × B) (λ x. let e : false ≡ true = k.1 x.1 in cc)
both_by A B false b h k = no_bit (A × B) (λ x. let e : false ≡ true = h.1 x.0 in cc)

both_bits : (A B : Type 0) → SomeBit A → SomeBit B → SomeBit (A × B)
both_bits A B a b = both_by A B a.fits b.fits a.is b.is

-- two claims of the same sense
as_bit : (A B : Type 0) → (A → B) → (B → A) → SomeBit A → SomeBit B
as_bit A B to back a = record { fits = a.fits; is = (λ e. to (a.is.0 e), λ b. a.is.1 (back b)) }

pub month_bit : (m : ℕ) → SomeBit (IsMonth m)
month_bit m = both_bits (1 ≤ m) (m ≤ 12) (le_bit 1 m) (le_bit m 12)

weekday_bit : (k : ℕ) → SomeBit (IsWeekday k)
weekday_bit k = both_bits (1 ≤ k) (k ≤ 7) (le_bit 1 k) (le_bit k 7)

pub begin_bit : (t : ClockTime) → SomeBit (IsBegin t)
begin_bit t = both_bits (t.hour ≤ 23) (t.minute ≤ 59) (le_bit t.hour 23) (le_bit t.minute 59)

range_bit : (a b n : ℕ) → SomeBit ((a ≤ n) × (n ≤ b))
range_bit a b n = both_bits (a ≤ n) (n ≤ b) (le_bit a n) (le_bit n b)

pub year_bit : (n : Digits) → SomeBit (IsYearNumber n)
year_bit n =
    as_bit ((n.count ≡ 4) × ((1800 ≤ n.value) × (n.value ≤ 2799))) (IsYearNumber n) (λ x. (x.0, x.1.0, x.1.1))
    (λ x. (x.0, (x.1, x.2)))
    (both_bits (n.count ≡ 4) ((1800 ≤ n.value) × (n.value ≤ 2799)) (eq_bit n.count 4) (range_bit 1800 2799 n.value))

pub week_bit : (n : Digits) → SomeBit (IsWeekNumber n)
week_bit n =
    as_bit (((1 ≤ n.count) × (n.count ≤ 2)) × ((1 ≤ n.value) × (n.value ≤ 53))) (IsWeekNumber n)
    (λ x. (x.0.0, x.0.1, x.1.0, x.1.1)) (λ x. ((x.0, x.1), (x.2, x.3)))
    (both_bits ((1 ≤ n.count) × (n.count ≤ 2)) ((1 ≤ n.value) × (n.value ≤ 53)) (range_bit 1 2 n.count) (range_bit 1 53 n.value))

-- the number that goes on with a list
pub listed_bit : (s : Stage) (n : Digits) → SomeBit (ListedFits s n)
listed_bit stage.Years n = year_bit n
listed_bit stage.MonthDays n = year_bit n
listed_bit stage.Weeks n = week_bit n
listed_bit s n = no_bit ⊥ (λ x. x)

-- what comes next fits or not, where that can be told of numbers, times and months
pub next_bit : (at : Place) (next : Option TokenKind)
    → ((v d : ℕ) → next ≡ Some (token.Number v d) → SomeBit (NumberFits at (written v d)))
    → ((t : ClockTime) → SomeBit (TimeFits at t)) → ((m : ℕ) → SomeBit (MonthFits at m)) → SomeBit (Fits at next)
next_bit at (Some (token.Number v d)) number time month = number v d refl
next_bit at (Some (token.Time h m)) number time month = time (clock h m)
next_bit at (Some (token.Month m)) number time month = month m
next_bit at (Some (token.Weekday k)) number time month = weekday_bit k
next_bit at next number time month = no_bit ⊥ (λ x. x)
