-- Years with the same days: each year has the months and weekdays of one of the twenty-eight from 2000 on, and so has the next.
use Rattle.std.proofs.Common.{◌≡◌, arith, ℕ, zero, suc, ◌+◌, ◌*◌, ◌/◌, ◌<◌, ◌≤◌, ◌&&◌, Bool, true, false, not, refl}
use Rattle.std.proofs.Common.{if◌then◌else◌, inl, inr, ℤ, pos, ◌+ℤ◌, ◌-ℤ◌, unsigned_abs}
use Rattle.std.specs.Ordering.{int_eq}
use Rattle.std.proofs.lemmas.Bool.{cases_eq}
use Rattle.std.proofs.lemmas.Bool.Decides.{Decides-int_eq}
use Rattle.gtd_calendar.specs.Calendar.{is_leap_year, first_day}

-- the years have the same months, and the first begins so many weeks after the other
abbrev pub AreTwins : ℤ → ℤ → ℕ → Type 0
AreTwins y z j = (is_leap_year y ≡ is_leap_year z) × (first_day y ≡ first_day z +ℤ pos (7 * j))

-- and so it is with the years behind them
abbrev pub AreTwinPairs : ℤ → ℤ → ℕ → Type 0
AreTwinPairs y z j = AreTwins y z j × AreTwins (y +ℤ pos 1) (z +ℤ pos 1) j

weeks : ℕ → ℕ → ℕ
weeks k z = unsigned_abs (first_day (pos k) -ℤ first_day (pos z)) / 7

same : Bool → Bool → Bool
same true b = b
same false b = not b

are_twins : ℕ → ℕ → ℕ → Bool
are_twins j k z = same (is_leap_year (pos k)) (is_leap_year (pos z))
    && int_eq (first_day (pos k)) (first_day (pos z) +ℤ pos (7 * j))

are_twin_pairs : ℕ → ℕ → Bool
are_twin_pairs k z = are_twins (weeks k z) k z && are_twins (weeks k z) (k + 1) (z + 1)

-- the last twin in so many years from 2001 on; 2000 if there is none
twin_of : ℕ → ℕ → ℕ
twin_of k zero = 2000
twin_of k (suc n) = if are_twin_pairs k (2001 + n) then 2001 + n else twin_of k n

have_twins : ℕ → Bool
have_twins zero = true
have_twins (suc n) = are_twin_pairs (2000 + n) (twin_of (2000 + n) 27) && have_twins n

all-have : have_twins 400 ≡ true
unfolding first_day have_twins are_twin_pairs are_twins same twin_of weeks
all-have = refl

both : (a b : Bool) → (a && b) ≡ true → (a ≡ true) × (b ≡ true)
both true true e = (refl, refl)
both true false e = absurd cc
both false b e = absurd cc

same-is : (a b : Bool) → same a b ≡ true → a ≡ b
unfolding same
same-is true true e = refl
same-is true false e = absurd cc
same-is false true e = absurd cc
same-is false false e = refl

twins : (j k z : ℕ) → are_twins j k z ≡ true → AreTwins (pos k) (pos z) j
unfolding are_twins
twins j k z h =
    let parts = both (same (is_leap_year (pos k)) (is_leap_year (pos z)))
    (int_eq (first_day (pos k)) (first_day (pos z) +ℤ pos (7 * j))) h in
    (same-is _ _ parts.0, (Decides-int_eq _ _).0 parts.1)

pairs : (k z : ℕ) → are_twin_pairs k z ≡ true → AreTwinPairs (pos k) (pos z) (weeks k z)
unfolding are_twin_pairs
pairs k z h =
    let parts = both (are_twins (weeks k z) k z) (are_twins (weeks k z) (k + 1) (z + 1)) h in
    (twins (weeks k z) k z parts.0, twins (weeks k z) (k + 1) (z + 1) parts.1)

within : (k n : ℕ) → (2000 ≤ twin_of k n) × (twin_of k n ≤ 2000 + n)
unfolding twin_of
within k zero = (omega arith, omega arith)
within k (suc n) = by (are_twin_pairs k (2001 + n)) (within k n)
  where
    by : (b : Bool) → (2000 ≤ twin_of k n) × (twin_of k n ≤ 2000 + n)
        → (2000 ≤ (if b then 2001 + n else twin_of k n)) × ((if b then 2001 + n else twin_of k n) ≤ 2000 + suc n)
    by true h = (omega arith, omega arith)
    by false h = (h.0, omega (arith, h.1))

each : (n k : ℕ) → have_twins n ≡ true → k < n → are_twin_pairs (2000 + k) (twin_of (2000 + k) 27) ≡ true
unfolding have_twins
each zero k h lt = absurd (omega (arith, lt))
each (suc n) k h lt =
    let parts = both (are_twin_pairs (2000 + n) (twin_of (2000 + n) 27)) (have_twins n) h in
    elim (cases_eq k n) [
      | inl e ↦ rw e parts.0
      | inr other ↦ each n k parts.1 (omega (arith, lt, other))
    ]

-- each of four hundred years has a twin among the twenty-eight from 2000 on
pub twin : (k : ℕ) → k < 400 → (z j : ℕ) × ((2000 ≤ z) × (z < 2028)) × AreTwinPairs (pos (2000 + k)) (pos z) j
twin k lt =
    let z = twin_of (2000 + k) 27 in
    let range = within (2000 + k) 27 in
    (z, weeks (2000 + k) z, (range.0, omega (arith, range.1)), pairs (2000 + k) z (each 400 k all-have lt))
