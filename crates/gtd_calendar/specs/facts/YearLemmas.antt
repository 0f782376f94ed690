-- The first days of years.
use Rattle.std.proofs.Common.{◌≡◌, ℕ, zero, suc, ◌+◌, cond}
use Rattle.std.proofs.Common.{refl, sym, ◌∙◌, arith, ℤ, pos, negsuc, ◌+ℤ◌, ◌-ℤ◌, ◌*ℤ◌, ◌<ℤ◌, ◌≤ℤ◌}
use Rattle.std.proofs.Common.{unsigned_abs, int_lt}
use Rattle.std.proofs.lemmas.Bool.Decides.{nat_tests}
use Rattle.std.proofs.lemmas.Int.{by_lt_z}
use Rattle.std.specs.Int.{int_div_euclid}
use Rattle.jiff_core.proofs.SignedLemmas.{signed_arith, one_part}
use Rattle.gtd_calendar.specs.Calendar.{is_leap_year, year_length, leap_years_up_to, first_day}
use Rattle.gtd_calendar.specs.ComputedDates.{guessed_year, year_of}

pub first_day-1970 : first_day (pos 1970) ≡ pos 0
unfolding first_day
first_day-1970 = refl

-- 1 for a leap year, and otherwise 0
abbrev pub leap_day : ℤ → ℕ
leap_day y = cond (is_leap_year y) 1 0

pub year_length-leap_day : (y : ℤ) → year_length y ≡ 365 + leap_day y
year_length-leap_day y = grind arith

-- four hundred years have 146,097 days
pub first_day-cycle : (y : ℤ) → first_day (y +ℤ pos 400) ≡ first_day y +ℤ pos 146_097
unfolding first_day
first_day-cycle y = omega (arith, signed_arith)

-- the leap years up to a year are those up to the one before, and it
leap_years_up_to-next : (y : ℤ) → leap_years_up_to (y +ℤ pos 1) ≡ leap_years_up_to y +ℤ pos (leap_day (y +ℤ pos 1))
leap_years_up_to-next (pos n) = grind (arith, nat_tests, signed_arith)
leap_years_up_to-next (negsuc n) = grind (arith, nat_tests, signed_arith)

-- each year begins after the days of the year before
pub first_day-next : (y : ℤ) → first_day (y +ℤ pos 1) ≡ first_day y +ℤ pos (year_length y)
unfolding first_day
first_day-next y =
    let back : y -ℤ pos 1 +ℤ pos 1 ≡ y = omega (arith, signed_arith) in
    let same : y +ℤ pos 1 -ℤ pos 1 ≡ y = omega (arith, signed_arith) in
    rw (same, year_length-leap_day y) (omega (arith, signed_arith, rw back at (leap_years_up_to-next (y -ℤ pos 1))))

-- the leap years are 97 of 400, give or take less than three
leap_years_up_to-near : (y : ℤ) → ((pos 97 *ℤ y) ≤ℤ (pos 400 *ℤ leap_years_up_to y +ℤ pos 800))
    × ((pos 400 *ℤ leap_years_up_to y) ≤ℤ (pos 97 *ℤ y +ℤ pos 400))
leap_years_up_to-near y = (omega (arith, signed_arith), omega (arith, signed_arith))

pub first_day-more : (y later : ℤ) → y <ℤ later → first_day y ≤ℤ first_day later
unfolding first_day
first_day-more y later h =
    let low = leap_years_up_to-near (y -ℤ pos 1) in
    let high = leap_years_up_to-near (later -ℤ pos 1) in
    further (leap_years_up_to (y -ℤ pos 1)) (leap_years_up_to (later -ℤ pos 1)) y later h low.1 high.0
  where
    further : (a b y later : ℤ) → y <ℤ later → (pos 400 *ℤ a) ≤ℤ (pos 97 *ℤ (y -ℤ pos 1) +ℤ pos 400)
        → (pos 97 *ℤ (later -ℤ pos 1)) ≤ℤ (pos 400 *ℤ b +ℤ pos 800) → ((pos 365 *ℤ (y -ℤ pos 1970) +ℤ a) -ℤ pos 477)
        ≤ℤ ((pos 365 *ℤ (later -ℤ pos 1970) +ℤ b) -ℤ pos 477)
    further a b y later h low high = omega (arith, signed_arith)

-- a later year begins at or after the end of this one
pub first_day-later : (y later : ℤ) → y <ℤ later → (first_day y +ℤ pos (year_length y)) ≤ℤ first_day later
first_day-later y later h =
    rw (← first_day-next y)
    (by_lt_z (y +ℤ pos 1) later (λ lt. first_day-more (y +ℤ pos 1) later lt)
    (λ le. let e : later ≡ y +ℤ pos 1 = omega (arith, signed_arith) in rw e (omega (arith, signed_arith))))

-- a day is in the year that its number of days since 1970 suggests, or in one beside it
pub guessed_year-near : (n : ℤ) (g : ℤ) → g ≡ pos 1970 +ℤ int_div_euclid (pos 400 *ℤ n) (pos 146_097)
    → (first_day (g -ℤ pos 1) ≤ℤ n) × (n <ℤ first_day (g +ℤ pos 2))
unfolding first_day
guessed_year-near n g e = (omega (arith, signed_arith), omega (arith, signed_arith))

-- a day lies in its year
pub year_of-is : (n : ℤ) → (first_day (year_of n) ≤ℤ n) × (n <ℤ first_day (year_of n +ℤ pos 1))
unfolding year_of
year_of-is n =
    let near = guessed_year-near n (guessed_year n) refl in
    let back : guessed_year n -ℤ pos 1 +ℤ pos 1 ≡ guessed_year n = omega (arith, signed_arith) in
    let two : guessed_year n +ℤ pos 1 +ℤ pos 1 ≡ guessed_year n +ℤ pos 2 = omega (arith, signed_arith) in
    chosen n (guessed_year n) near.0 near.1 back two
  where
    chosen : (n g : ℤ) → first_day (g -ℤ pos 1) ≤ℤ n → n <ℤ first_day (g +ℤ pos 2) → g -ℤ pos 1 +ℤ pos 1 ≡ g
        → g +ℤ pos 1 +ℤ pos 1 ≡ g +ℤ pos 2
        → let y = cond (int_lt n (first_day g)) (g -ℤ pos 1) (cond (int_lt n (first_day (g +ℤ pos 1))) g
        (g +ℤ pos 1)) in
        (first_day y ≤ℤ n) × (n <ℤ first_day (y +ℤ pos 1))
    chosen n g low high back two = grind (arith, signed_arith)

-- years that follow one another in this way, from the same day on, have the same first days
pub first_day-only : (first : ℤ → ℤ) → first (pos 1970) ≡ pos 0
    → ((y : ℤ) → first (y +ℤ pos 1) ≡ first y +ℤ pos (year_length y)) → (y : ℤ) → first y ≡ first_day y
first_day-only first epoch next y =
    by_lt_z y (pos 1970)
    (λ lt. let at : pos 1970 -ℤ pos (unsigned_abs (pos 1970 -ℤ y))
    ≡ y = omega (arith, signed_arith, one_part (pos 1970 -ℤ y)) in
    rw at at (before (unsigned_abs (pos 1970 -ℤ y))))
    (λ le. let at : pos 1970 +ℤ pos (unsigned_abs (y -ℤ pos 1970))
    ≡ y = omega (arith, signed_arith, one_part (y -ℤ pos 1970)) in
    rw at at (after (unsigned_abs (y -ℤ pos 1970))))
  where
    same : first (pos 1970) ≡ first_day (pos 1970)
    same = epoch ∙ sym first_day-1970

    after : (k : ℕ) → first (pos 1970 +ℤ pos k) ≡ first_day (pos 1970 +ℤ pos k)
    after zero = same
    after (suc k) =
        let at : pos 1970 +ℤ pos (suc k) ≡ pos 1970 +ℤ pos k +ℤ pos 1 = omega (arith, signed_arith) in
        rw (at, next (pos 1970 +ℤ pos k), first_day-next (pos 1970 +ℤ pos k), after k) refl

    less : (a b : ℤ) (long : ℕ) → a +ℤ pos long ≡ b +ℤ pos long → a ≡ b
    less a b long e = omega (arith, signed_arith)

    before : (k : ℕ) → first (pos 1970 -ℤ pos k) ≡ first_day (pos 1970 -ℤ pos k)
    before zero = same
    before (suc k) =
        let at : pos 1970 -ℤ pos k ≡ pos 1970 -ℤ pos (suc k) +ℤ pos 1 = omega (arith, signed_arith) in
        less (first (pos 1970 -ℤ pos (suc k))) (first_day (pos 1970 -ℤ pos (suc k)))
        (year_length (pos 1970 -ℤ pos (suc k)))
        (sym (next (pos 1970 -ℤ pos (suc k))) ∙ (rw at at (before k)) ∙ first_day-next (pos 1970 -ℤ pos (suc k)))
