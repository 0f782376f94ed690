-- Numbers that rows with the same seconds share, and that few others have.
use Rattle.std.specs.Prelude.{◌≡◌, ◌<◌, ◌+◌, ◌*◌, ◌%◌, ℕ, zero, suc, ℤ, pos, unsigned_abs}
use Rattle.std.specs.Prelude.{Bool, true, false, List, [], ◌∷◌, length, get_or, Option, Some, None, MatchOption, ◌*ℤ◌, ◌+ℤ◌}
use Rattle.gtd_core.specs.Limits.{day_seconds, first_horizon_day, horizons_end, most_horizon_days}
use Rattle.gtd_core.specs.Seconds.{Interval}
use Rattle.gtd_core.specs.Trees.{Tree}
use Rattle.gtd_records.specs.Closing.{HoldsAt, Restriction}
use Rattle.gtd_repeats.specs.Sameness.{row_at}
use Rattle.gtd_spans.specs.Normal.{IsNormalFor}

-- 2016-01-01T00:00:00 and 2044-01-01T00:00:00
abbrev pub years_begin : ℤ
years_begin = pos 1_451_606_400

abbrev pub years_end : ℤ
years_end = pos 2_335_219_200

-- a number with an interval more
abbrev pub with_interval : ℕ → Interval → ℕ
with_interval number x =
    (number * 31 + unsigned_abs x.from % 4_294_967_291 * 7 + unsigned_abs x.until % 4_294_967_291) % 4_294_967_291

-- a number with the first intervals of a list, so many
abbrev pub with_first : ℕ → ℕ → List Interval → ℕ
with_first zero number xs = number
with_first (suc count) number [] = number
with_first (suc count) number (x ∷ xs) = with_first count (with_interval number x) xs

-- the number of the first 512 intervals, if there are any
abbrev pub number_of : List Interval → Option ℕ
number_of [] = None
number_of (x ∷ xs) = Some (with_first 511 (with_interval 0 x) xs)

-- the same of the intervals in which it holds between two seconds
abbrev pub IsNumberIn : ℤ → ℤ → Option Tree → Option ℕ → Type 0
IsNumberIn from until domain number =
    (xs : List Interval) × IsNormalFor (HoldsAt domain) from until xs × (number ≡ number_of xs)

-- the first seconds of the 400 years and a day from 1901 on, and of the rest up to 2700
abbrev pub early_begin : ℤ
early_begin = first_horizon_day *ℤ pos day_seconds

abbrev pub late_begin : ℤ
late_begin = (first_horizon_day +ℤ pos most_horizon_days) *ℤ pos day_seconds

abbrev pub late_end : ℤ
late_end = horizons_end *ℤ pos day_seconds

-- the number by the rest of the years, or 0
abbrev pub IsLateNumber : Option Tree → ℕ → Type 0
IsLateNumber domain number =
    (found : Option ℕ) × IsNumberIn late_begin late_end domain found × MatchOption found (number ≡ 0) (λ late. number ≡ late)

-- the number by the 400 years; that by the rest, if it does not hold in them
abbrev pub IsEarlyNumber : Option Tree → ℕ → Type 0
IsEarlyNumber domain number =
    (found : Option ℕ) × IsNumberIn early_begin late_begin domain found
    × MatchOption found (IsLateNumber domain number) (λ early. number ≡ early)

-- The number of a domain: that by the 28 years, or that by all years, if it does not hold in them.
abbrev pub IsNumberOf : Option Tree → ℕ → Type 0
IsNumberOf domain number =
    (found : Option ℕ) × IsNumberIn years_begin years_end domain found
    × MatchOption found (IsEarlyNumber domain number) (λ soon. number ≡ soon)

-- the number of each row's domain
pub record AreNumbers (rows : List Restriction) (numbers : List ℕ) : Type 0 where
  pub many : length numbers ≡ length rows
  pub each : (row : ℕ) → row < length rows → IsNumberOf (row_at rows row).domain (get_or numbers row 0)

-- a number of a row, of its element and of the first row with the same seconds
abbrev pub joint_number : ℕ → ℕ → ℕ
joint_number element first = (element % 4_294_967_291) * 65_536 + first % 65_536

-- that of each row, if these are the first rows with the same seconds
pub record AreJointNumbers (rows : List Restriction) (firsts numbers : List ℕ) : Type 0 where
  pub many : length numbers ≡ length rows
  pub each : (row : ℕ) → row < length rows → get_or numbers row 0 ≡ joint_number (row_at rows row).element (get_or firsts row 0)

-- ---- finer numbers, of rows of which some with the same number are unlike

-- a number by all intervals in which it holds between two seconds, or the first 262,144 of them
abbrev pub IsLongNumber : ℤ → ℤ → Option Tree → ℕ → Type 0
IsLongNumber from until domain number =
    (xs : List Interval) × IsNormalFor (HoldsAt domain) from until xs × (number ≡ with_first 262_144 0 xs)

-- a number and another
abbrev pub joined : ℕ → ℕ → ℕ
joined number more = (number % 4_294_967_291 * 31 + more % 4_294_967_291) % 4_294_967_291

-- the number of a row whose number is shared by unlike rows, or by like ones alone
abbrev pub IsFiner : ℤ → ℤ → Option Tree → Bool → ℕ → ℕ → Type 0
IsFiner from until domain true number finer = (long : ℕ) × IsLongNumber from until domain long × (finer ≡ joined number long)
IsFiner from until domain false number finer = finer ≡ number

-- whether it is said of the bucket of a row that unlike rows are in it
abbrev pub mark_of : List Bool → List ℕ → ℕ → Bool
mark_of marks indices row = get_or marks (get_or indices row 0) false

-- the finer number of a row, by such marks of the buckets in which the rows are by their numbers
abbrev pub IsFinerOf : ℤ → ℤ → List Restriction → List Bool → List ℕ → List ℕ → ℕ → ℕ → Type 0
IsFinerOf from until rows marks indices numbers row finer =
    IsFiner from until (row_at rows row).domain (mark_of marks indices row) (get_or numbers row 0) finer

-- that of each row
pub record AreFiner (from until : ℤ) (rows : List Restriction) (marks : List Bool) (indices numbers finer : List ℕ) : Type 0 where
  pub many : length finer ≡ length rows
  pub each : (row : ℕ) → row < length rows → IsFinerOf from until rows marks indices numbers row (get_or finer row 0)
