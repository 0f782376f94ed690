-- The text of a moment is ASCII.
use Rattle.std.proofs.Common.{arith, ◌<◌, ◌/◌, ◌%◌, ◌++◌, ◌∷◌, [], ℕ, List}
use Rattle.std.specs.Prelude.{ℤ, unsigned_abs}
use Rattle.std.specs.Str.{IsAscii, IsUtf8}
use Rattle.std.proofs.lemmas.Str.{IsUtf8-from_ascii}
use Rattle.std.proofs.lemmas.Str.Ascii.{IsAscii-cons, IsAscii-nil}
use Rattle.gtd_calendar.specs.Clock.{digit, four_digits, second_of_day, two_digits}
use Rattle.gtd_calendar.specs.ComputedDates.{day_of_month, month_of, year_of}
use Rattle.gtd_calendar.specs.Stamp.{clock_text, hms_text, stamp_text, ymd_text}
use Rattle.gtd_core.specs.Seconds.{day_of_second}

small : (n : ℕ) → digit n < 128
small n = omega arith

two : (n : ℕ) (rest : List ℕ) → IsAscii rest → IsAscii (two_digits n ++ rest)
two n rest a = IsAscii-cons (digit (n / 10)) (digit n ∷ rest) (small (n / 10)) (IsAscii-cons (digit n) rest (small n) a)

four : (n : ℕ) (rest : List ℕ) → IsAscii rest → IsAscii (four_digits n ++ rest)
four n rest a = IsAscii-cons (digit (n / 1000)) (digit (n / 100) ∷ (two_digits n ++ rest)) (small (n / 1000))
    (IsAscii-cons (digit (n / 100)) (two_digits n ++ rest) (small (n / 100)) (two n rest a))

after : (mark n : ℕ) (rest : List ℕ) → mark < 128 → IsAscii rest → IsAscii (mark ∷ (two_digits n ++ rest))
after mark n rest lt a = IsAscii-cons mark (two_digits n ++ rest) lt (two n rest a)

clock : (h m s : ℕ) → IsAscii (84 ∷ hms_text h m s)
clock h m s =
    after 84 h (58 ∷ (two_digits m ++ (58 ∷ two_digits s))) (omega arith)
    (after 58 m (58 ∷ two_digits s) (omega arith) (after 58 s [] (omega arith) IsAscii-nil))

date : (y m d : ℕ) (rest : List ℕ) → IsAscii rest → IsAscii (ymd_text y m d ++ rest)
date y m d rest a =
    four y (45 ∷ (two_digits m ++ (45 ∷ (two_digits d ++ rest))))
    (after 45 m (45 ∷ (two_digits d ++ rest)) (omega arith) (after 45 d rest (omega arith) a))

pub utf8_stamp : (s : ℤ) → IsUtf8 (stamp_text s)
utf8_stamp s =
    let day = day_of_second s in
    IsUtf8-from_ascii (stamp_text s) (date (unsigned_abs (year_of day)) (month_of day) (day_of_month day) (clock_text s)
    (clock (second_of_day s / 3600) (second_of_day s / 60 % 60) (second_of_day s % 60)))
