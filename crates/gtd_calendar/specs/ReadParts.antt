-- What the parts of the readers answer.
use Rattle.std.specs.Prelude.{◌≡◌, ℕ, ◌<◌, List, [], ◌∷◌, Option, Some, None, Result, Ok, Err, ℤ, pos, ◌+ℤ◌, ◌*ℤ◌, ◌+◌, ◌*◌}
use Rattle.gtd_core.specs.Limits.{day_seconds}
use Rattle.gtd_core.specs.Seconds.{IsMomentSecond}
use Rattle.gtd_core.specs.declared.second.Sec.{Sec}
use Rattle.gtd_calendar.specs.declared.stamp.StampFault.{StampFault}
use Rattle.gtd_calendar.specs.declared.stamp.StampFault.TheVariants.{Shape, NoSuchDate, Range}
use Rattle.gtd_calendar.specs.Calendar.{IsDate, IsDateOf}
use Rattle.gtd_calendar.specs.Clock.{IsClock}
use Rattle.gtd_calendar.specs.Stamp.{two_digits, four_digits, IsYmdText, IsHmsText, IsMomentText}

-- the number that two digits stand for, if they do
abbrev pub IsTwoDigits : ℕ → ℕ → Option ℕ → Type 0
IsTwoDigits a b (Some n) = (n < 100) × (two_digits n ≡ (a ∷ b ∷ []))
IsTwoDigits a b None = (n : ℕ) → two_digits n ≡ (a ∷ b ∷ []) → ⊥

-- the number that four digits stand for, if they do
abbrev pub IsFourDigits : ℕ → ℕ → ℕ → ℕ → Option ℕ → Type 0
IsFourDigits a b c d (Some n) = (n < 10000) × (four_digits n ≡ (a ∷ b ∷ c ∷ d ∷ []))
IsFourDigits a b c d None = (n : ℕ) → four_digits n ≡ (a ∷ b ∷ c ∷ d ∷ []) → ⊥

-- the numbers of a text that has the shape of a date
abbrev pub IsYmd : List ℕ → Option (ℕ × ℕ × ℕ) → Type 0
IsYmd text (Some x) = IsYmdText text x.0 x.1 x.2
IsYmd text None = (y m d : ℕ) → IsYmdText text y m d → ⊥

-- the numbers of a text that has the shape of a clock
abbrev pub IsHms : List ℕ → Option (ℕ × ℕ × ℕ) → Type 0
IsHms text (Some x) = IsHmsText text x.0 x.1 x.2
IsHms text None = (h m s : ℕ) → IsHmsText text h m s → ⊥

-- the numbers of a text that has the shape of a moment
abbrev pub IsMoment : List ℕ → Option (ℕ × ℕ × ℕ × ℕ × ℕ × ℕ) → Type 0
IsMoment text (Some x) = IsMomentText text x.0 x.1 x.2 x.3 x.4 x.5
IsMoment text None = (y m d h min s : ℕ) → IsMomentText text y m d h min s → ⊥

-- the text is that of second s, by the parts that are read
pub record HasStampParts (s : ℤ) (text : List ℕ) : Type 0 where
  pub number : ℤ
  pub year : ℕ
  pub month : ℕ
  pub day : ℕ
  pub hour : ℕ
  pub minute : ℕ
  pub second : ℕ
  pub date : IsDateOf number (pos year) month day
  pub clock : IsClock hour minute second
  pub is : s ≡ pos day_seconds *ℤ number +ℤ pos (3600 * hour + 60 * minute + second)
  pub shown : IsMomentText text year month day hour minute second

-- what is read, by these parts
abbrev pub IsReadByParts : List ℕ → Result Sec StampFault → Type 0
IsReadByParts text (Ok x) = HasStampParts x.0 text × IsMomentSecond x.0
IsReadByParts text (Err Shape) = (y m d h min s : ℕ) → IsMomentText text y m d h min s → ⊥
IsReadByParts text (Err NoSuchDate) =
    (y : ℕ) × (m : ℕ) × (d : ℕ) × (h : ℕ) × (min : ℕ) × (s : ℕ)
    × IsMomentText text y m d h min s × (IsDate (pos y) m d → IsClock h min s → ⊥)
IsReadByParts text (Err Range) = (s : ℤ) × HasStampParts s text × (IsMomentSecond s → ⊥)
