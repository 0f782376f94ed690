-- The hours of a text with holidays, comments, unknown and fallback rules, as it is written, and its first fault.
use Rattle.std.specs.Prelude.{◌≡◌, ◌⊎◌, ℕ, List, [], Some, None, ℤ}
use Rattle.gtd_hours.specs.declared.hours.Hours.{Hours}
use Rattle.gtd_hours_grammar.specs.Faults.{IsFirstFault}
use Rattle.gtd_hours_grammar.specs.declared.fault.HoursFault.{HoursFault}
use Rattle.gtd_hours_text.specs.Standing.{StandsFor}
use Rattle.gtd_hours_items.specs.Comments.{IsBadPlace}
use Rattle.gtd_hours_holiday_rules.specs.Reading.{IsHolidayText}
use Rattle.gtd_hours_holiday_rules.specs.Told.{told_fault}
use Rattle.gtd_hours_holiday_rules.specs.declared.rules.HolidayRule.{HolidayRule}
use Rattle.gtd_hours_holiday_rules.specs.declared.text.HolidayText.{HolidayText}
use Rattle.gtd_hours_loose.specs.Reading.{IsStrict}
use Rattle.gtd_hours_known.specs.Faults.{bad_token, told}
use Rattle.gtd_hours_known.specs.Marks.{HasMarks}
use Rattle.gtd_hours_known.specs.Needs.{first_need}
use Rattle.gtd_hours_known.specs.Rules.{AreAllStrict, AreHolidayRules, IsHolidayUncovered, IsRuleFault}
use Rattle.gtd_hours_known.specs.declared.fault.KnownFault.{KnownFault}
use Rattle.gtd_hours_known.specs.declared.fault.KnownFault.TheVariants as fault
use Rattle.gtd_hours_known.specs.declared.fault.KnownReadFault.{KnownReadFault}
use Rattle.gtd_hours_known.specs.declared.fault.KnownReadFault.TheVariants as reading
use Rattle.gtd_hours_known.specs.declared.known.Known.{Known}
use Rattle.gtd_hours_known.specs.declared.known.KnownHours.{KnownHours}

-- ---- a text with holidays

-- Its checked text, and the own text of each of its rules, are hours.
pub record IsSound (found : HolidayText) : Type 0 where
  pub checked : IsStrict found.checked.items
  pub rules : AreAllStrict found.rules.items

-- All is given and known that its rules need, and these are its rules with the holidays that the table has in the years.
pub record IsKnown (known : Known) (found : HolidayText) (hours : Hours) : Type 0 where
  pub no_need : first_need known found.rules.items ≡ None
  pub rules : AreHolidayRules known found.rules.items hours.rules.items

-- The first fault of a text with holidays, comments, unknown or fallback rules, in this order: that of its checked text; that
-- of a rule's own text, of which none is known; what its rules need, from left to right; the first holiday of which the table
-- does not say all in the years.
pub data IsHolidayFault (known : Known) (found : HolidayText) (bad : KnownFault) : Type 0 where
  checked : (first : HoursFault) → IsFirstFault found.checked.items first → bad ≡ told (told_fault first found.told.items)
      → IsHolidayFault known found bad
  own : (first : HoursFault) → IsStrict found.checked.items → IsRuleFault found.rules.items first → bad ≡ fault.Hours first
      → IsHolidayFault known found bad
  needed : IsSound found → first_need known found.rules.items ≡ Some bad → IsHolidayFault known found bad
  uncovered : (place : ℕ) → (day : ℤ) → IsSound found → first_need known found.rules.items ≡ None
      → IsHolidayUncovered known found.rules.items place day → bad ≡ fault.Uncovered place day
      → IsHolidayFault known found bad

-- ---- any text

-- The hours of a text, and of what is warned in it. They are read plainly if the text is plain hours, and then nothing else
-- matters. Else it must have no fault as a text with holidays, comments, unknown and fallback rules.
pub data KnownStandsFor (known : Known) (text : List ℕ) (read : KnownHours) : Type 0 where
  plain : StandsFor text read.hours → HasMarks [] read → KnownStandsFor known text read
  listed : (found : HolidayText) → (IsStrict text → ⊥) → IsHolidayText text found → IsSound found
      → IsKnown known found read.hours → HasMarks found.rules.items read → KnownStandsFor known text read

-- The first fault of a text that is no plain hours: a byte with which no token begins or a comment that is not whole, or the
-- first one of the text with its rules.
pub data IsOtherFault (known : Known) (text : List ℕ) (bad : KnownFault) : Type 0 where
  token : (place : ℕ) → IsBadPlace text place → bad ≡ bad_token place → IsOtherFault known text bad
  within : (found : HolidayText) → IsHolidayText text found → IsHolidayFault known found bad → IsOtherFault known text bad

-- the first fault of a text
abbrev pub IsKnownFault : Known → List ℕ → KnownFault → Type 0
IsKnownFault known text bad = (IsStrict text → ⊥) × IsOtherFault known text bad

-- why hours are not read: the first fault, or want of memory
abbrev pub IsKnownStop : Known → List ℕ → KnownReadFault → Type 0
IsKnownStop known text (reading.Fault bad) = IsKnownFault known text bad
IsKnownStop known text reading.NoMemory = Unit {0}

-- ---- as the code computes it

abbrev pub IsOtherStop : Known → List ℕ → KnownReadFault → Type 0
IsOtherStop known text (reading.Fault bad) = IsOtherFault known text bad
IsOtherStop known text reading.NoMemory = Unit {0}

abbrev pub IsHolidayStop : Known → HolidayText → KnownReadFault → Type 0
IsHolidayStop known found (reading.Fault bad) = IsHolidayFault known found bad
IsHolidayStop known found reading.NoMemory = Unit {0}

abbrev pub IsTableStop : Known → List HolidayRule → KnownReadFault → Type 0
IsTableStop known rules (reading.Fault (fault.Uncovered place day)) = IsHolidayUncovered known rules place day
IsTableStop known rules (reading.Fault bad) = ⊥
IsTableStop known rules reading.NoMemory = Unit {0}

-- the fault of the checked text, or of a rule's own text
abbrev pub IsUnsound : HolidayText → KnownFault → Type 0
IsUnsound found bad =
    ((first : HoursFault) × IsFirstFault found.checked.items first × (bad ≡ told (told_fault first found.told.items)))
    ⊎ ((first : HoursFault) × IsStrict found.checked.items × IsRuleFault found.rules.items first × (bad ≡ fault.Hours first))
