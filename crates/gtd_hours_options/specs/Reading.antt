-- The hours of a text with options, as it is written, and its first fault.
use Rattle.std.specs.Prelude.{◌≡◌, ℕ, true, false, List, length, Some, None}
use Rattle.gtd_hours_times.specs.Tokens.{IsTimeFault}
use Rattle.gtd_hours_moments.specs.Reading.{IsMomentText, IsPlainText}
use Rattle.gtd_hours_moments.specs.declared.clocks.Clocks.{Clocks}
use Rattle.gtd_hours_moments.specs.declared.placed.Placed.{Placed}
use Rattle.gtd_hours_moments.specs.declared.placed.PlacedText.{PlacedText}
use Rattle.gtd_hours_moments.specs.declared.text.MomentText.{MomentText}
use Rattle.gtd_hours_known.specs.Reading.{IsKnownFault, KnownStandsFor}
use Rattle.gtd_hours_known.specs.declared.fault.KnownFault.{KnownFault}
use Rattle.gtd_hours_known.specs.declared.fault.KnownReadFault.{KnownReadFault}
use Rattle.gtd_hours_known.specs.declared.fault.KnownReadFault.TheVariants as known_reading
use Rattle.gtd_hours_known.specs.declared.known.Known.{Known}
use Rattle.gtd_hours_known.specs.declared.known.KnownHours.{KnownHours}
use Rattle.gtd_hours_options.specs.First.{checked_fault, has_times, time_fault}
use Rattle.gtd_hours_options.specs.Told.{IsPlacedReading, bad_token, placed_fault}
use Rattle.gtd_hours_options.specs.declared.fault.OptionsFault.{OptionsFault}
use Rattle.gtd_hours_options.specs.declared.fault.OptionsFault.TheVariants as wrong
use Rattle.gtd_hours_options.specs.declared.fault.OptionsReadFault.{OptionsReadFault}
use Rattle.gtd_hours_options.specs.declared.fault.OptionsReadFault.TheVariants as reading
use Rattle.gtd_hours_options.specs.declared.options.Options.{Options}

-- ---- a text with times

-- The text, which is so, has times, or tokens that cannot stand where they do.
pub record HasTimes (text : List ℕ) (moments : MomentText) : Type 0 where
  pub is : IsMomentText text moments
  pub times : has_times moments ≡ true

-- The text stands for some hours with what is known of holidays.
abbrev pub IsRead : Known → List ℕ → Type 0
IsRead known text = (read : KnownHours) × KnownStandsFor known text read

-- Its checked text does, each token can stand where it does, and all is given that its times need.
pub record IsGiven (options : Options) (text : List ℕ) (moments : MomentText) : Type 0 where
  pub has : HasTimes text moments
  pub checked : IsRead options.known moments.checked.text.items
  pub given : time_fault moments options.clocks ≡ None

-- The hours are those of its plain text, at the places for which that stands.
pub record IsPlainReading (options : Options) (text : List ℕ) (read : KnownHours) : Type 0 where
  pub plain : PlacedText
  pub own : KnownHours
  pub is : IsPlainText options.clocks text plain
  pub stands : KnownStandsFor options.known plain.text.items own
  pub placed : IsPlacedReading (length text) plain.places.items own read

-- The first fault of a text with times, in this order: a byte with which no token begins; the first fault of its checked text,
-- or else of its tokens, and what is needed or too long, as `checked_fault` and `time_fault` order them; the first fault of its
-- plain text, of which none is known.
pub data IsTimesFault (options : Options) (text : List ℕ) (bad : OptionsFault) : Type 0 where
  token : (place : ℕ) → IsTimeFault text place → bad ≡ bad_token place → IsTimesFault options text bad
  checked : (moments : MomentText) → (first : KnownFault) → HasTimes text moments
      → IsKnownFault options.known moments.checked.text.items first
      → bad ≡ checked_fault (length text) moments options.clocks first → IsTimesFault options text bad
  time : (moments : MomentText) → HasTimes text moments → IsRead options.known moments.checked.text.items
      → time_fault moments options.clocks ≡ Some bad → IsTimesFault options text bad
  plain : (moments : MomentText) → (plain : PlacedText) → (first : KnownFault) → IsGiven options text moments
      → IsPlainText options.clocks text plain → IsKnownFault options.known plain.text.items first
      → bad ≡ wrong.Known (placed_fault (length text) plain.places.items first) → IsTimesFault options text bad

-- ---- any text

-- The hours of a text, and of what is warned in it. They are read without options for times if that reads them, and then no
-- times need anything. Else the text must have times and no fault.
pub data StandsWith (options : Options) (text : List ℕ) (read : KnownHours) : Type 0 where
  known : KnownStandsFor options.known text read → StandsWith options text read
  timed : (bad : KnownFault) → (moments : MomentText) → IsKnownFault options.known text bad → IsGiven options text moments
      → IsPlainReading options text read → StandsWith options text read

-- The first fault of a text that has this one where it is read without options for times: the same if it has no times.
pub data IsOtherFault (options : Options) (text : List ℕ) (first : KnownFault) (bad : OptionsFault) : Type 0 where
  without : (moments : MomentText) → IsMomentText text moments → has_times moments ≡ false
      → bad ≡ wrong.Known first → IsOtherFault options text first bad
  within : IsTimesFault options text bad → IsOtherFault options text first bad

-- the first fault of a text
abbrev pub IsOptionsFault : Options → List ℕ → OptionsFault → Type 0
IsOptionsFault options text bad =
    (first : KnownFault) × IsKnownFault options.known text first × IsOtherFault options text first bad

-- why hours are not read: the first fault, or want of memory
abbrev pub IsOptionsStop : Options → List ℕ → OptionsReadFault → Type 0
IsOptionsStop options text (reading.Fault bad) = IsOptionsFault options text bad
IsOptionsStop options text reading.NoMemory = Unit {0}

-- ---- as the code computes it

abbrev pub IsOtherStop : Options → List ℕ → KnownFault → OptionsReadFault → Type 0
IsOtherStop options text first (reading.Fault bad) = IsOtherFault options text first bad
IsOtherStop options text first reading.NoMemory = Unit {0}

abbrev pub IsTimesStop : Options → List ℕ → OptionsReadFault → Type 0
IsTimesStop options text (reading.Fault bad) = IsTimesFault options text bad
IsTimesStop options text reading.NoMemory = Unit {0}

-- why a checked text is not read, and so the text of so many bytes
abbrev pub checked_stop : ℕ → MomentText → Clocks → KnownReadFault → OptionsReadFault
checked_stop end moments clocks (known_reading.Fault bad) = reading.Fault (checked_fault end moments clocks bad)
checked_stop end moments clocks known_reading.NoMemory = reading.NoMemory

-- why a plain text of these forms is not read
abbrev pub plain_stop : ℕ → List Placed → KnownReadFault → OptionsReadFault
plain_stop end places (known_reading.Fault bad) = reading.Fault (wrong.Known (placed_fault end places bad))
plain_stop end places known_reading.NoMemory = reading.NoMemory
