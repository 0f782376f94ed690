-- How texts of hours are read, as one value.
use Rattle.std.specs.Prelude.{◌≡◌, ◌↔◌, ℕ, ℤ, List}
use Rattle.gtd_hours.specs.Cost.{hours_cost}
use Rattle.gtd_hours.specs.Opening.{IsOpen}
use Rattle.gtd_hours_known.specs.declared.known.KnownHours.{KnownHours}
use Rattle.gtd_hours_loose.specs.declared.manner.Manner.{Manner}
use Rattle.gtd_hours_options.specs.Manners.{IsReadFaultWithIn, IsReadingWithIn}
use Rattle.gtd_hours_options.specs.declared.fault.OptionsFault.{OptionsFault}
use Rattle.gtd_hours_options.specs.declared.fault.OptionsReadFault.TheVariants as unread
use Rattle.gtd_hours_options.specs.declared.hours_reading.HoursReading.{HoursReading}
use Rattle.gtd_hours_options.specs.declared.options.Options.{Options}

-- Strictly or loosely, with what is known of holidays, and with what is given for times.
pub record HowRead : Type 0 where
  pub manner : Manner
  pub options : Options

-- how a run is told to read them
abbrev pub how_read : HoursReading → HowRead
how_read told = record { manner = told.manner; options = told.options.now }

-- these hours are read of a text
abbrev pub Reads : HowRead → List ℕ → KnownHours → Type 0
Reads how text read = IsReadingWithIn how.manner how.options text read

-- the text has this first fault
abbrev pub HasFault : HowRead → List ℕ → OptionsFault → Type 0
HasFault how text bad = IsReadFaultWithIn how.manner how.options text (unread.Fault bad)

-- Texts are read in one way: hours that are read of a text are open at the same seconds and take as many basic domains, a text
-- has one first fault at most, and none if hours are read of it.
pub record AreReadInOneWay (how : HowRead) : Type 0 where
  pub seconds : (text : List ℕ) (one other : KnownHours) → Reads how text one → Reads how text other
      → (s : ℤ) → IsOpen one.hours s ↔ IsOpen other.hours s
  pub cost : (text : List ℕ) (one other : KnownHours) → Reads how text one → Reads how text other
      → hours_cost one.hours ≡ hours_cost other.hours
  pub fault : (text : List ℕ) (one other : OptionsFault) → HasFault how text one → HasFault how text other → one ≡ other
  pub apart : (text : List ℕ) (read : KnownHours) (bad : OptionsFault) → Reads how text read → HasFault how text bad → ⊥
