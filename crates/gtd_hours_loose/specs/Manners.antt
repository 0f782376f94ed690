-- The hours that a text stands for where it is read strictly or loosely.
use Rattle.std.specs.Prelude.{ℕ, List, ◌≡◌, None}
use Rattle.gtd_hours_grammar.specs.Faults.{IsFirstFault}
use Rattle.gtd_hours_text.specs.Standing.{StandsFor}
use Rattle.gtd_hours_text.specs.declared.reader.HoursTextFault.{HoursTextFault}
use Rattle.gtd_hours_text.specs.declared.reader.HoursTextFault.TheVariants as text_fault
use Rattle.gtd_hours_loose.specs.declared.manner.Manner.{Manner}
use Rattle.gtd_hours_loose.specs.declared.manner.Manner.TheVariants as manner
use Rattle.gtd_hours_loose.specs.declared.reader.LooseFault.{LooseFault}
use Rattle.gtd_hours_loose.specs.declared.reader.LooseFault.TheVariants as loose
use Rattle.gtd_hours_loose.specs.declared.reader.LooseHours.{LooseHours}
use Rattle.gtd_hours_loose.specs.declared.reader.LooseReadFault.{LooseReadFault}
use Rattle.gtd_hours_loose.specs.declared.reader.LooseReadFault.TheVariants as reading
use Rattle.gtd_hours_loose.specs.Reading.{IsLooseReading, IsReadFault}

-- The hours of a text: those that it stands for as it is written or, where it may be written loosely, as `Reading` says.
abbrev pub IsReadingIn : Manner → List ℕ → LooseHours → Type 0
IsReadingIn manner.Strict text read = StandsFor text read.hours × (read.form ≡ None)
IsReadingIn (manner.Loose names) text read = IsLooseReading names text read

-- why hours are not read from a text as it is written: its first fault, or want of memory
abbrev pub IsStrictStop : List ℕ → LooseReadFault → Type 0
IsStrictStop text (reading.Fault (loose.Hours bad)) = IsFirstFault text bad
IsStrictStop text (reading.Fault (loose.Ambiguous place)) = ⊥
IsStrictStop text reading.NoMemory = Unit {0}

-- and why they are not read in this manner
abbrev pub IsReadFaultIn : Manner → List ℕ → LooseReadFault → Type 0
IsReadFaultIn manner.Strict text fault = IsStrictStop text fault
IsReadFaultIn (manner.Loose names) text fault = IsReadFault names text fault

-- the first fault of a text
abbrev pub IsFaultIn : Manner → List ℕ → LooseFault → Type 0
IsFaultIn m text bad = IsReadFaultIn m text (reading.Fault bad)

-- ---- as the code computes it

abbrev pub as_written : HoursTextFault → LooseReadFault
as_written (text_fault.Fault bad) = reading.Fault (loose.Hours bad)
as_written text_fault.NoMemory = reading.NoMemory
