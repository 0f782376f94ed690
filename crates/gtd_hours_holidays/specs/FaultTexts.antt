-- Faults in words.
use Rattle.std.specs.Prelude.{ℕ, List, ◌++◌, codes, decimal}
use Rattle.gtd_hours_holidays.specs.declared.fault.HolidaysFault.{HolidaysFault}
use Rattle.gtd_hours_holidays.specs.declared.fault.HolidaysFault.TheVariants as fault

-- the row, from 1 on, and the name
abbrev pub fault_text : HolidaysFault → List ℕ
fault_text fault.TooLarge = codes "TooLarge"
fault_text fault.Header = codes "Header"
fault_text fault.TooManyRows = codes "row 4097: TooManyRows"
fault_text (fault.FieldCount row) = codes "row " ++ decimal row ++ codes ": FieldCount"
fault_text (fault.First row) = codes "row " ++ decimal row ++ codes ": First"
fault_text (fault.Last row) = codes "row " ++ decimal row ++ codes ": Last"
fault_text (fault.Kind row) = codes "row " ++ decimal row ++ codes ": Kind"
fault_text (fault.Outside row) = codes "row " ++ decimal row ++ codes ": Outside"
