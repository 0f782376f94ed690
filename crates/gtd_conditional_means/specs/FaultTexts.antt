-- Faults in words.
use Rattle.std.specs.Prelude.{ℕ, List, ◌++◌, codes, decimal}
use Rattle.gtd_conditional_means.specs.declared.fault.MeansFault.{MeansFault}
use Rattle.gtd_conditional_means.specs.declared.fault.MeansFault.TheVariants as fault

-- the row, from 1 on, and the name
abbrev pub fault_text : MeansFault → List ℕ
fault_text fault.TooLarge = codes "TooLarge"
fault_text fault.Header = codes "Header"
fault_text fault.TooManyRows = codes "row 4097: TooManyRows"
fault_text (fault.FieldCount row) = codes "row " ++ decimal row ++ codes ": FieldCount"
fault_text (fault.Vehicle row) = codes "row " ++ decimal row ++ codes ": Vehicle"
fault_text (fault.Name row) = codes "row " ++ decimal row ++ codes ": Name"
fault_text (fault.Repeated row) = codes "row " ++ decimal row ++ codes ": Repeated"
fault_text (fault.Value row) = codes "row " ++ decimal row ++ codes ": Value"
fault_text (fault.Kind row) = codes "row " ++ decimal row ++ codes ": Kind"
