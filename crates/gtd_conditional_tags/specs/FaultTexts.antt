-- Faults in words.
use Rattle.std.specs.Prelude.{ℕ, List, ◌++◌, codes, decimal}
use Rattle.gtd_conditional_tags.specs.declared.fault.TagsFault.{TagsFault}
use Rattle.gtd_conditional_tags.specs.declared.fault.TagsFault.TheVariants as fault

-- the row, from 1 on, and the name
abbrev pub fault_text : TagsFault → List ℕ
fault_text fault.TooLarge = codes "TooLarge"
fault_text fault.Header = codes "Header"
fault_text (fault.FieldCount row) = codes "row " ++ decimal row ++ codes ": FieldCount"
fault_text (fault.Element row) = codes "row " ++ decimal row ++ codes ": Element"
fault_text (fault.Key row) = codes "row " ++ decimal row ++ codes ": Key"
fault_text (fault.Repeated row) = codes "row " ++ decimal row ++ codes ": Repeated"
fault_text fault.TooManyRows = codes "row 65537: TooManyRows"
