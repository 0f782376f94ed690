-- The names of faults, as fault lines show them.
use Rattle.std.specs.Prelude.{ℕ, List, codes}
use Rattle.gtd_calendar.specs.declared.stamp.StampFault.{StampFault}
use Rattle.gtd_calendar.specs.declared.stamp.StampFault.TheVariants as stamp

abbrev pub stamp_fault_name : StampFault → List ℕ
stamp_fault_name stamp.Shape = codes "Shape"
stamp_fault_name stamp.NoSuchDate = codes "NoSuchDate"
stamp_fault_name stamp.Range = codes "Range"
