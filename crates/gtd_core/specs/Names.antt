-- The names of faults, as fault lines show them.
use Rattle.std.specs.Prelude.{ℕ, List, codes}
use Rattle.gtd_core.specs.declared.fault.Fault.{Fault}
use Rattle.gtd_core.specs.declared.fault.Fault.TheVariants as fault
use Rattle.gtd_core.specs.declared.horizon.HorizonFault.{HorizonFault}
use Rattle.gtd_core.specs.declared.horizon.HorizonFault.TheVariants as horizon

abbrev pub fault_name : Fault → List ℕ
fault_name fault.BadToken = codes "BadToken"
fault_name fault.Fuzzy = codes "Fuzzy"
fault_name fault.TooDeep = codes "TooDeep"
fault_name fault.TooMany = codes "TooMany"
fault_name fault.Repeated = codes "Repeated"
fault_name fault.FieldRange = codes "FieldRange"
fault_name fault.Negative = codes "Negative"
fault_name fault.Unexpected = codes "Unexpected"
fault_name fault.Incomplete = codes "Incomplete"
fault_name fault.TooLongDuration = codes "TooLongDuration"
fault_name fault.NoMemory = codes "NoMemory"

abbrev pub horizon_fault_name : HorizonFault → List ℕ
horizon_fault_name horizon.Empty = codes "Empty"
horizon_fault_name horizon.TooEarly = codes "TooEarly"
horizon_fault_name horizon.TooLate = codes "TooLate"
horizon_fault_name horizon.TooLong = codes "TooLong"
