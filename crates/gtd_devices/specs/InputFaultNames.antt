-- The names of faults: those of their variants.
use Rattle.std.specs.Prelude.{ℕ, List, codes}
use Rattle.gtd_devices.specs.declared.whole.InputFault.{InputFault}
use Rattle.gtd_devices.specs.declared.whole.InputFault.TheVariants as fault

abbrev pub input_fault_name : InputFault → List ℕ
input_fault_name fault.ReadFault = codes "ReadFault"
input_fault_name fault.TooLarge = codes "TooLarge"
input_fault_name fault.Endless = codes "Endless"
input_fault_name fault.NoMemory = codes "NoMemory"
