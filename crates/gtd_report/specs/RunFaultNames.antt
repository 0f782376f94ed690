-- The names of the faults of runs: those of their variants.
use Rattle.std.specs.Prelude.{ℕ, List, codes}
use Rattle.gtd_report.specs.declared.fault.RunFault.{RunFault}
use Rattle.gtd_report.specs.declared.fault.RunFault.TheVariants as fault

abbrev pub run_fault_name : RunFault → List ℕ
run_fault_name fault.VehicleRange = codes "VehicleRange"
run_fault_name fault.YearRange = codes "YearRange"
run_fault_name (fault.Records why) = codes "Records"
run_fault_name fault.NoElement = codes "NoElement"
run_fault_name (fault.WriteFault written) = codes "WriteFault"
run_fault_name (fault.NoMemory written) = codes "NoMemory"
