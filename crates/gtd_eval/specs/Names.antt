-- The names of faults, as fault lines show them.
use Rattle.std.specs.Prelude.{ℕ, List, codes}
use Rattle.gtd_eval.specs.declared.ever.EverFault.{EverFault}
use Rattle.gtd_eval.specs.declared.ever.EverFault.TheVariants.{HasYear, NoMemory}

abbrev pub ever_fault_name : EverFault → List ℕ
ever_fault_name HasYear = codes "HasYear"
ever_fault_name NoMemory = codes "NoMemory"
