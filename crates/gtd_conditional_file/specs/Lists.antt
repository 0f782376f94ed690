-- The lists of faults that a run answers.
use Rattle.std.specs.Prelude.{◌≡◌, ℕ, List, map, string_bytes}
use Rattle.gtd_conditional_elements.specs.declared.fault.ConditionsFault.{ConditionsFault}
use Rattle.gtd_conditional_faults.specs.Listing.{AreLines}
use Rattle.gtd_conditional_faults.specs.declared.fault.FileFault.{FileFault}
use Rattle.gtd_conditional_faults.specs.declared.fault.FileFault.TheVariants as fault
use Rattle.gtd_conditional_means.specs.declared.fault.MeansFault.{MeansFault}
use Rattle.gtd_conditional_file.specs.declared.unconverted.Unconverted.{Unconverted}
use Rattle.gtd_conditional_file.specs.declared.unconverted.Unconverted.TheVariants as why

-- the faults of a table, and of a file of tags
abbrev pub of_means : List MeansFault → List FileFault
of_means faults = map (λ (bad : MeansFault). fault.Means bad) faults

abbrev pub of_tags : List ConditionsFault → List FileFault
of_tags faults = map (λ (bad : ConditionsFault). fault.Tags bad) faults

-- The answer for a file with these bytes and faults: their list, or that memory was refused.
abbrev pub IsRefusal : List ℕ → List ℕ → List FileFault → Unconverted → Type 0
IsRefusal path bytes faults (why.Faults text) = AreLines path bytes faults (string_bytes text)
IsRefusal path bytes faults (why.NoMemory n) = n ≡ 0
IsRefusal path bytes faults answer = ⊥
