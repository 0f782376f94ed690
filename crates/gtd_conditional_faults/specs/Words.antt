-- Faults in words.
use Rattle.std.specs.Prelude.{ℕ, ◌++◌, List, codes, decimal}
use Rattle.gtd_conditional_elements.specs.declared.fault.ConditionsFault.{ConditionsFault}
use Rattle.gtd_conditional_elements.specs.declared.fault.ConditionsFault.TheVariants as tags
use Rattle.gtd_conditional_means.specs.FaultTexts as means
use Rattle.gtd_conditional_parts.specs.declared.value.ValueFault.{ValueFault}
use Rattle.gtd_conditional_parts.specs.declared.value.ValueFault.TheVariants as value
use Rattle.gtd_conditional_tags.specs.FaultTexts as row
use Rattle.gtd_conditional_values.specs.declared.term.TermFault.TheVariants as term
use Rattle.gtd_hours_faults.specs.Words as hours
use Rattle.gtd_conditional_faults.specs.Places.{place_of}
use Rattle.gtd_conditional_faults.specs.declared.fault.FileFault.{FileFault}
use Rattle.gtd_conditional_faults.specs.declared.fault.FileFault.TheVariants as fault

-- what is wrong with a value, with its place there
abbrev pub value_text : ValueFault → List ℕ
value_text (value.Part place) = codes "Part at " ++ decimal place
value_text (value.Value place) = codes "Value at " ++ decimal place
value_text (value.Term (term.Condition place)) = codes "Condition at " ++ decimal place
value_text (value.Term (term.Hours start why)) =
    codes "Hours " ++ hours.fault_text (place_of (value.Term (term.Hours start why))) why

-- the row and the fault
abbrev pub tags_text : ConditionsFault → List ℕ
tags_text (tags.Row why) = row.fault_text why
tags_text (tags.Value at why) = codes "row " ++ decimal at ++ codes ": " ++ value_text why
tags_text (tags.TooMany at) = codes "row " ++ decimal at ++ codes ": TooMany at 0"

abbrev pub fault_text : FileFault → List ℕ
fault_text (fault.Means why) = means.fault_text why
fault_text (fault.Tags why) = tags_text why
