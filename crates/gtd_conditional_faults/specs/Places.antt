-- The rows of faults, and their places in values.
use Rattle.std.specs.Prelude.{ℕ, ◌+◌, min, Option, Some, None}
use Rattle.gtd_core.specs.Limits.{most_rows}
use Rattle.gtd_conditional_elements.specs.declared.fault.ConditionsFault.{ConditionsFault}
use Rattle.gtd_conditional_elements.specs.declared.fault.ConditionsFault.TheVariants as tags
use Rattle.gtd_conditional_means.specs.Table.{most_table_rows}
use Rattle.gtd_conditional_means.specs.declared.fault.MeansFault.{MeansFault}
use Rattle.gtd_conditional_means.specs.declared.fault.MeansFault.TheVariants as means
use Rattle.gtd_conditional_parts.specs.declared.value.ValueFault.{ValueFault}
use Rattle.gtd_conditional_parts.specs.declared.value.ValueFault.TheVariants as value
use Rattle.gtd_conditional_tags.specs.declared.fault.TagsFault.{TagsFault}
use Rattle.gtd_conditional_tags.specs.declared.fault.TagsFault.TheVariants as row
use Rattle.gtd_conditional_values.specs.declared.term.TermFault.TheVariants as term
use Rattle.gtd_hours_faults.specs.Words.{place_in}
use Rattle.gtd_conditional_faults.specs.declared.fault.FileFault.{FileFault}
use Rattle.gtd_conditional_faults.specs.declared.fault.FileFault.TheVariants as fault

-- The place of a fault in its value: of hours, where they begin, and their own place from there on. No value has more bytes than
-- a number of the machine tells.
abbrev pub place_of : ValueFault → ℕ
place_of (value.Part place) = place
place_of (value.Value place) = place
place_of (value.Term (term.Condition place)) = place
place_of (value.Term (term.Hours start why)) = min (start + place_in why) 18_446_744_073_709_551_615

-- the row that a fault is of, if it is of one; `TooManyRows` is of the first row too many
abbrev pub means_row : MeansFault → Option ℕ
means_row means.TooLarge = None
means_row means.Header = None
means_row means.TooManyRows = Some (most_table_rows + 1)
means_row (means.FieldCount row) = Some row
means_row (means.Vehicle row) = Some row
means_row (means.Name row) = Some row
means_row (means.Repeated row) = Some row
means_row (means.Value row) = Some row
means_row (means.Kind row) = Some row

abbrev pub row_in : TagsFault → Option ℕ
row_in row.TooLarge = None
row_in row.Header = None
row_in (row.FieldCount at) = Some at
row_in (row.Element at) = Some at
row_in (row.Key at) = Some at
row_in (row.Repeated at) = Some at
row_in row.TooManyRows = Some (most_rows + 1)

abbrev pub tags_row : ConditionsFault → Option ℕ
tags_row (tags.Row why) = row_in why
tags_row (tags.Value row why) = Some row
tags_row (tags.TooMany row) = Some row

abbrev pub row_of : FileFault → Option ℕ
row_of (fault.Means why) = means_row why
row_of (fault.Tags why) = tags_row why
