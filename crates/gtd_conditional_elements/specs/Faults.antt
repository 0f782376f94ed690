-- The rows of faults.
use Rattle.std.specs.Prelude.{ℕ, ◌+◌}
use Rattle.gtd_core.specs.Limits.{most_rows}
use Rattle.gtd_conditional_tags.specs.declared.fault.TagsFault.{TagsFault}
use Rattle.gtd_conditional_tags.specs.declared.fault.TagsFault.TheVariants as tags
use Rattle.gtd_conditional_elements.specs.declared.fault.ConditionsFault.{ConditionsFault}
use Rattle.gtd_conditional_elements.specs.declared.fault.ConditionsFault.TheVariants as fault

-- the number of its row; that of a fault of the whole file is 0, and there are too many rows from the first one too many on
abbrev pub tags_row : TagsFault → ℕ
tags_row tags.TooLarge = 0
tags_row tags.Header = 0
tags_row (tags.FieldCount row) = row
tags_row (tags.Element row) = row
tags_row (tags.Key row) = row
tags_row (tags.Repeated row) = row
tags_row tags.TooManyRows = most_rows + 1

abbrev pub row_number : ConditionsFault → ℕ
row_number (fault.Row why) = tags_row why
row_number (fault.Value row why) = row
row_number (fault.TooMany row) = row
