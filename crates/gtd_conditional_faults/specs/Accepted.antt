-- What is accepted where a fault is.
use Rattle.std.specs.Prelude.{ℕ, List, codes, Option, Some, None}
use Rattle.gtd_conditional_elements.specs.declared.fault.ConditionsFault.TheVariants as tags
use Rattle.gtd_conditional_means.specs.declared.fault.MeansFault.{MeansFault}
use Rattle.gtd_conditional_means.specs.declared.fault.MeansFault.TheVariants as means
use Rattle.gtd_conditional_parts.specs.declared.value.ValueFault.{ValueFault}
use Rattle.gtd_conditional_parts.specs.declared.value.ValueFault.TheVariants as value
use Rattle.gtd_conditional_tags.specs.declared.fault.TagsFault.{TagsFault}
use Rattle.gtd_conditional_tags.specs.declared.fault.TagsFault.TheVariants as row
use Rattle.gtd_conditional_values.specs.declared.term.TermFault.TheVariants as term
use Rattle.gtd_hours_faults.specs.Accepted as hours
use Rattle.gtd_faults.specs.Expected.{accepted_bytes, accepted_element, accepted_rows}
use Rattle.gtd_conditional_faults.specs.declared.fault.FileFault.{FileFault}
use Rattle.gtd_conditional_faults.specs.declared.fault.FileFault.TheVariants as fault

abbrev pub accepted_count : List ℕ
accepted_count = codes "3 fields, with commas between them"

-- what a table of means may have where this fault is
abbrev pub accepted_means : MeansFault → Option (List ℕ)
accepted_means means.TooLarge = Some accepted_bytes
accepted_means means.Header = None
accepted_means means.TooManyRows = Some (codes "at most 4096 rows")
accepted_means (means.FieldCount row) = Some accepted_count
accepted_means (means.Vehicle row) = Some (codes "1 to 99, or 0 for every type, or several, such as 11;12 or !1;2")
accepted_means (means.Name row) =
    Some (codes "lower case letters and _, and of a condition also a comparison, such as weight>7.5")
accepted_means (means.Repeated row) =
    Some (codes "each name of a kind once, and for a value none of no, yes, designated and permissive")
accepted_means (means.Value row) = Some (codes "open or closed, and nothing if the kind is ignore")
accepted_means (means.Kind row) = Some (codes "mode, condition, value or ignore")

-- what a file of tags may have
abbrev pub accepted_row : TagsFault → Option (List ℕ)
accepted_row row.TooLarge = Some accepted_bytes
accepted_row row.Header = None
accepted_row (row.FieldCount at) = Some accepted_count
accepted_row (row.Element at) = Some accepted_element
accepted_row (row.Key at) = Some (codes "a mode of the table of means before :conditional, or a name that it ignores")
accepted_row (row.Repeated at) = Some (codes "each key once for an element")
accepted_row row.TooManyRows = Some accepted_rows

-- what a value may have
abbrev pub accepted_value : ValueFault → List ℕ
accepted_value (value.Part place) =
    codes "parts such as no @ (Mo-Fr 07:00-09:00), with ; between them, and each parenthesis closed"
accepted_value (value.Value place) =
    codes "no, yes, designated, permissive or a value of the table of means; of oneway yes, no or -1"
accepted_value (value.Term (term.Condition place)) =
    codes "a word or a comparison that the table of means has as a condition"
accepted_value (value.Term (term.Hours start why)) = hours.accepted why

-- What a file may have where this fault is. The header that is expected is shown below the first line.
abbrev pub accepted : FileFault → Option (List ℕ)
accepted (fault.Means why) = accepted_means why
accepted (fault.Tags (tags.Row why)) = accepted_row why
accepted (fault.Tags (tags.Value row why)) = Some (accepted_value why)
accepted (fault.Tags (tags.TooMany row)) = Some (codes "conditions that take at most 128 basic domains")
