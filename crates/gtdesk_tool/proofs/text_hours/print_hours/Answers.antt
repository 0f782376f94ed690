-- A text with a table is read by it.
use Rattle.std.specs.Prelude.{string_bytes}
use Rattle.gtdesk_tool.proofs.TextFacts.{by_table}
use Rattle.gtdesk_tool.proofs.text_hours.print_hours.Goals as goal

pub returns-in-Some-clause-ran : goal.returns-in-Some-clause-ran
returns-in-Some-clause-ran g c =
    by_table string_bytes _ c.in-Some.field-0 _ _ _ _ _ _ _ _ _ _ c.in-Some.is c.print_with_table.ensures.ran
