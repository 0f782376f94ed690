-- Without a table, no holidays are known.
use Rattle.gtdesk_tool.proofs.text_hours.print_without_table.Goals as goal

pub returns-clause-ran : goal.returns-clause-ran
returns-clause-ran g c = rw c.options_with-options.ensures at c.print_with.ensures.ran
