-- Rows in order have one line each, so their list exists and is the only one.
use Rattle.gtd_lines.specs.facts.OneLine.{one_lines}
use Rattle.gtd_lines.specs.facts.SomeLines.{some_lines}
use Rattle.gtd_lines.proofs.laws.one_list_of_lines.Goals as goal

pub returns : goal.returns
returns c = record { one = one_lines; some = some_lines }
