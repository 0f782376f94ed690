-- The walk to a row's record has one course, so two lines of a row are the same.
use Rattle.gtd_lines.specs.facts.OneLine.{one_line}
use Rattle.gtd_lines.proofs.laws.one_line.Goals as goal

pub returns : goal.returns
returns c = record { one = one_line }
