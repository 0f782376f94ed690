-- A text that is read, but of which no domain is found, is refused for that.
use Rattle.std.proofs.Common.{inr}
use Rattle.gtdesk_tool.proofs.text_hours.lines_of.Goals as goal

pub returns-in-Err-domain_line-clause-refused : goal.returns-in-Err-domain_line-clause-refused
returns-in-Err-domain_line-clause-refused c =
    inr (c.in-Ok.read, c.in-Ok.ensures.read, c.in-Err-domain_line.ensures.refused)

pub returns-in-Ok-warning_lines-clause-lines : goal.returns-in-Ok-warning_lines-clause-lines
returns-in-Ok-warning_lines-clause-lines c = record {
  read = c.in-Ok.read;
  reads = c.in-Ok.ensures.read;
  translates = c.in-Ok-domain_line.ensures.line;
  warns = c.in-Ok-warning_lines.ensures;
}
