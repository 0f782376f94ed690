-- No line is longer than 63 bytes, since the elements and vehicle types of a file have few digits.
use Rattle.gtd_schedule.proofs.ShortLines.{short_lines}
use Rattle.gtd_schedule.proofs.laws.short_lines.Goals as goal

pub returns : goal.returns
returns c = record { short = short_lines }
