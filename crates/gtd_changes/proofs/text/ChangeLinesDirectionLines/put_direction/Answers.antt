-- Each of the three forms puts its own lines of a direction.
use Rattle.gtd_changes.proofs.text.ChangeLinesDirectionLines.put_direction.Goals as goal

pub returns-in-Intervals-clause-puts : goal.returns-in-Intervals-clause-puts
returns-in-Intervals-clause-puts g c = rw (c.in-Intervals.is) c.put_changes.ensures.puts

pub returns-in-Rows-clause-puts : goal.returns-in-Rows-clause-puts
returns-in-Rows-clause-puts g c = rw (c.in-Rows.is) c.put_changes-in-Rows.ensures.puts

pub returns-in-Summary-clause-puts : goal.returns-in-Summary-clause-puts
returns-in-Summary-clause-puts g c = rw (c.in-Summary.is) c.put_summary.ensures.puts
