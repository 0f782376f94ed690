-- The nineteen bytes are those of the computed text, which is the text of the second.
use Rattle.std.proofs.Common.{rules}
use Rattle.gtd_calendar.specs.facts.StampTexts.{stamp_text-is}
use Rattle.gtd_calendar.proofs.stamp.write_stamp.Goals as goal

pub returns-clause-value : goal.returns-clause-value
returns-clause-value c = search rules

pub returns-clause-text : goal.returns-clause-text
returns-clause-text c = rw (returns-clause-value c) (stamp_text-is c.args.second.0 c.requires)
