-- The text of a moment is ASCII, and so it can be written as one string.
use Rattle.gtd_now.proofs.StampFacts.{utf8_stamp}
use Rattle.gtd_now.proofs.object.write_moment.Goals as goal

pub unreachable-requires : goal.unreachable-requires
unreachable-requires c = c.in-Err.ensures.cases.0 (rw c.write_stamp.ensures.value (utf8_stamp c.args.second.0))

pub returns-clause-tokens : goal.returns-clause-tokens
returns-clause-tokens c = rw (← c.write_stamp.ensures.value, ← c.in-Ok.ensures.cases.0) c.string.ensures.ok
