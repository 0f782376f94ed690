-- A difference of nothing has nothing before a span.
use Rattle.gtd_spans.proofs.MinusSteps.{taken-off-nothing}
use Rattle.gtd_spans.proofs.merge.Merge.gap_before.Goals as goal

pub returns-in-Ended-clause-gap : goal.returns-in-Ended-clause-gap
returns-in-Ended-clause-gap c = taken-off-nothing c.args.self.now c.args.y c.requires.op c.in-Ended.is c.requires.awaits.1
