-- Each run that is passed over leaves fewer to come, so the loop ends.
use Rattle.gtd_eval.proofs.OnwardFacts.{fewer}
use Rattle.gtd_eval.proofs.basic_stays.BasicStays.pass_all.Goals as goal

pub loop-span-smaller : goal.loop-span-smaller
loop-span-smaller c =
    fewer c.loop-span.self c.first.new.self c.pass.new.self c.in-Some.span c.in-Some.ensures.list c.in-Some.ensures.ahead
    c.pass.ensures.ahead c.pass.ensures.runs
