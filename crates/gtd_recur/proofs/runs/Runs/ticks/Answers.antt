-- The walk counts no more than all the work of the horizon, also when it looked back less far than it could.
use Rattle.std.proofs.Common.{arith}
use Rattle.gtd_recur.proofs.LookLemmas.{work-widen}
use Rattle.gtd_recur.proofs.runs.Runs.ticks.Goals as goal

pub returns-clause-at_most : goal.returns-clause-at_most
returns-clause-at_most c =
    let s = c.args.self.now in
    let most = c.ticks.ensures.at_most in
    let less = work-widen s.walk in
    omega (arith, most, less)
