use Rattle.std.specs.Prelude.{pos}
use Rattle.gtd_core.specs.Seconds.{IsHorizonSecond}
use Rattle.gtd_eval.specs.Membership.{InDomain}
use Rattle.gtd_c.specs.Batches.{AreFirstAnswered}
use Rattle.gtd_c.proofs.batches.hold_all.Given as goal

-- the questions so far are answered, and none else
abbrev pub invariant-loop-at : goal.invariant-loop-at
invariant-loop-at l = record {
  answered : AreFirstAnswered IsHorizonSecond (InDomain l.domain) l.seconds (pos 0) l.at l.fn.answers l.answers;
}
