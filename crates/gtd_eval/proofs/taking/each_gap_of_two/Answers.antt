-- The spans were taken by the taker of gaps.
use Rattle.std.proofs.Common.{sym}
use Rattle.gtd_eval.proofs.GapFacts.{gaps-on}
use Rattle.gtd_eval.proofs.taking.each_gap_of_two.Goals as goal

pub returns-clause-same_taker : goal.returns-clause-same_taker
returns-clause-same_taker g c =
    sym (gaps-on g.T.SpanTaker.is_ready g.T.SpanTaker.takes (λ x. x.sweep) (λ x. x.taker.ghost_name) (λ x. x.taker.now) _ _ _ _
    c.args.gaps.now c.each_of_two-more.new.taker c.each_of_two-more.result c.each_of_two-more.ensures.hands_on
    c.requires.ready.one_side c.requires.ready.awaits c.requires.ready.fits).0

pub returns-clause-took : goal.returns-clause-took
returns-clause-took g c =
    (gaps-on g.T.SpanTaker.is_ready g.T.SpanTaker.takes (λ x. x.sweep) (λ x. x.taker.ghost_name) (λ x. x.taker.now) _ _ _ _
    c.args.gaps.now c.each_of_two-more.new.taker c.each_of_two-more.result c.each_of_two-more.ensures.hands_on
    c.requires.ready.one_side c.requires.ready.awaits c.requires.ready.fits).1
