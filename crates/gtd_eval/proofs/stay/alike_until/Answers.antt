-- From stay to stay membership is that at the first second, up to where the walk over them stops.
use Rattle.std.proofs.Common.{◌≡◌, arith, rules}
use Rattle.std.proofs.lemmas.Int.{ints}
use Rattle.gtd_core.specs.Trees.{tree_of}
use Rattle.gtd_core.specs.Whole.{whole}
use Rattle.gtd_eval.specs.Membership.{InTree}
use Rattle.gtd_eval.specs.facts.StayChanges.{next_stays}
use Rattle.gtd_eval.proofs.stay.alike_until.Goals as goal

pub loop-init : goal.loop-init
loop-init c =
    let is = c.requires.first in record {
      later = is.later;
      within = is.within;
      never = is.same;
      long = omega (arith, ints);
    }

pub loop-preserved : goal.loop-preserved
loop-preserved c =
    let i = c.loop.invariant in
    let is = c.each_stay-stay.ensures.stays in
    let l = is.later in
    let same : c.each_stay-stay.result.holds ≡ c.args.first.holds = search rules in
    record {
      later = omega (arith, ints, l, i.later);
      within = is.within;
      never = next_stays (InTree (tree_of c.args.expr.now)) c.args.second.0 (whole c.args.horizon).until c.args.first
          c.each_stay-stay.result c.each_stay-stay.result.holds c.loop.at.0 c.requires.first is is.holds same i.later i.never;
      long = omega (arith, ints, l, i.long);
    }
