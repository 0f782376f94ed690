-- Alike for a whole period means alike for ever, so then the stay reaches to the end of the horizon.
use Rattle.std.proofs.Common.{refl, arith, rules, FitsSigned, to_z-of_z, w64}
use Rattle.std.specs.Prelude.{◌≤ℤ◌, ◌+ℤ◌}
use Rattle.std.proofs.lemmas.Int.{ints}
use Rattle.gtd_core.specs.Trees.{tree_of}
use Rattle.gtd_recur.specs.Periods.{period_seconds}
use Rattle.gtd_eval.specs.Membership.{InTree}
use Rattle.gtd_eval.specs.facts.PeriodFacts.{short-period, some-period, tree-repeats-after}
use Rattle.gtd_eval.proofs.PeriodChanges.{never-changes}
use Rattle.gtd_eval.proofs.stay.repeating_stay.Goals as goal

pub returns-then-until-last : goal.returns-then-until-last
returns-then-until-last c =
    let tree = tree_of c.args.expr.now in
    let w = period_seconds c.args.period in
    let first = c.each_stay-first.ensures.stays in
    let end = c.until-end.ensures.value in
    let inside = c.requires.inside in
    let is = c.seconds.ensures.value in
    let past = c.if-until-last.true in
    let u : FitsSigned w64 c.alike_until-until.result.0 = search rules in
    let s : FitsSigned w64 c.args.second.0 = search rules in
    let k : FitsSigned w64 c.seconds.result = search rules in
    let few = short-period c.args.period in
    let some = some-period c.args.period in
    let early = c.args.horizon.not_early in
    let late = c.args.horizon.not_late in
    let far : (c.args.second.0 +ℤ w) ≤ℤ c.alike_until-until.result.0 =
    omega (arith, ints, is, past, few, some, early, late, inside.0, inside.1, to_z-of_z u, to_z-of_z s, to_z-of_z k) in
    record {
      stays = record {
        holds = first.holds;
        later = omega (arith, ints, end, inside.1);
        within = omega (arith, ints, end);
        same = never-changes (InTree tree) w c.args.second.0 c.alike_until-until.result.0 (some-period c.args.period)
            (λ t. tree-repeats-after w tree t (c.args.period, refl) c.requires.repeats) far c.alike_until-until.ensures.same
            c.until-end.result.0;
      };
      far = λ u within none. omega (arith, ints, end, within);
    }

pub returns : goal.returns
returns c =
    let first = c.each_stay-first.ensures.stays in
    let alike = c.alike_until-until.ensures in
    record {
      stays = record { holds = first.holds; later = alike.later; within = alike.within; same = alike.same };
      far = λ u within none.
          let near = c.each_stay-first.ensures.far u within none in omega (arith, ints, near, alike.long);
    }
