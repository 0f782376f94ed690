-- With fixed dates the expression repeats after its longest period; and while none of them changes, it is the expression itself.
use Rattle.std.proofs.Common.{arith, rules, FitsSigned, to_z-of_z, w64}
use Rattle.std.specs.Prelude.{◌≤ℤ◌, ◌+ℤ◌}
use Rattle.std.proofs.lemmas.Int.{ints}
use Rattle.gtd_core.specs.Whole.{whole}
use Rattle.gtd_recur.specs.Periods.{period_seconds}
use Rattle.gtd_eval.specs.Membership.{InTree}
use Rattle.gtd_eval.specs.facts.PeriodFacts.{short-period, some-period}
use Rattle.gtd_difference.specs.Pieces.{InFixed, states_tree}
use Rattle.gtd_difference.proofs.FixedDates.{fixed-repeats, never, none-in, none-later}
use Rattle.gtd_difference.proofs.pieces.none_until.Goals as goal

pub returns-then-reached-repeated-clause-none : goal.returns-then-reached-repeated-clause-none
returns-then-reached-repeated-clause-none c =
    let at = c.args.at.0 in
    let end = (whole c.args.days).until in
    let fixed = c.fix-until.new.states in
    let until = c.fix-until.result.0 in
    let reached = c.none_fixed_until-reached.result.0 in
    let early = c.args.days.not_early in
    let late = c.args.days.not_late in
    let inside = c.requires.inside in
    let past = c.if-reached-repeated.true in
    let u : FitsSigned w64 c.none_fixed_until-reached.result.0 = search rules in
    let s : FitsSigned w64 c.args.at.0 = search rules in
    let w = c.longest_period-period.result in
    let p : FitsSigned w64 c.seconds.result = search rules in
    let some = some-period w in
    let short = short-period w in
    let far : (at +ℤ period_seconds w) ≤ℤ reached =
    omega (
      arith,
      ints,
      past,
      early,
      late,
      inside.0,
      inside.1,
      some,
      short,
      c.seconds.ensures.value,
      to_z-of_z p,
      to_z-of_z u,
      to_z-of_z s,
    ) in
    none-in (InFixed fixed) (InTree (states_tree c.args.states.now)) at until until until c.fix-until.ensures.fixed
    (none-later (InFixed fixed) (period_seconds w) at reached some
    (λ t. fixed-repeats w fixed end t c.fix-until.ensures.known c.longest_period-period.ensures.longest) far
    c.none_fixed_until-reached.ensures.none until) (omega (arith, ints)) (omega (arith, ints))

pub returns-then-reached-repeated-clause-new : goal.returns-then-reached-repeated-clause-new
returns-then-reached-repeated-clause-new c = λ new.
    let at = c.args.at.0 in
    let end = (whole c.args.days).until in
    let fixed = c.fix-until.new.states in
    let until = c.fix-until.result.0 in
    let reached = c.none_fixed_until-reached.result.0 in
    let early = c.args.days.not_early in
    let late = c.args.days.not_late in
    let inside = c.requires.inside in
    let past = c.if-reached-repeated.true in
    let u : FitsSigned w64 c.none_fixed_until-reached.result.0 = search rules in
    let s : FitsSigned w64 c.args.at.0 = search rules in
    let w = c.longest_period-period.result in
    let p : FitsSigned w64 c.seconds.result = search rules in
    let some = some-period w in
    let short = short-period w in
    let far : (at +ℤ period_seconds w) ≤ℤ reached =
    omega (
      arith,
      ints,
      past,
      early,
      late,
      inside.0,
      inside.1,
      some,
      short,
      c.seconds.ensures.value,
      to_z-of_z p,
      to_z-of_z u,
      to_z-of_z s,
    ) in
    let none =
    never (InFixed fixed) (period_seconds w) at reached some
    (λ t. fixed-repeats w fixed end t c.fix-until.ensures.known c.longest_period-period.ensures.longest) far
    c.none_fixed_until-reached.ensures.none in
    λ t h. none t ((c.none_fixed_until-reached.ensures.fixed t).0 h)

pub returns-clause-none : goal.returns-clause-none
returns-clause-none c =
    none-in (InFixed c.fix-until.new.states) (InTree (states_tree c.args.states.now)) c.args.at.0 c.fix-until.result.0
    c.none_fixed_until-reached.result.0 c.earlier.result.0 c.fix-until.ensures.fixed c.none_fixed_until-reached.ensures.none
    c.earlier.ensures.not_later.1 c.earlier.ensures.not_later.0
