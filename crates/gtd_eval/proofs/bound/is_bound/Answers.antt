use Rattle.std.proofs.Common.{◌≡◌, refl, arith, rules, inl, inr, FitsSigned, to_z-of_z, w64, Bool}
use Rattle.std.specs.Prelude.{◌⊎◌, ◌+ℤ◌, not}
use Rattle.std.proofs.lemmas.Int.{ints}
use Rattle.gtd_core.specs.Trees.{tree_of}
use Rattle.gtd_core.specs.Whole.{whole}
use Rattle.gtd_recur.specs.Periods.{period_seconds}
use Rattle.gtd_eval.specs.Bounds.{InBound}
use Rattle.gtd_eval.specs.facts.PeriodFacts.{short-period, some-period}
use Rattle.gtd_eval.proofs.BoundFacts.{all-within, bound-repeats, told-on, told-to-end}
use Rattle.gtd_eval.proofs.bound.is_bound.Goals as goal

pub loop-init : goal.loop-init
loop-init c = record {
  from = omega (arith, ints);
  told = λ t from before. absurd (omega (arith, ints, from, before));
}

pub returns-then-at-last : goal.returns-then-at-last
returns-then-at-last c =
    let tree = tree_of c.args.expr.now in
    let w = period_seconds c.bound_period-period.result in
    let upper : Bool = not c.args.holds in
    let some = some-period c.bound_period-period.result in
    let few = short-period c.bound_period-period.result in
    let inside = c.requires.inside in
    let early = c.args.horizon.not_early in
    let late = c.args.horizon.not_late in
    let end = c.until-end.ensures.value in
    let is = c.seconds.ensures.value in
    let past = c.if-at-last.true in
    let s : FitsSigned w64 c.args.second.0 = search rules in
    let k : FitsSigned w64 c.seconds.result = search rules in
    let l : FitsSigned w64 c.earlier-last.result.0 = search rules in
    let a : FitsSigned w64 c.loop.at.0 = search rules in
    let reach : (c.earlier-last.result.0 ≡ c.args.second.0 +ℤ w) ⊎ (c.earlier-last.result.0 ≡ (whole c.args.horizon).until) =
    elim c.earlier-last.ensures.either [
      | inl e ↦ inl (omega (arith, ints, e, is, few, some, early, late, inside.0, inside.1, to_z-of_z s, to_z-of_z k))
      | inr e ↦ inr (omega (arith, ints, e, end))
    ] in
    record {
      bound = λ yes. all-within c.args.holds tree c.args.second.0 (whole c.args.horizon).until
          (told-to-end c.args.holds (InBound upper tree) c.args.second.0 w c.earlier-last.result.0 c.loop.at.0
          (whole c.args.horizon).until some
          (λ t. bound-repeats upper w tree t (c.bound_period-period.result, refl) c.bound_period-period.ensures.repeats) reach
          (omega (arith, ints, past, to_z-of_z l, to_z-of_z a)) c.loop.invariant.told);
    }

pub bound_stay-stay-requires : goal.bound_stay-stay-requires
bound_stay-stay-requires c =
    let inside = c.requires.inside in
    let from = c.loop.invariant.from in
    let early = c.if-at-last.false in
    let end = c.until-end.ensures.value in
    let within = c.earlier-last.ensures.not_later.1 in
    let l : FitsSigned w64 c.earlier-last.result.0 = search rules in
    let a : FitsSigned w64 c.loop.at.0 = search rules in
    record {
      inside = (
        omega (arith, ints, inside.0, from),
        omega (arith, ints, early, end, within, to_z-of_z l, to_z-of_z a),
      );
    }

pub loop-preserved : goal.loop-preserved
loop-preserved c =
    let i = c.loop.invariant in
    let is = c.bound_stay-stay.ensures.stays in
    let later = is.later in
    let same : c.bound_stay-stay.result.holds ≡ c.args.holds = search rules in
    record {
      from = omega (arith, ints, later, i.from);
      told = told-on c.args.holds (InBound (not c.args.holds) (tree_of c.args.expr.now)) c.args.second.0 c.loop.at.0
          (whole c.args.horizon).until c.bound_stay-stay.result is same i.told;
    }
