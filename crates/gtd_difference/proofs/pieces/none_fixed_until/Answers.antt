-- A stay that does not hold adds its seconds to those that are not in the expression.
use Rattle.std.proofs.Common.{◌≡◌, ◌∙◌, refl, arith, rules, false}
use Rattle.std.proofs.lemmas.Int.{ints}
use Rattle.gtd_core.specs.Whole.{whole}
use Rattle.gtd_difference.specs.Pieces.{InFixed}
use Rattle.gtd_difference.proofs.FixedDates.{none-more}
use Rattle.gtd_difference.proofs.pieces.none_fixed_until.Goals as goal

pub loop-init : goal.loop-init
loop-init c = record {
  tree = refl;
  known = c.requires.known;
  later = omega (arith, ints);
  same = λ t. ((λ h. h), (λ h. h));
  none = λ t later before h. omega (arith, ints, later, before);
}

pub loop-preserved : goal.loop-preserved
loop-preserved c =
    let i = c.loop.invariant in
    let is = c.fixed_stay-stay.ensures.stays in
    let no : c.fixed_stay-stay.result.holds ≡ false = search rules in
    record {
      tree = c.fixed_stay-stay.ensures.tree ∙ i.tree;
      known = c.fixed_stay-stay.ensures.known;
      later = let l = is.later in omega (arith, ints, l, i.later);
      same = λ t.
          let a = c.fixed_stay-stay.ensures.fixed t in
          let b = i.same t in
          ((λ h. b.0 (a.0 h)), (λ h. a.1 (b.1 h)));
      none = none-more (InFixed c.loop.states) (InFixed c.args.states.now) c.args.from.0 c.loop.at.0
          (whole c.args.days).until c.fixed_stay-stay.result i.same i.none is no;
    }

pub returns-then-stay-clause-fixed : goal.returns-then-stay-clause-fixed
returns-then-stay-clause-fixed c = λ t.
    let a = c.fixed_stay-stay.ensures.fixed t in
    let b = c.loop.invariant.same t in
    ((λ h. b.0 (a.0 h)), (λ h. a.1 (b.1 h)))
