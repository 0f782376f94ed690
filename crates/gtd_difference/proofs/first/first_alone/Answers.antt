-- Up to where the pieces agree no second is alone; the spans of the rest of the days show the first that is.
use Rattle.std.proofs.Common.{arith, rules, FitsSigned, to_z-of_z, w64, inl, inr, ◌≡◌}
use Rattle.std.proofs.lemmas.Int.{ints}
use Rattle.std.proofs.lemmas.Result.{IfOk-weaker}
use Rattle.gtd_core.specs.Whole.{whole}
use Rattle.gtd_eval.specs.Membership.{InDomain}
use Rattle.gtd_difference.proofs.FixedDates.{first-later}
use Rattle.gtd_difference.proofs.first.first_alone.Goals as goal

pub returns-then-at-end : goal.returns-then-at-end
returns-then-at-end c =
    let a : FitsSigned w64 c.in_ok-at.at.0 = search rules in
    let e : FitsSigned w64 c.until-end.result.0 = search rules in
    let past = c.if-at-end.true in
    let end = c.until-end.ensures.value in
    record {
      alone = λ t later before in-first.
          c.in_ok-at.ensures.none t later (omega (arith, ints, before, past, end, to_z-of_z a, to_z-of_z e)) in-first;
    }

pub returns : goal.returns
returns c =
    let end : (whole c.days_to_look-rest.result).until ≡ (whole c.args.days).until =
    elim c.days_to_look-rest.ensures.until [ inl is ↦ is | inr short ↦ absurd (let no = short.1 in cc) ] in
    record {
      alone = IfOk-weaker c.first_by_spans.result _ _ (λ found h.
          first-later (InDomain c.args.domain.now) (InDomain c.args.other.now) c.args.from.0 c.in_ok-at.at.0
          c.in_ok-at.ensures.none c.in_ok-at.ensures.later (whole c.days_to_look-rest.result).until (whole c.args.days).until end
          found h) c.first_by_spans.ensures.alone;
    }
