use Rattle.std.proofs.Common.{◌≡◌, ◌∙◌, arith, rules, subst, inl, inr}
use Rattle.std.specs.Prelude.{ℤ}
use Rattle.std.proofs.lemmas.Int.{ints}
use Rattle.gtd_core.specs.Parts.{domain_tree}
use Rattle.gtd_core.specs.Trees.{Tree}
use Rattle.gtd_core.specs.Whole.{whole}
use Rattle.gtd_eval.specs.Asked.{asked_tree}
use Rattle.gtd_eval.specs.Membership.{InDomain, InTree}
use Rattle.gtd_eval.specs.Stays.{IsStay}
use Rattle.gtd_eval.specs.declared.stay.Stay.{Stay}
use Rattle.gtd_eval.proofs.OnwardFacts.{come-later}
use Rattle.gtd_eval.specs.facts.StayChanges.{next_stays}
use Rattle.gtd_eval.proofs.queries.next_change.Goals as goal

-- a stay of the tree that is asked is one of the domain
of-tree : (asked tree : Tree) (s last end : ℤ) (stay : Stay) → asked ≡ tree → end ≡ last → IsStay (InTree asked) s end stay
    → IsStay (InTree tree) s last stay
of-tree asked tree s last end stay e f is =
    subst (λ (t : Tree). IsStay (InTree t) s last stay) e (subst (λ (u : ℤ). IsStay (InTree asked) s u stay) f is)

pub loop-init : goal.loop-init
loop-init c =
    let is = c.stay_of-first.ensures.stays in
    record {
      tree = rw c.expr.ensures.value at c.in_ok-stays.ensures.tree;
      come = come-later c.in_ok-stays.stays (whole c.days_to_look-days.result).from c.stay_of-first.result.until.0
          (let l = is.later in let s = c.days_to_look-days.ensures.inside.0 in omega (arith, ints, l, s))
          c.in_ok-stays.ensures.come;
      end = elim c.days_to_look-days.ensures.until [
        | inl e ↦ rw e at c.in_ok-stays.ensures.end
        | inr w ↦ absurd (let no = w.1 in cc)
      ];
      later = is.later;
      within = is.within;
      never = is.same;
    }

pub returns-then-at-end : goal.returns-then-at-end
returns-then-at-end c =
    let past = rw c.until-end.ensures.value at c.if-at-end.true in
    record { change = λ t after before. c.loop.invariant.never t after (omega (arith, ints, past, before)) }

pub loop-preserved : goal.loop-preserved
loop-preserved c =
    let i = c.loop.invariant in
    let last = (whole c.args.horizon).until in
    let is : IsStay (InDomain c.args.domain.now) c.loop.at.0 last c.stay_at-stay.result =
    of-tree (asked_tree c.loop.stays) (domain_tree c.args.domain.now) c.loop.at.0 last c.until-end.result.0 c.stay_at-stay.result
    i.tree c.until-end.ensures.value c.stay_at-stay.ensures.stays in
    let same : c.stay_at-stay.result.holds ≡ c.stay_of-first.result.holds = search rules in
    record {
      tree = c.stay_at-stay.ensures.tree ∙ i.tree;
      come = come-later c.stay_at-stay.new.stays c.loop.at.0 c.stay_at-stay.result.until.0
          (let l = is.later in omega (arith, ints, l)) c.stay_at-stay.ensures.come;
      end = rw c.until-end.ensures.value at c.stay_at-stay.ensures.end;
      later = (let l = is.later in let k = i.later in omega (arith, ints, l, k));
      within = is.within;
      never = next_stays (InDomain c.args.domain.now) c.args.second.0 last c.stay_of-first.result c.stay_at-stay.result
          c.stay_at-stay.result.holds c.loop.at.0 c.stay_of-first.ensures.stays is is.holds same i.later i.never;
    }
