-- The change of an element that is open at the same seconds is the element's own; otherwise it is found.
use Rattle.std.proofs.Common.{sym, subst}
use Rattle.std.proofs.lemmas.Result.{IfOk-weaker}
use Rattle.gtd_alike.specs.Alike.{AreOpenAlike}
use Rattle.gtd_states.specs.Known.{IsRightChange}
use Rattle.gtd_states.specs.declared.known.KnownChange.{KnownChange}
use Rattle.gtd_states.specs.facts.KnownFacts.{right_found, right_too}
use Rattle.gtd_states.proofs.known.change_by.Goals as goal

pub returns-in-Some : goal.returns-in-Some
returns-in-Some c =
    let found = c.args.found.now in
    let q = c.args.question in
    let e = c.in-Some.earlier.now in
    let look = c.in-Some.ensures.lookup in
    record {
      right = right_too found q.vehicle q.second.0 e.at q.at e.change
          (subst (λ (x : KnownChange). AreOpenAlike found q.vehicle x.at q.at) (sym look.1) (c.requires.alike e look.3.0))
          (subst (λ (x : KnownChange). IsRightChange found q.vehicle q.second.0 x.at x.change) (sym look.1)
          (c.requires.right c.args.first e look.3.0));
    }

pub returns : goal.returns
returns c =
    let q = c.args.question in
    record {
      right = IfOk-weaker c.change_after.result _ _ (right_found c.args.found.now q.vehicle q.second.0 q.at)
          c.change_after.ensures.change;
    }
