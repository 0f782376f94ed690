-- A warning that comes next is put between those so far and those that follow.
use Rattle.std.proofs.Common.{◌≡◌, ◌≤◌, ◌∷◌, ◌++◌, [], List, arith, refl, sym, subst, rules}
use Rattle.gtd_hours_warnings.specs.Marks.{AddsNotKnown}
use Rattle.gtd_hours_warnings.specs.declared.warnings.Warning.{Warning}
use Rattle.gtd_hours_warnings.proofs.UnknownFacts.{by_later, by_more, ready_left}
use Rattle.gtd_hours_warnings.proofs.unknowns.push_ready.Goals as goal

pub loop-place-preserved : goal.loop-place-preserved
loop-place-preserved c =
    let rest = c.loop-place.rest.now in
    let place = c.in-Some.place.now in
    let later = c.in-Some.later.now in
    let latest = c.loop-place.latest in
    let all = c.loop-place.all.items in
    let w = c.not_known_warning.result in
    let split : rest ≡ place ∷ later = c.in-Some.ensures.cases.0 in
    let ready = c.comes_next.ensures (search rules) in
    let is = c.not_known_warning.ensures in
    let le : w.place ≤ place = let at = is.at in omega (arith, at) in
    let pushed = c.in_ok-push.ensures.items in
    record {
      by = rw pushed (by_more place all w (by_later latest place all ready.0 c.loop-place.invariant.by) le);
      adds = λ more found begins adds. c.loop-place.invariant.adds more found begins
          (ready_left rest later place c.args.next latest w all more found split is ready.0 ready.1 begins
          c.loop-place.invariant.by (subst (λ (l : List Warning). AddsNotKnown later (l ++ more) found) pushed adds));
    }

pub returns-clause-by : goal.returns-clause-by
returns-clause-by c = c.loop-place.invariant.by

pub returns-clause-adds : goal.returns-clause-adds
returns-clause-adds c = c.loop-place.invariant.adds
