-- The warnings are gone through one after another; what is left is put in one after another.
use Rattle.std.proofs.Common.{◌≡◌, ◌∷◌, ◌++◌, ◌∙◌, ap, sym, [], List, refl, rules, subst}
use Rattle.std.proofs.lemmas.List.{append-nil, append_assoc, map-id}
use Rattle.std.proofs.lemmas.Iterator.Adapters.{YieldsList-from_vec}
use Rattle.std.proofs.lemmas.Iterator.Consumers.{YieldsList-end}
use Rattle.gtd_hours_warnings.specs.Marks.{AddsNotKnown}
use Rattle.gtd_hours_warnings.specs.declared.warnings.Warning.{Warning}
use Rattle.gtd_hours_warnings.proofs.unknowns.add_not_known.Goals as goal

pub loop-warning-preserved : goal.loop-warning-preserved
loop-warning-preserved c = record {
  by = c.in_ok-left.ensures.by;
  adds = λ more found whole adds. c.loop-warning.invariant.adds (c.in-Some.warning ∷ more) found
      (sym (append_assoc c.loop-warning.yielded (c.in-Some.warning ∷ []) more) ∙ whole)
      (c.in_ok-left.ensures.adds more found adds);
}

pub returns : goal.returns
returns c =
    let gives = c.into_iter-warning-iterator.ensures.into_iter_gives in
    let all-are = YieldsList-from_vec {s = c.into_iter-warning-iterator.result} c.args.warnings.items (search rules)
    (search rules) in
    let end = YieldsList-end all-are c.loop-warning.yielded c.loop-warning.warning-iterator c.loop-warning.yielded_by
    c.next.result c.next.new.self c.in-None.is c.next.ensures.steps in
    let whole : c.loop-warning.yielded ≡ c.args.warnings.items = sym (map-id c.loop-warning.yielded) ∙ end.0 in
    let found = c.add_in_order.new.warnings.items in
    let all = c.push_ready.new.all.items in
    let adds = subst (λ (l : List Warning). AddsNotKnown c.in_ok-last.last.places.now l found) (sym (append-nil all))
    c.in_ok-add_in_order.ensures in
    c.loop-warning.invariant.adds [] found (append-nil c.loop-warning.yielded ∙ whole)
    (c.in_ok-last.ensures.adds [] found refl adds)
