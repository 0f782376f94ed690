-- The warning stands behind those so far, before those that follow.
use Rattle.std.proofs.Common.{◌≤◌, ◌∷◌, ◌++◌, ◌∙◌, ap, [], List, arith, refl, subst}
use Rattle.std.proofs.lemmas.List.{append_assoc}
use Rattle.gtd_hours_warnings.specs.Marks.{AddsNotKnown}
use Rattle.gtd_hours_warnings.specs.declared.warnings.Warning.{Warning}
use Rattle.gtd_hours_warnings.proofs.UnknownFacts.{by_later, by_more}
use Rattle.gtd_hours_warnings.proofs.unknowns.push_one.Goals as goal

pub returns-clause-by : goal.returns-clause-by
returns-clause-by c =
    let latest = c.in_ok-now.now.latest in
    let most = c.max.result in
    let is = c.max.ensures in
    let le : latest ≤ most = omega (arith, is) in
    let own : c.args.warning.place ≤ most = omega (arith, is) in
    rw c.in_ok-push.ensures.items (by_more most _ c.args.warning (by_later latest most _ le c.in_ok-now.ensures.by) own)

pub returns-clause-adds : goal.returns-clause-adds
returns-clause-adds c = λ more found adds.
    let w = c.args.warning in
    let all = c.push_ready.new.all.items in
    let same = ap (λ (l : List Warning). l ++ more) c.in_ok-push.ensures.items ∙ append_assoc all (w ∷ []) more in
    c.in_ok-now.ensures.adds (w ∷ more) found (w, more, refl, refl)
    (subst (λ (l : List Warning). AddsNotKnown c.in_ok-now.now.places.now l found) same adds)
