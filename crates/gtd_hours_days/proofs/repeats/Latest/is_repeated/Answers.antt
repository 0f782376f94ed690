-- The selector at an earlier place is like this one.
use Rattle.std.proofs.Common.{◌≡◌, ◌∙◌, sym, subst}
use Rattle.std.proofs.lemmas.List.{get_or_default}
use Rattle.gtd_hours_days.specs.Listed.{IsAlike}
use Rattle.gtd_hours_days.specs.declared.listed.Listed.{Listed}
use Rattle.gtd_hours_days.proofs.CoverageFacts.{alike_at}
use Rattle.gtd_hours_days.proofs.repeats.Latest.is_repeated.Goals as goal

pub returns-then-earlier-place : goal.returns-then-earlier-place
returns-then-earlier-place c = λ yes x is.
    let xs = c.args.listed.now in
    let place = c.args.place in
    let here = c.index-listed-place.result in
    let there = c.index-listed-earlier.result in
    let own : here ≡ x = c.index-listed-place.is ∙ get_or_default xs place here x c.requires ∙ sym is in
    alike_at xs place c.in-Some.latest.now x there c.if-earlier-place.true c.requires c.index-listed-earlier.is
    (subst (λ (l : Listed). IsAlike l there) own (c.is_alike.ensures yes))
