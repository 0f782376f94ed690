-- The bytes behind the first quote are cut behind the next one.
use Rattle.std.proofs.Common.{◌∙◌, ◌≤◌, ap, arith, length}
use Rattle.std.proofs.lemmas.Bool.Decides.{nat_tests}
use Rattle.gtd_hours_warnings.specs.Marks.{comment_of}
use Rattle.gtd_hours_warnings.proofs.MarkFacts.{comment_cut, comment_whole}
use Rattle.gtd_hours_warnings.proofs.marks.comment_at.Goals as goal

pub returns-then-inside-inner : goal.returns-then-inside-inner
returns-then-inside-inner c =
    comment_cut c.from_place-comment.result.now c.in-Some.inner.now c.in-Some.field-0-0.now c.before_quote-inside.result
    c.in-Some.ensures.cases.0 c.before_quote-inside.ensures.count
    ∙ ap comment_of c.from_place-comment.ensures

pub returns-else-inside-inner : goal.returns-else-inside-inner
returns-else-inside-inner c =
    let many : length c.in-Some.inner.now ≤ c.before_quote-inside.result = grind (arith, nat_tests) in
    comment_whole c.from_place-comment.result.now c.in-Some.inner.now c.in-Some.field-0-0.now c.before_quote-inside.result
    c.in-Some.ensures.cases.0 c.before_quote-inside.ensures.count many
    ∙ ap comment_of c.from_place-comment.ensures
