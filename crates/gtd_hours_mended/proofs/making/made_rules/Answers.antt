-- One rule more has come; in the end all have.
use Rattle.std.proofs.Common.{◌∙◌, ap, subst, sym, drop, ℕ, List}
use Rattle.gtd_hours_writing.specs.declared.rule.MendedRule.{MendedRule}
use Rattle.gtd_hours_mended.proofs.MakingFacts.{AreJoined, all_joined, more_joined, no_rules}
use Rattle.gtd_hours_mended.specs.Making.{IsMade, comment_in}
use Rattle.gtd_hours_mended.specs.declared.comments.Stretch.{Stretch}
use Rattle.gtd_hours_mended.proofs.making.made_rules.Goals as goal

pub loop-from-preserved : goal.loop-from-preserved
loop-from-preserved c =
    let text = c.args.text.now in
    let rule = c.in_ok-rule.rule in
    let left = c.loop-from.comments.now in
    let forms = c.loop-from.forms.now in
    let later = c.behind-forms.ensures ∙ ap (λ (n : ℕ). drop n forms) c.times_in.ensures in
    let is = subst (λ (s : Stretch). IsMade (comment_in text s) c.in-Some.from.now forms rule) c.first_comment.ensures
    c.in_ok-rule.ensures.made in
    let joined = more_joined text c.args.found.now c.loop-from.rest.now c.in-Some.more.now c.in-Some.from.now c.args.comments.now
    left c.more_comments-comments.result.now c.args.forms.now forms c.behind-forms.result.now c.loop-from.made.items rule
    c.in-Some.ensures.cases.0 c.more_comments-comments.ensures later is c.loop-from.invariant in
    subst (λ (made : List MendedRule). AreJoined text c.args.found.now c.args.comments.now c.args.forms.now c.in-Some.more.now
    c.more_comments-comments.result.now c.behind-forms.result.now made) (sym c.in_ok-push_rule.ensures) joined

pub returns-clause-made : goal.returns-clause-made
returns-clause-made c =
    all_joined c.args.text.now c.args.found.now c.loop-from.rest.now c.args.comments.now c.loop-from.comments.now
    c.args.forms.now c.loop-from.forms.now c.loop-from.made.items (no_rules c.loop-from.rest.now c.in_default.ensures.cases)
    c.loop-from.invariant
