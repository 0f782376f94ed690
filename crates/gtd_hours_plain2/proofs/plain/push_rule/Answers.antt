-- A rule that says something is added.
use Rattle.std.proofs.Common.{◌≡◌, ◌∙◌, ap, sym}
use Rattle.std.specs.Prelude.{Some}
use Rattle.gtd_hours2.specs.Rules.{says}
use Rattle.gtd_hours2.specs.Stored.{rule_of}
use Rattle.gtd_hours2.specs.declared.values.RuleWord.{RuleWord}
use Rattle.gtd_hours_plain2.specs.Clocks.{clocks_of}
use Rattle.gtd_hours_plain2.specs.Lowered.{given_of, modifier_of}
use Rattle.gtd_hours_plain2.proofs.Lowering.{with_rule}
use Rattle.gtd_hours_plain2.proofs.plain.push_rule.Goals as goal

pub returns-in_ok-push-in-Some : goal.returns-in_ok-push-in-Some
returns-in_ok-push-in-Some g c =
    let days = c.args.days.now in
    let given = given_of (g.D.RuleDays.holiday days) (g.D.RuleDays.years days) (clocks_of c.args.times.now) in
    let rule = rule_of c.args.rule in
    let is : modifier_of (says rule) ≡ Some c.in-Some.modifier =
    ap (λ (w : RuleWord). modifier_of w) (sym c.says.ensures.value) ∙ sym c.modifier_of.ensures ∙ c.in-Some.is in
    with_rule given (modifier_of (says rule)) rule
    c.in-Some.modifier c.in_ok-plain-in-Some.plain c.args.made.now.items c.push.new.self.items is
    c.in_ok-plain-in-Some.ensures c.in_ok-push-in-Some.ensures.items
