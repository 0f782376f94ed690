-- What one rule and those behind it add is what is left to be added. Each rule that hides hours comes after another one.
use Rattle.std.proofs.Common.{◌≡◌, ◌∷◌, subst, sym}
use Rattle.gtd_hours_warnings.specs.Warnings.{AreRules}
use Rattle.gtd_hours_warnings.proofs.RuleFacts.{are_rules}
use Rattle.gtd_hours_warnings.proofs.WarningFacts.{hides_left, rules_left}
use Rattle.gtd_hours_warnings.proofs.warnings.add_hides.Goals as goal

pub loop-rule-preserved : goal.loop-rule-preserved
loop-rule-preserved c =
    let hours = c.args.hours.now in
    let rest = c.loop-rule.rest.now in
    let rule = c.in-Some.rule.now in
    let later = c.in-Some.later.now in
    let split : rest ≡ rule ∷ later = c.in-Some.ensures.cases.0 in (
      rules_left hours rest later rule split c.loop-rule.invariant.0,
      λ all adds. c.loop-rule.invariant.1 all
          (hides_left c.args.text.now hours c.args.form.now rest later rule c.in_ok-warning.warning c.loop-rule.warnings.items
          c.put_in.new.warnings.items all split c.in_ok-warning.ensures c.in_ok-put_in.ensures adds),
    )

pub loop-rule-init : goal.loop-rule-init
loop-rule-init c = (
  subst (AreRules c.args.hours.now) (sym c.as_slice-rest.ensures.value)
      (are_rules c.args.hours.now c.in_ok-rules.rules.items (λ k is. (c.in_ok-rules.ensures.exact k).0 is)),
  λ all adds. adds,
)
