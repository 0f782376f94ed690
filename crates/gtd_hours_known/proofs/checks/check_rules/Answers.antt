-- The own text of one rule more is hours, so a fault behind it is the first of all.
use Rattle.std.proofs.Common.{◌≡◌, ◌∷◌, List, inr, subst, sym}
use Rattle.gtd_hours_holiday_rules.specs.declared.rules.HolidayRule.{HolidayRule}
use Rattle.gtd_hours_loose.specs.Reading.{IsStrict}
use Rattle.gtd_hours_known.specs.Rules.{AreAllStrict, IsRuleFault}
use Rattle.gtd_hours_known.proofs.checks.check_rules.Goals as goal

pub loop-rule-preserved : goal.loop-rule-preserved
loop-rule-preserved c =
    let rule = c.in-Some.rule.now in
    let more = c.in-Some.more.now in
    let split : c.loop-rule.rest.now ≡ rule ∷ more = c.in-Some.ensures.cases.0 in
    let strict : IsStrict rule.text.items = rw c.as_slice.ensures.value at c.in_ok-check_hours.ensures.hours in
    let so_far = c.loop-rule.invariant in
    record {
      strict = λ are. so_far.strict (subst AreAllStrict (sym split) (strict, are));
      fault = λ bad is. so_far.fault bad
          (subst (λ (rs : List HolidayRule). IsRuleFault rs bad) (sym split) (inr (strict, is)));
    }
