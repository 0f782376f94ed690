-- One rule more adds the rules of hours that it stands for.
use Rattle.std.proofs.Common.{◌≡◌, ◌∷◌, List, subst}
use Rattle.gtd_hours_holiday_rules.specs.declared.rules.HolidayRule.{HolidayRule}
use Rattle.gtd_hours_known.specs.Given.{AreAllGiven}
use Rattle.gtd_hours_known.specs.Rules.{AreAllStrict}
use Rattle.gtd_hours_known.proofs.RuleFacts.{AreCovered, AreJoined, all_joined, covered_more, joined_more, no_rules}
use Rattle.gtd_hours_known.proofs.rules.hours_of_rules.Goals as goal

pub loop-rule-preserved : goal.loop-rule-preserved
loop-rule-preserved c =
    let known = c.args.known.now in
    let all = c.args.rules.now in
    let rule = c.in-Some.rule.now in
    let more = c.in-Some.more.now in
    let made = c.loop-rule.made.items in
    let own = c.in_ok-own.own.items in
    let split : c.loop-rule.rest.now ≡ rule ∷ more = c.in-Some.ensures.cases.0 in
    let so_far = c.loop-rule.invariant in
    record {
      joins = rw c.in_ok-append.ensures.items
          (joined_more known all rule more made own
          (subst (λ (rs : List HolidayRule). AreJoined known all rs made) split so_far.joins) c.in_ok-own.ensures.rules);
      covered = covered_more known all rule more own
          (subst (AreCovered known all) split so_far.covered) c.in_ok-own.ensures.rules;
      strict = (subst AreAllStrict split so_far.strict).1;
      given = (subst (AreAllGiven known) split so_far.given).1;
    }

pub returns-clause-rules : goal.returns-clause-rules
returns-clause-rules c =
    all_joined c.args.known.now c.args.rules.now c.loop-rule.rest.now c.loop-rule.made.items
    c.loop-rule.invariant.joins (no_rules c.loop-rule.rest.now c.in_default.ensures.cases)
