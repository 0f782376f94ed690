-- Another rule adds what it leaves.
use Rattle.std.proofs.Common.{◌≡◌, ◌∷◌, List, sym, subst}
use Rattle.gtd_hours2.specs.Rules.{Rule}
use Rattle.gtd_hours2.specs.Stored.{rule_of}
use Rattle.gtd_hours_plain2.specs.Clocks.{clocks_of}
use Rattle.gtd_hours_plain2.specs.Lowered.{given_of}
use Rattle.gtd_hours_plain2.specs.Times.{AreAllOfDay}
use Rattle.gtd_hours_plain2.proofs.Lowering.{AreJoined, all_joined, joined_with, none_joined}
use Rattle.gtd_hours_plain2.proofs.plain.plain_rules.Goals as goal

pub loop-rule-init : goal.loop-rule-init
loop-rule-init g c =
    let clocks = clocks_of c.args.times.now in
    let given = given_of (g.D.RuleDays.holiday c.args.days.now) (g.D.RuleDays.years c.args.days.now) clocks in
    record {
      joins = none_joined given c.args.rules.now c.left-rest.result c.new-made.result.items c.left-rest.ensures.value
          c.new-made.ensures.items;
      left = subst (AreAllOfDay clocks) (sym c.left-rest.ensures.value) c.requires;
    }

pub loop-rule-preserved : goal.loop-rule-preserved
loop-rule-preserved g c =
    let clocks = clocks_of c.args.times.now in
    let given = given_of (g.D.RuleDays.holiday c.args.days.now) (g.D.RuleDays.years c.args.days.now) clocks in
    let all = c.args.rules.now in
    let rule = rule_of c.in-Some.rule in
    let more = c.in-Some.more in
    let made = c.loop-rule.made.items in
    let split : c.loop-rule.rest ≡ rule ∷ more = c.in-Some.ensures.value in
    record {
      joins = joined_with given all more rule made c.push_rule.new.made.items
          (subst (λ (r : List Rule). AreJoined given all r made) split c.loop-rule.invariant.joins) c.in_ok-push_rule.ensures;
      left = (subst (AreAllOfDay clocks) split c.loop-rule.invariant.left).1;
    }

pub returns : goal.returns
returns g c =
    let days = c.args.days.now in
    let given = given_of (g.D.RuleDays.holiday days) (g.D.RuleDays.years days) (clocks_of c.args.times.now) in
    all_joined given c.args.rules.now c.loop-rule.rest c.loop-rule.made.items c.loop-rule.invariant.joins
    c.in_default.ensures.value
