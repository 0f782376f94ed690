-- At each turn the rules so far are those that the parts passed name; one part that names none ends it.
use Rattle.std.proofs.Common.{rules, tests, ◌==◌, refl, length, arith}
use Rattle.std.proofs.lemmas.List.{length_push}
use Rattle.std.proofs.lemmas.Iterator.Consumers.{YieldsList-turn, YieldsList-end}
use Rattle.std.proofs.lemmas.Iterator.Splits.{YieldsList-from_slice_split}
use Rattle.gtdesk_words.specs.Words.{parts_of}
use Rattle.gtdesk_words.proofs.RuleFacts.{all_rules, no_rule_at, rule_at}
use Rattle.gtdesk_words.proofs.words.rules_in.Goals as goal

pub returns-in_default : goal.returns-in_default
returns-in_default c =
    let same = c.into_iter-part-iterator.ensures.into_iter_gives in
    let all = YieldsList-from_slice_split _ (λ b. b == 44) c.args.text.now (rw same c.split-part-items.ensures.rest)
    (rw same c.split-part-items.ensures.done) refl (λ x r q k. search (rules, tests)) in
    let t = YieldsList-turn all c.loop-part.yielded _ c.loop-part.yielded_by _ _ c.in-Some.part c.in-Some.is
    c.next.ensures.steps in
    no_rule_at (parts_of c.args.text.now) (length c.loop-part.yielded) c.in-Some.part.now t c.in_default.ensures

pub loop-part-preserved : goal.loop-part-preserved
loop-part-preserved c =
    let same = c.into_iter-part-iterator.ensures.into_iter_gives in
    let all = YieldsList-from_slice_split _ (λ b. b == 44) c.args.text.now (rw same c.split-part-items.ensures.rest)
    (rw same c.split-part-items.ensures.done) refl (λ x r q k. search (rules, tests)) in
    let t = YieldsList-turn all c.loop-part.yielded _ c.loop-part.yielded_by _ _ c.in-Some.part c.in-Some.is
    c.next.ensures.steps in
    let more = rule_at (parts_of c.args.text.now) (length c.loop-part.yielded) c.in-Some.part.now t c.loop-part.rules.items
    c.in-Some-rule_named.rule c.loop-part.invariant.rules c.in-Some-rule_named.ensures in
    record {
      next = search rules;
      finite = tt;
      rules = rw (c.in_ok-push.ensures.items, length_push c.loop-part.yielded c.in-Some.part) more;
    }

pub returns : goal.returns
returns c =
    let same = c.into_iter-part-iterator.ensures.into_iter_gives in
    let all = YieldsList-from_slice_split _ (λ b. b == 44) c.args.text.now (rw same c.split-part-items.ensures.rest)
    (rw same c.split-part-items.ensures.done) refl (λ x r q k. search (rules, tests)) in
    let t = YieldsList-end all c.loop-part.yielded _ c.loop-part.yielded_by _ _ c.in-None.is c.next.ensures.steps in
    all_rules (parts_of c.args.text.now) (length c.loop-part.yielded) c.loop-part.rules.items (omega (arith, t.1))
    c.loop-part.invariant.rules
