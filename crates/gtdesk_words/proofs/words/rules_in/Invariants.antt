use Rattle.std.proofs.Common.{length, take}
use Rattle.gtdesk_words.specs.Words.{AreRules, parts_of}
use Rattle.gtdesk_words.proofs.words.rules_in.Given as goal

-- the rules of the parts so far
abbrev pub invariant-loop-part : goal.invariant-loop-part
invariant-loop-part l = record {
  next : (goal.iterator-loop-part).can_next l.part-iterator;
  finite : (goal.iterator-loop-part).is_finite l.part-iterator;
  rules : AreRules (take (length l.yielded) (parts_of l.text)) l.rules.items;
}
