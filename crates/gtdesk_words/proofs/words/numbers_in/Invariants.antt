use Rattle.std.proofs.Common.{◌≡◌, length, drop}
use Rattle.gtdesk_words.proofs.NumberFacts.{and_numbers}
use Rattle.gtdesk_words.specs.Words.{numbers_of, parts_of}
use Rattle.gtdesk_words.proofs.words.numbers_in.Given as goal

-- the numbers of the parts so far
abbrev pub invariant-loop-part : goal.invariant-loop-part
invariant-loop-part l = record {
  next : (goal.iterator-loop-part).can_next l.part-iterator;
  finite : (goal.iterator-loop-part).is_finite l.part-iterator;
  numbers : numbers_of (parts_of l.text) ≡ and_numbers l.numbers.items (numbers_of (drop (length l.yielded) (parts_of l.text)));
}
