-- what is added, with the rest after it
use Rattle.std.proofs.Common.{◌≡◌, ◌++◌, ◌+◌, ◌-◌}
use Rattle.gtd_hours_text2.specs.Parts.{nths}
use Rattle.gtd_hours_text2.proofs.brackets.push_numbers.Given as goal

abbrev pub invariant-loop-number : goal.invariant-loop-number
invariant-loop-number l =
    l.out.items ++ nths l.number (l.last + 1 - l.number) ≡ l.initial.out.items ++ nths l.fn.first (l.fn.last + 1 - l.fn.first)
