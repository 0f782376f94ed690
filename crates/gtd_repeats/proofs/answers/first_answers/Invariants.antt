use Rattle.std.proofs.Common.{List}
use Rattle.gtd_records.specs.Closing.{Restriction}
use Rattle.gtd_repeats.specs.Answers.{AreRight}
use Rattle.gtd_repeats.proofs.answers.first_answers.Given as goal

-- those so far are right
abbrev pub invariant-loop : goal.invariant-loop
invariant-loop l = (rows : List Restriction) → AreRight rows l.answers.items
