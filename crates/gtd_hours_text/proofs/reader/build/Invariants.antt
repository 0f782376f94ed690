-- The pieces that have been read are those that have been built, and at each turn fewer moves are left.
use Rattle.gtd_hours_grammar.specs.Steps.{moves_left}
use Rattle.gtd_hours_text.specs.Reading.{HasBuilt}
use Rattle.gtd_hours_text.proofs.reader.build.Given as goal

abbrev pub invariant-loop-so_far : goal.invariant-loop-so_far
invariant-loop-so_far l = HasBuilt l.text l.reading l.so_far

abbrev pub decreases-loop-so_far : goal.decreases-loop-so_far
decreases-loop-so_far l = moves_left l.text l.reading
