-- The answer whether the second is in the domain decides between the search for its end and for its next begin.
use Rattle.std.proofs.Common.{rules}
use Rattle.gtd_eval.proofs.stay.basic_end.Goals as goal

pub free_end-requires-clause-free : goal.free_end-requires-clause-free
free_end-requires-clause-free c = λ h. let t = c.requires.holds.1 h in cc

pub held_end-requires-clause-held : goal.held_end-requires-clause-held
held_end-requires-clause-held c = c.requires.holds.0 (first_of (cc, search rules))
