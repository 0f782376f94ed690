use Rattle.std.proofs.Common.{◌≡◌, take}
use Rattle.gtd_repeats.specs.Kin.{entries_with}
use Rattle.gtd_repeats.proofs.kin.count_of.Given as goal

-- those of the entries so far
abbrev pub invariant-loop-kept : goal.invariant-loop-kept
invariant-loop-kept l = l.count ≡ entries_with (take l.kept-index l.entries) l.number
