use Rattle.std.proofs.Common.{◌≡◌, ◌+◌, drop}
use Rattle.gtd_faults.specs.Snippet.{fit}
use Rattle.gtd_faults.proofs.stretch.fit.Given as goal

-- what fits is what fitted so far and what of the rest fits into the columns that are left
abbrev pub invariant-loop-count : goal.invariant-loop-count
invariant-loop-count l = fit l.columns l.bytes ≡ l.count + fit l.left (drop l.count l.bytes)
