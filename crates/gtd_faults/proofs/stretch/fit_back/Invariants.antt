use Rattle.std.proofs.Common.{◌≡◌, ◌+◌, ◌-◌}
use Rattle.gtd_faults.specs.Snippet.{fit_back}
use Rattle.gtd_faults.proofs.stretch.fit_back.Given as goal

-- what fits is what fitted so far and what of the rest fits into the columns that are left
abbrev pub invariant-loop-count : goal.invariant-loop-count
invariant-loop-count l = fit_back l.columns l.bytes l.place ≡ l.count + fit_back l.left l.bytes (l.place - l.count)
