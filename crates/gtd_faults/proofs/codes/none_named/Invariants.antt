use Rattle.std.proofs.Common.{◌≡◌, ℕ, get_or, length}
use Rattle.gtd_faults.specs.declared.codes.Naming.TheVariants as naming
use Rattle.gtd_faults.proofs.codes.none_named.Given as goal

-- as many as were counted, and none is named
abbrev pub invariant-loop-code : goal.invariant-loop-code
invariant-loop-code l =
    (length l.by_code.items ≡ l._code) × ((code : ℕ) → get_or l.by_code.items code naming.Never ≡ naming.Never)
