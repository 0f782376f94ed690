-- Offsets of at most 366 days are in range.
use Rattle.std.proofs.Common.{◌≤◌, ℕ, pos, neg_ℤ, ◌≤ℤ◌, arith}
use Rattle.std.specs.Prelude.{nat_le, if◌then◌else◌}
use Rattle.std.proofs.lemmas.Int.{ints}

-- so many days, 366 if they are more
abbrev pub few : ℕ → ℕ
few n = if nat_le n 366 then n else 366

few_at_most : (n : ℕ) → few n ≤ 366
few_at_most n = grind arith

pub later_in_range : (n : ℕ) → (neg_ℤ (pos 366) ≤ℤ pos (few n)) × (pos (few n) ≤ℤ pos 366)
later_in_range n = let h = few_at_most n in (omega (arith, ints, h), omega (arith, ints, h))

pub earlier_in_range : (n : ℕ) → (neg_ℤ (pos 366) ≤ℤ neg_ℤ (pos (few n))) × (neg_ℤ (pos (few n)) ≤ℤ pos 366)
earlier_in_range n = let h = few_at_most n in (omega (arith, ints, h), omega (arith, ints, h))
