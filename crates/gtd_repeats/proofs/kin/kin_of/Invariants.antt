use Rattle.std.proofs.Common.{◌≡◌, length}
use Rattle.gtd_repeats.specs.Kin.{AreAllKin}
use Rattle.gtd_repeats.proofs.kin.kin_of.Given as goal

-- the buckets stay as many, and have the first of the rows so far
abbrev pub invariant-loop-row : goal.invariant-loop-row
invariant-loop-row l = record {
  many : length l.kin.items ≡ length l.rows;
  kin : AreAllKin l.rows l.fn.indices l.row l.kin.items;
}
