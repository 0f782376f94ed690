-- Where first intervals of a list are left out, no more are left: for `skip_left` and `skip_right`.
use Rattle.std.proofs.Common.{◌≤◌, arith, length, List, ◌++◌}
use Rattle.std.specs.Prelude.{ℤ}
use Rattle.std.proofs.lemmas.List.{length-append}
use Rattle.gtd_core.specs.Seconds.{Interval}
use Rattle.gtd_spans.specs.Skipping.{LeavesOut}

pub leaves-fewer : (b : ℤ) (xs ys : List Interval) → LeavesOut b xs ys → length ys ≤ length xs
leaves-fewer b xs ys (first, is, ends) = rw (is, length-append first ys) (omega (arith))
