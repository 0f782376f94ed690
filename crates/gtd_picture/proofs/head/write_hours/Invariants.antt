use Rattle.std.proofs.Common.{◌≡◌, ◌++◌}
use Rattle.gtd_picture.specs.Picture.{hours_text}
use Rattle.gtd_picture.proofs.head.write_hours.Given as goal

-- the hours so far
abbrev pub invariant-loop-count : goal.invariant-loop-count
invariant-loop-count l = l.line.items ≡ l.fn.line.items ++ hours_text l.count
