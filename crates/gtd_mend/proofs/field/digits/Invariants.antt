use Rattle.std.proofs.Common.{◌≡◌, ◌+◌, drop}
use Rattle.std.specs.Char.{is_ascii_digit}
use Rattle.std.specs.List.{prefix_len}
use Rattle.gtd_mend.proofs.field.digits.Given as goal

-- the bytes so far are digits
abbrev pub invariant-loop-at : goal.invariant-loop-at
invariant-loop-at l = prefix_len is_ascii_digit l.field ≡ l.at + prefix_len is_ascii_digit (drop l.at l.field)
