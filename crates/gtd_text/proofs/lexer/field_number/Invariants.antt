use Rattle.std.proofs.Common.{◌≡◌, ◌≤◌, ◌+◌, ◌*◌, ◌^◌, take}
use Rattle.gtd_text.specs.TokenAt.{field_number}
use Rattle.gtd_text.proofs.lexer.field_number.Given as goal

-- the number of the digits so far, which are few
abbrev pub invariant-loop-digit : goal.invariant-loop-digit
invariant-loop-digit l = record {
  value : l.number ≡ field_number (take l.digit-index l.digits);
  small : l.number + 23 ≤ 23 * 10 ^ l.digit-index;
}
