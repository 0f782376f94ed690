use Rattle.std.proofs.Common.{◌≡◌, true, take}
use Rattle.std.specs.Char.{is_ascii_digit}
use Rattle.std.specs.List.{list_all}
use Rattle.std.specs.Str.Parse.{digits_value, AllDigits}
use Rattle.gtd_rows.proofs.column.read_number.Given as goal

-- the bytes so far are digits, of this number
abbrev pub invariant-loop-digit : goal.invariant-loop-digit
invariant-loop-digit l = record {
  digits : list_all is_ascii_digit (take l.digit-index l.text) ≡ true;
  below : AllDigits 10 (take l.digit-index l.text);
  value : l.number ≡ digits_value 10 (take l.digit-index l.text);
}
