use Rattle.std.proofs.Common.{◌≡◌, take, drop, length}
use Rattle.gtd_c.proofs.closers.write_rows.Given as goal

-- the numbers so far stand at the front, and the others are as they were
abbrev pub invariant-loop-at : goal.invariant-loop-at
invariant-loop-at l = record {
  long : length l.rows ≡ length l.fn.rows;
  front : take l.at l.rows ≡ take l.at l.found;
  rest : drop l.at l.rows ≡ drop l.at l.fn.rows;
}
