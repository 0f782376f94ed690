use Rattle.std.proofs.Common.{◌≡◌, ◌++◌, take}
use Rattle.gtd_now.specs.Reasons.{reasons}
use Rattle.gtd_now.proofs.reasons.push_reasons.Given as goal

-- the rows so far are told
abbrev pub invariant-loop-row : goal.invariant-loop-row
invariant-loop-row l = record {
  told : l.line.items ≡ l.initial.line.items ++ reasons l.rows.lines.now l.rows.records.now (take l.row-index l.closing);
}
