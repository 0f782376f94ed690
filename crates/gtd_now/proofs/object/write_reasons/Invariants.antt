use Rattle.std.proofs.Common.{◌≡◌, ◌++◌, take}
use Rattle.std.specs.Prelude.{flat_map}
use Rattle.json.specs.Tree.{json_tokens}
use Rattle.gtd_now.specs.Objects.{reason_value}
use Rattle.gtd_now.specs.Reasons.{row_domain, row_line}
use Rattle.gtd_now.proofs.object.write_reasons.Given as goal

-- the rows so far are told
abbrev pub invariant-loop-row : goal.invariant-loop-row
invariant-loop-row l = record {
  before : l.out.before ≡ l.initial.out.before;
  tokens : l.out.tokens ≡ l.initial.out.tokens
      ++ flat_map (λ row. json_tokens (reason_value (row_line l.rows.lines.now row) row (row_domain l.rows.records.now row)))
      (take l.row-index l.closing);
}
