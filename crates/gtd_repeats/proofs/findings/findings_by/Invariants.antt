use Rattle.gtd_repeats.specs.Answers.{AreRight}
use Rattle.gtd_repeats.specs.Findings.{AreFindingsOf}
use Rattle.gtd_repeats.proofs.findings.findings_by.Given as goal

-- what is said of the rows so far; the answers stay right
abbrev pub invariant-loop-row : goal.invariant-loop-row
invariant-loop-row l = record {
  findings : AreFindingsOf l.all.rows.now l.row l.findings.items;
  right : AreRight l.all.rows.now l.answers.items;
}
