-- At each turn the findings are those of the rows passed so far, and the remembered answers are right.
use Rattle.std.proofs.Common.{◌<◌, arith, length}
use Rattle.gtd_repeats.proofs.FindingFacts.{findings_more, no_findings}
use Rattle.gtd_repeats.proofs.findings.findings_by.Goals as goal

pub loop-row-init : goal.loop-row-init
loop-row-init c = record {
  findings = no_findings c.args.all.now.rows.now c.new-findings.result.items c.new-findings.ensures.items;
  right = c.in_ok-answers.ensures.right c.args.all.now.rows.now;
}

pub loop-row-preserved : goal.loop-row-preserved
loop-row-preserved c =
    let rows = c.args.all.now.rows.now in
    let row = c.loop-row.row in
    let inside : row < length rows = omega arith in
    let text = c.requires.texts.each row inside in
    let meaning = c.requires.grouped.of_seconds.each row inside in
    record {
      findings = rw (c.in_ok-push_finding-2.ensures.pushed, c.in_ok-push_finding.ensures.pushed)
          (findings_more rows row c.loop-row.findings.items c.in_ok-of_row.of_row c.said_of_text-of_text.result
          c.loop-row.invariant.findings c.in_ok-of_row.ensures.said (c.said_of_text-of_text.ensures.said text meaning));
      right = c.in_ok-of_row.ensures.right;
    }
