-- At each turn the text has the lines of the findings passed so far, each with the line on which its row begins.
use Rattle.std.proofs.Common.{◌≡◌, ◌<◌, ◌+◌, ◌-◌, ◌∙◌, arith, length, ◌∷◌, ◌++◌, [], take, get_or, string_bytes}
use Rattle.std.proofs.lemmas.List.{take_more}
use Rattle.gtd_repeats.specs.Listing.{row_count, row_of}
use Rattle.gtd_repeats.specs.declared.findings.Finding.{Finding}
use Rattle.gtd_repeats.specs.declared.findings.Finding.TheVariants.{SameRow}
use Rattle.gtd_repeats.proofs.LineFacts.{finding_lines_more, line_of_row, of_row_at}
use Rattle.gtd_repeats.proofs.ListFacts.{any_default}
use Rattle.gtd_repeats.proofs.lines.text_of.Goals as goal

pub overflow_sub-row : goal.overflow_sub-row
overflow_sub-row c =
    let none : Finding = SameRow 0 0 in
    let value = c.row_of-row.ensures.value in
    let row = of_row_at (row_count c.args.bytes.now) c.args.findings.now c.loop-finding.finding-index none (omega arith)
    c.requires.rows in
    omega (arith, value, row.0)

pub index-requires : goal.index-requires
index-requires c =
    let none : Finding = SameRow 0 0 in
    let value = c.row_of-row.ensures.value in
    let all = c.in_ok-lines.ensures.lines.all in
    let row = of_row_at (row_count c.args.bytes.now) c.args.findings.now c.loop-finding.finding-index none (omega arith)
    c.requires.rows in
    omega (arith, value, all, row.0, row.1)

pub loop-finding-preserved : goal.loop-finding-preserved
loop-finding-preserved c =
    let i = c.loop-finding.finding-index in
    let bytes = c.args.bytes.now in
    let lines = c.in_ok-lines.lines.items in
    let none : Finding = SameRow 0 0 in
    let here = get_or c.args.findings.now i none in
    let value = c.row_of-row.ensures.value in
    let all = c.in_ok-lines.ensures.lines.all in
    let row = of_row_at (row_count bytes) c.args.findings.now i none (omega arith) c.requires.rows in
    let at = c.row_of-row.result - 1 in
    let inside : at < length lines = omega (arith, value, all, row.0, row.1) in
    let line : c.index.result.now ≡ get_or lines at 0 = c.index.ensures ∙ any_default lines at c.index.result.now 0 inside in
    let on = line_of_row bytes lines (row_of here) at c.in_ok-lines.ensures.lines row.0 row.1 (omega (arith, value, row.0)) in
    let next : take (i + 1) c.args.findings.now ≡ take i c.args.findings.now ++ here ∷ [] =
    take_more c.args.findings.now i none (omega arith) in
    rw (next, c.in_ok-push_line.ensures.line)
    (finding_lines_more c.args.path.now bytes (take i c.args.findings.now) here (string_bytes c.loop-finding.text)
    c.index.result.now (rw line on) c.loop-finding.invariant)
