-- The lines of one thing more that is told follow those before.
use Rattle.std.proofs.Common.{◌≡◌, ◌+◌, arith, ◌∷◌, ◌++◌, [], take, get_or, string_bytes, append_assoc, sym}
use Rattle.std.proofs.lemmas.List.{take_more}
use Rattle.std.proofs.lemmas.List.Elements.{All-get_or}
use Rattle.gtd_mistakes.specs.declared.rule.Rule.TheVariants as rule
use Rattle.gtd_mistakes.specs.declared.told.Told.{Told}
use Rattle.gtd_faults.specs.Doubts.{doubt_snippet, doubt_line}
use Rattle.gtd_faults.proofs.ListFacts.{doubt_lines_more}
use Rattle.gtd_lines.specs.facts.OneLine.{line_of_place}
use Rattle.gtd_faults.proofs.doubts.push_told.Goals as goal

abbrev nothing : Told
nothing = record {
  row = 0;
  rule = rule.FirstOfMonth;
  part = record { before = 0; begin = 0; clock = 0 };
}

pub loop-one-preserved : goal.loop-one-preserved
loop-one-preserved c = λ bytes before is of_row lines.
    let i = c.loop-one.one-index in
    let row = c.args.row.now in
    let told = c.args.told.now in
    let here = get_or told i nothing in
    let next : take (i + 1) told ≡ take i told ++ here ∷ [] = take_more told i nothing (omega arith) in
    let number : here.row ≡ row.number =
    All-get_or (λ (one : Told). one.row ≡ row.number) told i nothing (omega arith) of_row in
    let so_far = c.loop-one.invariant bytes before is of_row lines in
    let on = line_of_place bytes row.number row.place is.place in
    let snippet = c.part.ensures.part bytes is in
    let old = string_bytes c.loop-one.text in
    rw (
      next,
      sym (append_assoc before (take i told) (here ∷ [])),
      c.in_ok-push_snippet.ensures,
      c.in_ok-push_line.ensures,
      append_assoc old (doubt_line c.args.path.now row.place.line here) (doubt_snippet here c.part.result),
    )
    (doubt_lines_more c.args.path.now bytes (before ++ take i told) here old row.place.line c.part.result (rw number on)
    (rw number snippet) so_far)
