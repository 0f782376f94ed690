-- A file without a first record, or with another one than the header, is refused for it; the rest is read as rows.
use Rattle.std.proofs.Common.{◌≡◌, ◌∙◌, ap, inl, inr, refl, [], ◌∷◌, true≢false, sym}
use Rattle.std.proofs.lemmas.Result.{MatchResult-weaker}
use Rattle.csv.specs.Reading.{default_config, records, strip_bom}
use Rattle.csv.specs.Records.{fields_of}
use Rattle.gtd_ask.specs.Questions.{header}
use Rattle.gtd_ask.proofs.reader.read_table.Goals as goal

pub returns-then-not-branch-clause-table : goal.returns-then-not-branch-clause-table
returns-then-not-branch-clause-table c = λ _.
    let text = records default_config (strip_bom c.args.bytes.now) in
    let nil : text ≡ [] = (rw c.if-not-branch.true at c.in_ok-next_row.ensures) text c.table-reader.ensures in
    inr ((λ rows e. cc), refl)

pub returns-then-is_header-clause-table : goal.returns-then-is_header-clause-table
returns-then-is_header-clause-table c =
    let text = records default_config (strip_bom c.args.bytes.now) in
    let t = (rw c.if-not-branch.false at c.in_ok-next_row.ensures) text c.table-reader.ensures in
    let same = c.is_header.ensures.0 c.if-is_header.true in
    MatchResult-weaker c.read_rows.result (c.read_rows.ensures.rows t.0 t.2)
    (λ found are. inl (t.0, t.1 ∙ ap (λ f. f ∷ t.0) same, are))
    (λ why are not. inl (t.0, t.1 ∙ ap (λ f. f ∷ t.0) same, are not))

pub returns-clause-table : goal.returns-clause-table
returns-clause-table c = λ _.
    let text = records default_config (strip_bom c.args.bytes.now) in
    let t = (rw c.if-not-branch.false at c.in_ok-next_row.ensures) text c.table-reader.ensures in
    inr (
      (λ rows e. true≢false (sym (c.is_header.ensures.1 (let same : fields_of c.next_row.new.row ≡ header = cc in same))
          ∙ c.if-is_header.false)),
      refl,
    )
