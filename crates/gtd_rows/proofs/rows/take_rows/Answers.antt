-- No record at all, a first one that is no header, or a header and the rows behind it: the three ways a table is taken.
use Rattle.std.proofs.Common.{◌≡◌, refl, inl, inr, []}
use Rattle.std.proofs.lemmas.Result.{IfOk-weaker}
use Rattle.csv.specs.Reading.{default_config, strip_bom, records}
use Rattle.csv.specs.Records.{fields_of}
use Rattle.gtd_rows.proofs.TakingFacts.{with_header}
use Rattle.gtd_rows.proofs.rows.take_rows.Goals as goal

pub returns-then-not-branch : goal.returns-then-not-branch
returns-then-not-branch g c =
    let text = records default_config (strip_bom c.args.bytes.now) in
    let nil : text ≡ [] = (rw c.if-not-branch.true at c.in_ok-next_row.ensures) text c.table-reader.ensures in
    record { taken = inl (nil, refl) }

pub returns-then-not-take_header : goal.returns-then-not-take_header
returns-then-not-take_header g c =
    let text = records default_config (strip_bom c.args.bytes.now) in
    let t = (rw c.if-not-branch.false at c.in_ok-next_row.ensures) text c.table-reader.ensures in
    record {
      taken = inr (fields_of c.next_row.new.row, t.0, t.1, rw c.if-not-take_header.true at c.take_header.ensures.header);
    }

pub returns : goal.returns
returns g c =
    let text = records default_config (strip_bom c.args.bytes.now) in
    let t = (rw c.if-not-branch.false at c.in_ok-next_row.ensures) text c.table-reader.ensures in
    record {
      taken = IfOk-weaker c.take_rest.result _ _
          (λ end are. with_header g.T.RowTaker.begins g.T.RowTaker.takes text c.args.taker.now c.take_header.new.self
          c.take_rest.new.taker (fields_of c.next_row.new.row) t.0 t.1
          (rw c.if-not-take_header.false at c.take_header.ensures.header) end are)
          (c.take_rest.ensures.rows t.0 t.2);
    }
