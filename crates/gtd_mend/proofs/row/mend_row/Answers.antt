-- At each turn the fields so far are mended by their columns, and the lines of their changes are listed.
use Rattle.std.proofs.Common.{◌≡◌, [], arith, get_or, sym}
use Rattle.std.proofs.lemmas.List.{take_all}
use Rattle.csv.specs.Records.{fields_of}
use Rattle.gtd_mend.proofs.PrintFacts.{is_present, not_absent}
use Rattle.gtd_mend.proofs.TableFacts.{adds_more, fields_more}
use Rattle.gtd_mend.proofs.row.mend_row.Goals as goal

pub returns-in_default : goal.returns-in_default
returns-in_default c =
    absurd (not_absent (fields_of c.args.row.now) c.loop-column.column (omega arith) c.in_default.ensures.value)

pub loop-column-preserved : goal.loop-column-preserved
loop-column-preserved c =
    let fields = fields_of c.args.row.now in
    let i = c.loop-column.column in
    let so_far = c.loop-column.invariant in
    let here : c.in-Some.field.now ≡ get_or fields i [] =
    is_present fields i c.in-Some.field.now (omega arith) c.in-Some.ensures.value in (
      c.in_ok-push_field.ensures.partial,
      rw (
        c.in_ok-push_field.ensures.fields,
        so_far.0,
        c.as_slice.ensures.value,
        c.in_ok-found.ensures.text,
        c.content_of.ensures.value,
        so_far.1,
        here,
      ) (sym (fields_more c.args.head fields i (omega arith))),
      adds_more c.args.line c.args.head fields i c.args.listing.now c.loop-column.listing c.add_field_changes.new.listing
          (omega arith) so_far.2 (rw (
            c.as_slice-in-loop-column.ensures.value,
            c.in_ok-found.ensures.changes,
            c.content_of.ensures.value,
            here,
          ) at
          c.in_ok-add_field_changes.ensures.added),
    )

pub returns-clause-listed : goal.returns-clause-listed
returns-clause-listed c = λ path before is.
    rw (take_all c.loop-column.column (fields_of c.args.row.now) (omega arith)) at (c.loop-column.invariant.2 path before is)
