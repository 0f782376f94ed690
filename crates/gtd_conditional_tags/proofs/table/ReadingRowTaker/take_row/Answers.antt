-- What a row says alone is added, unless it is a tag that repeats an earlier one.
use Rattle.std.proofs.Common.{◌≡◌, refl}
use Rattle.std.specs.Prelude.{Some, None}
use Rattle.csv.specs.Records.{fields_of}
use Rattle.gtd_conditional_tags.specs.Rows.{said_in}
use Rattle.gtd_conditional_tags.proofs.TakenFacts.{row_fault, row_nothing, row_tag, says_nothing, says_tag}
use Rattle.gtd_conditional_tags.proofs.table.ReadingRowTaker.take_row.Goals as goal

pub returns-in_ok-push-in-Err : goal.returns-in_ok-push-in-Err
returns-in_ok-push-in-Err c = record {
  row = λ seen.
      row_fault c.args.self.now _ seen refl c.args.number (fields_of c.args.row.now) c.in-Err.why c.in-Err.ensures refl
      c.in_ok-push-in-Err.ensures.items;
}

pub returns-in-Ok-None : goal.returns-in-Ok-None
returns-in-Ok-None c =
    let none : c.in-Ok-None.field-0 ≡ None = cc in
    record {
      row = λ seen.
          row_nothing c.args.self.now _ seen refl c.args.number (fields_of c.args.row.now)
          (says_nothing c.in-Ok-None.field-0 _ none c.in-Ok-None.ensures) refl refl;
    }

pub returns-in_ok-take_tag-in-Ok-Some : goal.returns-in_ok-take_tag-in-Ok-Some
returns-in_ok-take_tag-in-Ok-Some c =
    let some : c.in-Ok-Some.field-0 ≡ Some c.in-Ok-Some.tag = cc in
    record {
      row = λ seen.
          row_tag c.args.self.now _ c.args.number (fields_of c.args.row.now) (said_in c.in-Ok-Some.tag)
          (says_tag c.in-Ok-Some.field-0 _ c.in-Ok-Some.tag some c.in-Ok-Some.ensures)
          (c.in_ok-take_tag-in-Ok-Some.ensures seen);
    }
