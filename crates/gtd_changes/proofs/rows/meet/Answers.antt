-- The two rows are the same, or the element that is answered is that of one of them; without rows there is no answer.
use Rattle.std.proofs.Common.{◌∙◌, ap, sym}
use Rattle.std.specs.Prelude.{Some}
use Rattle.gtd_records.specs.Closing.{Restriction}
use Rattle.gtd_changes.proofs.RowFacts.{told_row}
use Rattle.gtd_changes.proofs.rows.meet.Goals as goal

pub returns-in-Some-two : goal.returns-in-Some-two
returns-in-Some-two c = record {
  meets = (
    c.in-Some-two.two.now,
    told_row c.args.two c.in-Some-two.two c.in-Some-two.is (λ row. row.now),
    sym (ap (λ (r : Restriction). r.element) c.two.view_is),
  );
}

pub returns-in_default-two : goal.returns-in_default-two
returns-in_default-two c = record {
  meets = (
    c.in-Some.one.now,
    told_row c.args.one c.in-Some.one c.in-Some.is (λ row. row.now),
    sym (ap (λ (r : Restriction). r.element) c.one.view_is),
  );
}

pub returns-then-is_same : goal.returns-then-is_same
returns-then-is_same c = record {
  meets = (
    c.in-Some.one.now,
    told_row c.args.one c.in-Some.one c.in-Some.is (λ row. row.now),
    told_row c.args.two c.in-Some-two-2.two c.in-Some-two-2.is (λ row. row.now)
        ∙ ap (λ (r : Restriction). Some r) (sym (c.is_same.ensures.same c.if-is_same.true)),
  );
}

pub returns-then-is_new_first : goal.returns-then-is_new_first
returns-then-is_new_first c = record {
  meets = (
    c.in-Some-two-2.two.now,
    told_row c.args.two c.in-Some-two-2.two c.in-Some-two-2.is (λ row. row.now),
    sym (ap (λ (r : Restriction). r.element) c.two-2.view_is),
  );
}

pub returns-else-is_new_first : goal.returns-else-is_new_first
returns-else-is_new_first c = record {
  meets = (
    c.in-Some.one.now,
    told_row c.args.one c.in-Some.one c.in-Some.is (λ row. row.now),
    sym (ap (λ (r : Restriction). r.element) c.one.view_is),
  );
}
