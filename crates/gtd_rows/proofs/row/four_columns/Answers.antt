-- A row of four fields has a field at each of the places 0 to 3, and these are all of it.
use Rattle.std.proofs.Common.{◌≡◌, sym, arith, length}
use Rattle.std.proofs.lemmas.Bool.Decides.{nat_tests}
use Rattle.csv.specs.Records.{fields_of}
use Rattle.gtd_rows.specs.facts.FieldFacts.{field_there, four}
use Rattle.gtd_rows.proofs.row.four_columns.Goals as goal

pub returns-in_default-clause-other : goal.returns-in_default-clause-other
returns-in_default-clause-other c = λ n. field_there (fields_of c.args.row.now) 0 (omega arith) (sym c.in_default.ensures.value)

pub returns-in_default-get-clause-other : goal.returns-in_default-get-clause-other
returns-in_default-get-clause-other c = λ n. field_there (fields_of c.args.row.now) 1 (omega arith)
    (sym c.in_default-get.ensures.value)

pub returns-in_default-get-2-clause-other : goal.returns-in_default-get-2-clause-other
returns-in_default-get-2-clause-other c = λ n. field_there (fields_of c.args.row.now) 2 (omega arith)
    (sym c.in_default-get-2.ensures.value)

pub returns-in_default-get-3-clause-other : goal.returns-in_default-get-3-clause-other
returns-in_default-get-3-clause-other c = λ n. field_there (fields_of c.args.row.now) 3 (omega arith)
    (sym c.in_default-get-3.ensures.value)

pub returns-clause-four : goal.returns-clause-four
returns-clause-four c =
    let n : length (fields_of c.args.row.now) ≡ 4 = grind (arith, nat_tests) in
    four (fields_of c.args.row.now) c.in-Some.element.now c.in-Some-get.closed.now c.in-Some-get-2.vehicles.now
    c.in-Some-get-3.last.now n
    (sym c.in-Some.ensures.value) (sym c.in-Some-get.ensures.value) (sym c.in-Some-get-2.ensures.value)
    (sym c.in-Some-get-3.ensures.value)
