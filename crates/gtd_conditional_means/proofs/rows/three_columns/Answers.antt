-- A row of three fields has one at each place.
use Rattle.std.proofs.Common.{◌≡◌, sym, arith, length}
use Rattle.std.proofs.lemmas.Bool.Decides.{nat_tests}
use Rattle.csv.specs.Records.{fields_of}
use Rattle.gtd_rows.specs.facts.FieldFacts.{field_there}
use Rattle.gtd_conditional_means.proofs.RowFacts.{three}
use Rattle.gtd_conditional_means.proofs.rows.three_columns.Goals as goal

pub returns-in_default-clause-other : goal.returns-in_default-clause-other
returns-in_default-clause-other c = λ n. field_there (fields_of c.args.row.now) 0 (omega arith) (sym c.in_default.ensures.value)

pub returns-in_default-get-clause-other : goal.returns-in_default-get-clause-other
returns-in_default-get-clause-other c = λ n. field_there (fields_of c.args.row.now) 1 (omega arith)
    (sym c.in_default-get.ensures.value)

pub returns-in_default-get-2-clause-other : goal.returns-in_default-get-2-clause-other
returns-in_default-get-2-clause-other c = λ n. field_there (fields_of c.args.row.now) 2 (omega arith)
    (sym c.in_default-get-2.ensures.value)

pub returns-clause-three : goal.returns-clause-three
returns-clause-three c =
    let n : length (fields_of c.args.row.now) ≡ 3 = grind (arith, nat_tests) in
    three (fields_of c.args.row.now) c.in-Some.kind.now c.in-Some-get.name.now c.in-Some-get-2.means.now n
    (sym c.in-Some.ensures.value) (sym c.in-Some-get.ensures.value) (sym c.in-Some-get-2.ensures.value)
