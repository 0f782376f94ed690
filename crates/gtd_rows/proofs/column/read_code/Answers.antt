-- A number of at most two digits is below 100, so it fits a byte.
use Rattle.std.proofs.Common.{◌∙◌, ◌<◌, ◌^◌, sym, arith}
use Rattle.gtd_rows.specs.facts.NumberFacts.{number_below}
use Rattle.gtd_rows.proofs.column.read_code.Goals as goal

pub overflow_cast-result : goal.overflow_cast-result
overflow_cast-result c =
    let small : c.in-Some.number < 10 ^ 2 = number_below c.args.text.now c.in-Some.number 2
    (sym c.read_number.ensures.value ∙ c.in-Some.is) (omega arith) in
    omega arith
