-- A text that is not empty is a domain, or a fault with the number of its row.
use Rattle.std.proofs.Common.{arith, refl}
use Rattle.std.proofs.lemmas.Bool.Decides.{nat_tests}
use Rattle.gtd_records.specs.facts.RowFacts.{a_column, a_fault}
use Rattle.gtd_records.proofs.row.read_last.Goals as goal

pub returns-in-Ok : goal.returns-in-Ok
returns-in-Ok c = λ _. a_column c.args.text.now c.in-Ok.domain (grind (arith, nat_tests))
    c.in-Ok.ensures.found

pub returns-in_default : goal.returns-in_default
returns-in_default c = λ _. (
  c.in-Err.fault,
  a_fault c.args.text.now c.in-Err.fault
      (grind (arith, nat_tests)) c.in-Err.ensures.fault (λ e. absurd (c.in_default.not-NoMemory e)),
  refl,
)
