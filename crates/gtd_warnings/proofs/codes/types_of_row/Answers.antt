-- What is read from the third of four fields are the vehicle types that it names.
use Rattle.std.proofs.lemmas.Result.{IfOk-weaker}
use Rattle.gtd_rows.specs.Columns.{vehicles_of}
use Rattle.gtd_warnings.proofs.CodeFacts.{read_names}
use Rattle.gtd_warnings.proofs.codes.types_of_row.Goals as goal

pub returns-in-Some : goal.returns-in-Some
returns-in-Some c =
    rw (c.in-Some.ensures.four) (IfOk-weaker c.read_vehicles.result _ _
    (λ read is. read_names (vehicles_of c.args.version c.in-Some.columns.vehicles.now) read is) c.read_vehicles.ensures)
