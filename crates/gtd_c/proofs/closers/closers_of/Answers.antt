-- Numbers of the rows of a file are never 0 and fit the type of a row number, since a file has few rows.
use Rattle.std.proofs.Common.{of_z, to_z, w64}
use Rattle.gtd_c.proofs.RowFacts.{row_numbers}
use Rattle.gtd_c.proofs.closers.closers_of.Goals as goal

pub returns-in-Ok-clause-few : goal.returns-in-Ok-clause-few
returns-in-Ok-clause-few c =
    row_numbers c.args.records.now c.args.way.element c.args.way.direction c.args.way.vehicle
    (to_z w64 (of_z w64 c.args.second)) c.in-Ok.found.items c.in-Ok.ensures.rows c.requires.few
