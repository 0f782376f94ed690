-- A row that stands for a restriction adds no fault; another adds its first.
use Rattle.csv.specs.Records.{fields_of}
use Rattle.gtd_faults.proofs.ListedFacts.{fault_of_row, faulty_row, sound_row}
use Rattle.gtd_faults.proofs.listing.take_fault.Goals as goal

pub returns-in-Ok : goal.returns-in-Ok
returns-in-Ok c = λ path bytes version before is number read are.
    sound_row path bytes version before (fields_of c.args.row.now.fields.now) c.args.row.now.number number c.args.lines.now are _
    (rw (c.in-Ok.is) at read)

pub returns-in_ok-add_of_row-in-Err : goal.returns-in_ok-add_of_row-in-Err
returns-in_ok-add_of_row-in-Err c = λ path bytes version before is number read are.
    let row = c.args.row.now in
    let fields = fields_of row.fields.now in
    let why = c.in-Err.why in
    let at_fault = rw (c.in-Err.is) at read in
    faulty_row path bytes version before fields row.number number c.args.lines.now are why _ at_fault
    (c.in_ok-add_of_row-in-Err.ensures bytes is (fault_of_row version row.number _ fields why number at_fault))
