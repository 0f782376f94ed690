-- A table that was read without a fault has at most 4,096 rows, so their numbers are small.
use Rattle.gtd_hours_holidays.proofs.TableFacts.{bytes_few}
use Rattle.gtd_hours_holidays.proofs.reader.read_holidays.Goals as goal

pub outside_of-requires : goal.outside_of-requires
outside_of-requires c =
    let few = bytes_few c.args.bytes.now c.in_ok-found.found.rows.items c.in_ok-found.found.faults.items c.in_ok-found.ensures in
    rw c.as_slice.ensures.value few
