-- The rows of a file without a fault are few and within the limit of basic domains, so they can be put.
use Rattle.std.proofs.Common.{◌≡◌, [], arith, length}
use Rattle.std.proofs.lemmas.Bool.Decides.{nat_tests}
use Rattle.gtd_hours_options.specs.Readings.{how_read}
use Rattle.gtd_hours_file.specs.HoursFile.{AreOfFile}
use Rattle.gtd_hours_file.proofs.ReadFacts.{file_few, file_within, without_faults}
use Rattle.gtd_hours_file.proofs.run.put_file.Goals as goal

pub put_warned-requires-clause-few : goal.put_warned-requires-clause-few
put_warned-requires-clause-few g c =
    rw c.as_slice-2.ensures.value (file_few (how_read c.args.reading) c.args.bytes.now c.in-Ok.found.sound.items
    c.in-Ok.found.faults.items c.in-Ok.ensures)

pub put_warned-requires-clause-within : goal.put_warned-requires-clause-within
put_warned-requires-clause-within g c =
    rw c.as_slice-2.ensures.value (file_within (how_read c.args.reading) c.args.bytes.now c.in-Ok.found.sound.items
    c.in-Ok.found.faults.items c.in-Ok.ensures)

pub returns-clause-stands : goal.returns-clause-stands
returns-clause-stands g c =
    let none : length c.in-Ok.found.faults.items ≡ 0 = grind (arith, nat_tests) in
    let file : AreOfFile (how_read c.args.reading) c.args.bytes.now c.as_slice-2.result.now [] =
    rw c.as_slice-2.ensures.value (without_faults (how_read c.args.reading) c.args.bytes.now c.in-Ok.found.sound.items
    c.in-Ok.found.faults.items none c.in-Ok.ensures) in
    c.put_warned.ensures.stands (how_read c.args.reading) file

pub returns-clause-warned : goal.returns-clause-warned
returns-clause-warned g c =
    let none : length c.in-Ok.found.faults.items ≡ 0 = grind (arith, nat_tests) in
    let file : AreOfFile (how_read c.args.reading) c.args.bytes.now c.as_slice-2.result.now [] =
    rw c.as_slice-2.ensures.value (without_faults (how_read c.args.reading) c.args.bytes.now c.in-Ok.found.sound.items
    c.in-Ok.found.faults.items none c.in-Ok.ensures) in
    c.put_warned.ensures.warned (how_read c.args.reading) file
