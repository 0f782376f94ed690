-- A token that cannot stand where it does, or what the times need, is the first fault of a text whose checked text is read.
use Rattle.std.proofs.Common.{sym}
use Rattle.gtd_hours_options.specs.Reading.{time}
use Rattle.gtd_hours_options.proofs.reader.read_checked.Goals as goal

pub returns-in-Some-clause-fault : goal.returns-in-Some-clause-fault
returns-in-Some-clause-fault c =
    time c.args.moments.now c.requires.times c.requires.checked (sym c.in-Some.ensures)
