-- Where the checked text or a rule's own text is no hours, that is the first fault.
use Rattle.gtd_hours_known.proofs.ReadingFacts.{unsound}
use Rattle.gtd_hours_known.proofs.reader.read_found.Goals as goal

pub returns-in-Err-clause-fault : goal.returns-in-Err-clause-fault
returns-in-Err-clause-fault c =
    unsound c.args.known.now c.args.found.now c.in-Err.bad c.in-Err.ensures.fault
