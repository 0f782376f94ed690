-- Hours of a row become a domain that has exactly their open seconds.
use Rattle.std.proofs.Common.{refl}
use Rattle.gtd_hours_file.proofs.translation.domain_in.Goals as goal

pub returns-in-Ok : goal.returns-in-Ok
returns-in-Ok c = rw c.in-Some.is (c.in-Ok.domain, refl, c.in-Ok.ensures)
