-- The moment is what the table of the zone shows at the instant; every fault has the refusal that names it.
use Rattle.std.proofs.Common.{to_z-of_z}
use Rattle.gtdesk_tool.proofs.ZoneFacts.{cause_of}
use Rattle.gtdesk_tool.proofs.zone.moment_in_zone.Goals as goal

pub returns-in-Ok-clause-moment : goal.returns-in-Ok-clause-moment
returns-in-Ok-clause-moment c = rw (to_z-of_z c.ranges.instant) at c.in-Ok.ensures.second

pub returns-in-Err-clause-refused : goal.returns-in-Err-clause-refused
returns-in-Err-clause-refused c = (
  c.in-Err.fault,
  c.zone_refusal.ensures.value,
  cause_of c.args.file.now c.args.instant c.in-Err.fault c.in-Err.ensures.no_zone
      (λ e. rw (to_z-of_z c.ranges.instant) at (c.in-Err.ensures.out_of_range e)),
)
