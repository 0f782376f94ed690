-- Times that are never are those of no domain.
use Rattle.std.proofs.Common.{ap, sym}
use Rattle.gtd_conditional_rows.specs.Timing.{timing_times}
use Rattle.gtd_conditional_rows.proofs.TypeLemmas.{is-domain}
use Rattle.gtd_conditional_rows.proofs.groups.is_timing.Goals as goal

pub returns-in-Closed : goal.returns-in-Closed
returns-in-Closed c =
    is-domain c.is_same_domain.result c.in-Closed.own c.args.domain.now (timing_times c.args.timing.now)
    c.is_same_domain.ensures (ap timing_times (sym c.in-Closed.is))
