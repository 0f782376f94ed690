-- The words for times are read behind those of weekdays and of years.
use Rattle.clap.specs.Matches.{found_of}
use Rattle.clap.specs.Walk.{rows_of}
use Rattle.gtdesk_plans.proofs.StandFacts.{clocks_stopped}
use Rattle.gtdesk_plans.proofs.options.options_of.Goals as goal

pub returns-in-Err-clocks_given : goal.returns-in-Err-clocks_given
returns-in-Err-clocks_given c =
    clocks_stopped (rows_of (found_of c.args.given.now)) c.in-Err-clocks_given.refusal c.in-Ok.names c.in-Ok-years_of.years
    (rw c.value.ensures at c.in-Ok.ensures) (rw c.value-2.ensures at c.in-Ok-years_of.ensures) c.in-Err-clocks_given.ensures
