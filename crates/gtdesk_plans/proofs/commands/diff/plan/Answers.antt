-- The days stand for something before the vehicle type is read, so a refusal of that is the first.
use Rattle.clap.specs.Matches.{found_of}
use Rattle.clap.specs.Walk.{rows_of}
use Rattle.gtdesk_plans.specs.Commands.Diff.{words}
use Rattle.gtdesk_words.specs.facts.Readings.{stopped_past}
use Rattle.gtdesk_plans.proofs.commands.diff.plan.Goals as goal

pub returns-in-Err-vehicle_of : goal.returns-in-Err-vehicle_of
returns-in-Err-vehicle_of c =
    let days = rw (c.text.ensures, c.text-2.ensures) at c.in-Ok.ensures in
    stopped_past 3 (words (rows_of (found_of c.args.given.now))) c.in-Err-vehicle_of.refusal
    ((_, days.first), ((_, days.last), ((c.in-Ok.horizon, days), tt))) (rw c.text-3.ensures at c.in-Err-vehicle_of.ensures)
