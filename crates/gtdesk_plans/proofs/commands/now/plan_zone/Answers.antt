-- The words are read in turn, and the zone last: the refusal is for the first that stands for nothing.
use Rattle.clap.specs.Matches.{found_of}
use Rattle.clap.specs.Walk.{rows_of}
use Rattle.gtdesk_plans.specs.Commands.Now.{vehicle_word, view_words}
use Rattle.gtdesk_plans.proofs.StandFacts.{view_stands}
use Rattle.gtdesk_plans.proofs.commands.now.plan_zone.Goals as goal
use Rattle.gtdesk_words.specs.facts.Readings.{stopped_behind, stopped_in_front}

pub returns-in-Err : goal.returns-in-Err
returns-in-Err c =
    let rows = rows_of (found_of c.args.given.now) in
    stopped_in_front (view_words rows (vehicle_word rows)) _ c.in-Err.refusal (rw c.vehicle_word.ensures at c.in-Err.ensures)

pub returns-in-Err-zone_of : goal.returns-in-Err-zone_of
returns-in-Err-zone_of c =
    let rows = rows_of (found_of c.args.given.now) in
    stopped_behind (view_words rows (vehicle_word rows)) _ c.in-Err-zone_of.refusal
    (view_stands rows (vehicle_word rows) c.in-Ok.view (rw c.vehicle_word.ensures at c.in-Ok.ensures))
    (rw c.text.ensures at c.in-Err-zone_of.ensures)
