-- The moment stands for something before the other words are read, so a refusal of these is the first.
use Rattle.clap.specs.Matches.{found_of}
use Rattle.clap.specs.Walk.{rows_of}
use Rattle.gtdesk_plans.specs.Commands.Now.{words}
use Rattle.gtdesk_plans.proofs.commands.now.plan.Goals as goal
use Rattle.gtdesk_words.specs.facts.Readings.{stopped_past}

pub returns-in-Err-view_of : goal.returns-in-Err-view_of
returns-in-Err-view_of c =
    let moment = rw c.moment_word.ensures at c.in-Ok.ensures in
    stopped_past 1 (words (rows_of (found_of c.args.given.now))) c.in-Err-view_of.refusal
    ((c.in-Ok.moment.second, moment), tt) (rw c.vehicle_word.ensures at c.in-Err-view_of.ensures)
