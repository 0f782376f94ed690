-- Both texts of hours are read before the moment: the refusal is for the first that stands for nothing.
use Rattle.clap.specs.Matches.{found_of}
use Rattle.clap.specs.Walk.{rows_of}
use Rattle.gtdesk_plans.specs.Commands.Same.{hours_words}
use Rattle.gtdesk_words.specs.facts.Readings.{stopped_at, stopped_past, stopped_upto}
use Rattle.gtdesk_plans.proofs.StandFacts.{has_domain}
use Rattle.gtdesk_plans.proofs.commands.same.plan_hours.Goals as goal

pub returns-in-Err : goal.returns-in-Err
returns-in-Err c =
    stopped_upto 1 (hours_words (rows_of (found_of c.args.given.now))) c.in-Err.refusal (rw c.text.ensures at c.in-Err.ensures)

pub returns-in-Err-hours_of : goal.returns-in-Err-hours_of
returns-in-Err-hours_of c =
    let first = rw c.text.ensures at c.in-Ok.ensures in
    stopped_at 1 (hours_words (rows_of (found_of c.args.given.now))) c.in-Err-hours_of.refusal
    (has_domain _ c.in-Ok.first first, tt) (rw c.text-2.ensures at c.in-Err-hours_of.ensures)

pub returns-in-Err-from_of : goal.returns-in-Err-from_of
returns-in-Err-from_of c =
    let first = rw c.text.ensures at c.in-Ok.ensures in
    let second = rw c.text-2.ensures at c.in-Ok-hours_of.ensures in
    stopped_past 2 (hours_words (rows_of (found_of c.args.given.now))) c.in-Err-from_of.refusal
    (has_domain _ c.in-Ok.first first, (has_domain _ c.in-Ok-hours_of.second second, tt))
    (rw c.value.ensures at c.in-Err-from_of.ensures)

pub returns-in-Ok-from_of : goal.returns-in-Ok-from_of
returns-in-Ok-from_of c = (
  rw c.text.ensures at c.in-Ok.ensures,
  rw c.text-2.ensures at c.in-Ok-hours_of.ensures,
  rw c.value.ensures at c.in-Ok-from_of.ensures,
)
