-- Both domains are read before the moment: the refusal is for the first of them that stands for nothing.
use Rattle.clap.specs.Matches.{found_of}
use Rattle.clap.specs.Walk.{rows_of}
use Rattle.gtdesk_plans.specs.Commands.Same.{words}
use Rattle.gtdesk_words.specs.facts.Readings.{stopped_at, stopped_past, stopped_upto}
use Rattle.gtdesk_plans.proofs.commands.same.plan.Goals as goal

pub returns-in-Err : goal.returns-in-Err
returns-in-Err c =
    stopped_upto 1 (words (rows_of (found_of c.args.given.now))) c.in-Err.refusal (rw c.text.ensures at c.in-Err.ensures)

pub returns-in-Err-domain_of : goal.returns-in-Err-domain_of
returns-in-Err-domain_of c =
    let first = rw c.text.ensures at c.in-Ok.ensures in
    stopped_at 1 (words (rows_of (found_of c.args.given.now))) c.in-Err-domain_of.refusal (first.faultless, tt)
    (rw c.text-2.ensures at c.in-Err-domain_of.ensures)

pub returns-in-Err-from_of : goal.returns-in-Err-from_of
returns-in-Err-from_of c =
    let first = rw c.text.ensures at c.in-Ok.ensures in
    let second = rw c.text-2.ensures at c.in-Ok-domain_of.ensures in
    stopped_past 2 (words (rows_of (found_of c.args.given.now))) c.in-Err-from_of.refusal
    (first.faultless, (second.faultless, tt)) (rw c.value.ensures at c.in-Err-from_of.ensures)
