-- The domain is read before the language: the refusal is for the first of them that stands for nothing.
use Rattle.clap.specs.Matches.{found_of}
use Rattle.clap.specs.Walk.{rows_of}
use Rattle.gtdesk_plans.specs.Commands.Words.{words}
use Rattle.gtdesk_words.specs.facts.Readings.{stopped_past, stopped_upto}
use Rattle.gtdesk_plans.proofs.commands.words.plan.Goals as goal

pub returns-in-Err : goal.returns-in-Err
returns-in-Err c =
    stopped_upto 1 (words (rows_of (found_of c.args.given.now))) c.in-Err.refusal
    (rw c.text.ensures at c.in-Err.ensures)

pub returns-in-Err-language_of : goal.returns-in-Err-language_of
returns-in-Err-language_of c =
    let domain = rw c.text.ensures at c.in-Ok.ensures in
    stopped_past 1 (words (rows_of (found_of c.args.given.now))) c.in-Err-language_of.refusal (domain.faultless, tt)
    (rw c.value.ensures at c.in-Err-language_of.ensures)
