-- The refusal of a command is that of its words, and the word that it keeps is the one refused.
use Rattle.std.specs.Prelude.{string_bytes}
use Rattle.clap.specs.Matches.{found_of}
use Rattle.clap.specs.Walk.{rows_of}
use Rattle.gtdesk_plans.specs.Commands.{words_of}
use Rattle.gtdesk_plans.proofs.RefusedFacts.{kept_by, stopped_as}
use Rattle.gtdesk_plans.proofs.planner.plan_given.Goals as goal

pub returns-in-Err-clause-asked : goal.returns-in-Err-clause-asked
returns-in-Err-clause-asked c =
    stopped_as (words_of c.args.form (rows_of (found_of c.args.given.now))) c.in-Err.why c.refused.result.why
    c.word_at.result.now (string_bytes c.refused.result.text) c.refused.ensures c.in-Err.ensures

pub returns-in-Err-clause-kept : goal.returns-in-Err-clause-kept
returns-in-Err-clause-kept c =
    kept_by c.args.form (rows_of (found_of c.args.given.now)) c.in-Err.why c.refused.result.why
    c.word_at.result.now (string_bytes c.refused.result.text) c.refused.ensures c.word_at.ensures c.in-Err.ensures
