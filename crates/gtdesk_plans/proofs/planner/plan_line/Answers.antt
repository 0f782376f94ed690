-- Words that give a command have its plan or refusal; others have what `clap` says of them.
use Rattle.std.proofs.Common.{map}
use Rattle.std.specs.Prelude.{string_bytes}
use Rattle.clap.specs.Matches.{found_of}
use Rattle.clap.specs.Walk.{rows_of}
use Rattle.gtdesk_plans.specs.Given.{Given}
use Rattle.gtdesk_plans.specs.Plans.{AreRefused, AskFor}
use Rattle.gtdesk_plans.proofs.PlanFacts.{answered, give_of}
use Rattle.gtdesk_plans.proofs.RefusedFacts.{from_whys, kept_answer, to_whys, whys}
use Rattle.gtdesk_plans.specs.Plans.{Asks, IsRefused}
use Rattle.gtdesk_plans.proofs.planner.plan_line.Goals as goal

pub returns-in-Ok-given-clause-asked : goal.returns-in-Ok-given-clause-asked
returns-in-Ok-given-clause-asked c =
    let found : Given = record { form = c.in-Ok-given.form; rows = rows_of (found_of c.in-Ok-given.given.now) } in
    from_whys (AskFor (map string_bytes c.args.words.now)) (AreRefused (map string_bytes c.args.words.now)) c.plan_given.result
    (answered (map string_bytes c.args.words.now) found (whys c.plan_given.result)
    (give_of (map string_bytes c.args.words.now) c.in-Ok.matches found c.in-Ok.ensures.found c.in-Ok-given.ensures)
    (to_whys (Asks found) (IsRefused found) c.plan_given.result c.plan_given.ensures.asked))

pub returns-in-Ok-given-clause-kept : goal.returns-in-Ok-given-clause-kept
returns-in-Ok-given-clause-kept c =
    let found : Given = record { form = c.in-Ok-given.form; rows = rows_of (found_of c.in-Ok-given.given.now) } in
    kept_answer (map string_bytes c.args.words.now) found c.plan_given.result
    (give_of (map string_bytes c.args.words.now) c.in-Ok.matches found c.in-Ok.ensures.found c.in-Ok-given.ensures)
    c.plan_given.ensures.kept

pub returns-in-Ok-plan_error-clause-asked : goal.returns-in-Ok-plan_error-clause-asked
returns-in-Ok-plan_error-clause-asked c = c.in-Ok-plan_error.ensures.asked c.in-Err.ensures.refused
