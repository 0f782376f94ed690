-- Without words the plan is that of asking for help; with some it is the plan of these words.
use Rattle.std.proofs.Common.{subst, sym, List}
use Rattle.std.specs.Prelude.{IfErr, MatchResult, string_bytes}
use Rattle.gtdesk_plans.specs.Arguments.{Text}
use Rattle.gtdesk_plans.specs.Plans.{AreRefused, AskFor, KeepsWord}
use Rattle.gtdesk_plans.proofs.PlanFacts.{asked_none, asked_some}
use Rattle.gtdesk_plans.proofs.planner.plan_asked.Goals as goal

pub returns-in-Some-clause-asked : goal.returns-in-Some-clause-asked
returns-in-Some-clause-asked c =
    subst (λ (words : List Text). MatchResult c.plan_line.result (AskFor words) (λ r. AreRefused words r.why))
    (sym (asked_some string_bytes c.args.words.now _ _ c.in-Some.ensures.cases.0)) c.plan_line.ensures.asked

pub returns-in-Some-clause-kept : goal.returns-in-Some-clause-kept
returns-in-Some-clause-kept c =
    subst (λ (words : List Text). IfErr c.plan_line.result (λ r. KeepsWord words r.why (string_bytes r.text)))
    (sym (asked_some string_bytes c.args.words.now _ _ c.in-Some.ensures.cases.0)) c.plan_line.ensures.kept

pub returns-in-None-clause-asked : goal.returns-in-None-clause-asked
returns-in-None-clause-asked c =
    subst (λ (words : List Text). MatchResult c.plan_help.result (AskFor words) (λ r. AreRefused words r.why))
    (sym (asked_none string_bytes c.args.words.now c.in-None.ensures.cases)) c.plan_help.ensures.asked

pub returns-in-None-clause-kept : goal.returns-in-None-clause-kept
returns-in-None-clause-kept c =
    subst (λ (words : List Text). IfErr c.plan_help.result (λ r. KeepsWord words r.why (string_bytes r.text)))
    (sym (asked_none string_bytes c.args.words.now c.in-None.ensures.cases)) c.plan_help.ensures.kept
