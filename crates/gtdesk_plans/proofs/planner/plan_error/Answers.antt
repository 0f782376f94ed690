-- An error that asks for a text shows it, one for want of memory says so, and every other one is a misuse.
use Rattle.std.proofs.Common.{◌∙◌, sym, ap, map}
use Rattle.std.specs.Prelude.{string_bytes}
use Rattle.gtdesk_plans.proofs.PlanFacts.{shown}
use Rattle.gtdesk_plans.specs.CommandLine.{is_memory, is_request}
use Rattle.gtdesk_plans.proofs.RefusedFacts.{memory_alone}
use Rattle.gtdesk_plans.proofs.planner.plan_error.Goals as goal

pub returns-then-is_request-clause-asked : goal.returns-then-is_request-clause-asked
returns-then-is_request-clause-asked c = λ has.
    shown (map string_bytes c.args.words.now) c.args.error.now c.show.result has
    (sym (ap is_memory c.kind-kind.ensures) ∙ sym c.is_memory.ensures ∙ c.if-is_memory.false)
    (sym (ap is_request c.kind-kind.ensures) ∙ sym c.is_request.ensures ∙ c.if-is_request.true)
    (rw (c.kind-kind.ensures) at c.show.ensures)

pub returns-then-is_request-clause-wordless : goal.returns-then-is_request-clause-wordless
returns-then-is_request-clause-wordless c = memory_alone _ c.show.result c.show.ensures
