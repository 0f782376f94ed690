-- Words have one meaning or one first refusal, so the plan or refusal is the only one unless memory is refused.
use Rattle.std.proofs.Common.{map}
use Rattle.std.specs.Prelude.{string_bytes}
use Rattle.gtd_tool.proofs.PlanLemmas.{plan_only, plan_first}
use Rattle.gtd_tool.proofs.planner.plan.Goals as goal

pub returns-clause-only : goal.returns-clause-only
returns-clause-only c = λ asked asks.
    plan_only (map string_bytes c.as_slice.result.now) c.plan_words.result c.plan_words.ensures.asked c.plan_words.ensures.stopped
    asked (rw (c.as_slice.ensures.value) asks)

pub returns-clause-first : goal.returns-clause-first
returns-clause-first c = λ refusal is.
    plan_first (map string_bytes c.as_slice.result.now) c.plan_words.result c.plan_words.ensures.asked
    c.plan_words.ensures.stopped refusal (rw (c.as_slice.ensures.value) is)
