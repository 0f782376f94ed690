-- What holds of any answer leaves one for a given command: its plan, or the refusal of its first faulty word.
use Rattle.std.proofs.Common.{map}
use Rattle.std.specs.Prelude.{string_bytes}
use Rattle.gtdesk_plans.specs.Given.{asked_words}
use Rattle.gtdesk_plans.proofs.RefusedFacts.{first_refused, only_refused, planned_refused}
use Rattle.gtdesk_plans.proofs.planner.plan.Goals as goal

pub returns-clause-only : goal.returns-clause-only
returns-clause-only c = λ given gives.
    only_refused (asked_words (map string_bytes c.as_slice.result.now)) c.plan_asked.result c.plan_asked.ensures.asked given
    (rw (c.as_slice.ensures.value) gives)

pub returns-clause-first : goal.returns-clause-first
returns-clause-first c = λ given refusal gives is.
    first_refused (asked_words (map string_bytes c.as_slice.result.now)) c.plan_asked.result c.plan_asked.ensures.asked given
    (rw (c.as_slice.ensures.value) gives) refusal is

pub returns-clause-planned : goal.returns-clause-planned
returns-clause-planned c = λ given gives none.
    planned_refused (asked_words (map string_bytes c.as_slice.result.now)) c.plan_asked.result c.plan_asked.ensures.asked given
    (rw (c.as_slice.ensures.value) gives) none
