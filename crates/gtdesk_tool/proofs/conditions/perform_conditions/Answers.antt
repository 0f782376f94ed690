-- A failure of a device is one of the run, whose outcome the command hands on.
use Rattle.gtdesk_tool.specs.Conditions.{failures_after_means}
use Rattle.gtdesk_tool.specs.Running.{failures_after_read, failures_after_write}
use Rattle.gtdesk_tool.proofs.ConditionsFacts.{conditions_means, conditions_tags, conditions_write}
use Rattle.gtdesk_tool.proofs.RunningFacts.{handed_on}
use Rattle.gtdesk_tool.proofs.conditions.perform_conditions.Goals as goal

pub returns-clause-tags_faults : goal.returns-clause-tags_faults
returns-clause-tags_faults g c =
    handed_on failures_after_read _ _ _ _ _
    c.run_conditions-answer.ensures.tags_faults (conditions_tags c.run_conditions-answer.result _)
    c.conditions_outcome.ensures.value

pub returns-clause-means_faults : goal.returns-clause-means_faults
returns-clause-means_faults g c =
    handed_on failures_after_means _ _ _ _ _
    c.run_conditions-answer.ensures.means_faults (conditions_means c.run_conditions-answer.result _)
    c.conditions_outcome.ensures.value

pub returns-clause-write_faults : goal.returns-clause-write_faults
returns-clause-write_faults g c =
    handed_on failures_after_write _ _ _ _ _
    c.run_conditions-answer.ensures.write_faults (conditions_write c.run_conditions-answer.result _)
    c.conditions_outcome.ensures.value
