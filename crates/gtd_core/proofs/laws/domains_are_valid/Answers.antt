-- A domain's own invariant bounds its leaves, and the starts and durations in them are in range by their types.
use Rattle.gtd_core.specs.facts.Leaves.{leaves_are_valid}
use Rattle.gtd_core.proofs.laws.domains_are_valid.Goals as goal

pub returns-clause-few : goal.returns-clause-few
returns-clause-few c domain = domain.few_leaves

pub returns-clause-valid : goal.returns-clause-valid
returns-clause-valid c domain = leaves_are_valid domain.expr
