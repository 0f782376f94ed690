-- The domain of the one row.
use Rattle.std.proofs.Common.{sym}
use Rattle.gtd_core.specs.Parts.{domain_tree}
use Rattle.gtd_records.proofs.SoleFacts.{of_domain}
use Rattle.gtd_records.proofs.change.sole_domain.Goals as goal

pub returns : goal.returns
returns c = record {
  sole = of_domain _ c.args.records.now c.args.at.element c.args.at.direction c.args.vehicle c.in_ok-row.row
      c.index-rows-row.result _ c.in_ok-row.ensures.sole (rw c.rows.ensures.rows at c.index-rows-row.is) c.domain.ensures.domain;
}
