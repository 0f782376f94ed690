-- What changes in the one domain changes outside of it.
use Rattle.gtd_core.specs.Whole.{whole}
use Rattle.gtd_records.proofs.OpenFacts.{ok_both}
use Rattle.gtd_records.proofs.SoleFacts.{changes_outside}
use Rattle.gtd_records.specs.Closing.{IsClosed}
use Rattle.gtd_records.proofs.change.change_by_rows.Goals as goal

pub returns-in-Some : goal.returns-in-Some
returns-in-Some c = record {
  change = ok_both c.next_change.result c.next_change.ensures.change c.next_change.ensures.change (λ o is also.
      changes_outside c.in-Some.domain.now (IsClosed c.args.records.now c.args.at.element c.args.at.direction c.args.vehicle)
      c.in-Some.ensures.sole c.args.second.0 (whole c.args.horizon).until o is);
}
