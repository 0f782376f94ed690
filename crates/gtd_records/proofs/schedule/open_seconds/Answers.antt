-- All is open where no record closes the element, nothing where one without a domain does.
use Rattle.gtd_eval.specs.Cursors.{cursor_list}
use Rattle.gtd_records.proofs.ClosedWhenFacts.{none_hold}
use Rattle.gtd_records.specs.facts.ClosedFacts.{always_closed, never_closed}
use Rattle.gtd_records.proofs.OpenFacts.{ok_both}
use Rattle.gtd_records.proofs.schedule.open_seconds.Goals as goal

pub returns-in-Never : goal.returns-in-Never
returns-in-Never c = record {
  seconds = never_closed c.args.records.now c.args.element c.args.direction c.args.vehicle c.args.horizon
      (cursor_list c.whole.result) c.in-Never.ensures.when c.whole.ensures.list;
  start = c.whole.ensures.start;
}

pub returns-in-Always : goal.returns-in-Always
returns-in-Always c = record {
  seconds = ok_both c.any.result c.any.ensures.seconds c.any.ensures.normal
      (λ r seconds normal. always_closed c.args.records.now c.args.element c.args.direction c.args.vehicle c.args.horizon
      (cursor_list r) c.in-Always.ensures.when (λ t h. none_hold c.new.result.items t c.new.ensures.items ((seconds t).0 h))
      normal);
  start = c.any.ensures.start (rw c.new.ensures.items tt);
}
