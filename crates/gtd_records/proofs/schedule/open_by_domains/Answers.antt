-- Nothing is open where records close the element at every second; else what lies outside of all closing cursors.
use Rattle.gtd_eval.specs.Cursors.{cursor_list}
use Rattle.gtd_records.proofs.AlwaysFacts.{nothing-open}
use Rattle.gtd_records.proofs.ClosedWhenFacts.{none_hold}
use Rattle.gtd_records.proofs.OpenFacts.{ok_both, open_normal}
use Rattle.gtd_records.specs.ClosingCursors.{HasSecond}
use Rattle.gtd_records.proofs.schedule.open_by_domains.Goals as goal

pub returns-then-always : goal.returns-then-always
returns-then-always c = record {
  seconds = ok_both c.any.result c.any.ensures.seconds c.any.ensures.normal
      (λ r seconds normal. nothing-open c.args.records.now c.args.at.element c.args.at.direction c.args.vehicle c.args.horizon
      (cursor_list r) (c.in_ok-always.ensures.always c.if-always.true)
      (λ t h. none_hold c.new.result.items t c.new.ensures.items ((seconds t).0 h))
      normal);
  start = c.any.ensures.start (rw c.new.ensures.items tt);
}

pub returns : goal.returns
returns c = record {
  seconds = ok_both c.outside.result c.outside.ensures.seconds c.outside.ensures.normal
      (λ r seconds normal. open_normal c.args.records.now c.args.at.element c.args.at.direction c.args.vehicle c.args.horizon
      (HasSecond c.in_ok-closing.closing) (cursor_list r) c.in_ok-closing.ensures.seconds seconds
      normal);
  start = c.outside.ensures.start c.in_ok-closing.ensures.start;
}
