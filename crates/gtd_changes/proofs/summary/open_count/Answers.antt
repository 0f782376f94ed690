-- The lengths of the open spans, added up, count the open seconds of the horizon, since each span lies inside it.
use Rattle.gtd_eval.specs.Cursors.{cursor_list}
use Rattle.gtd_records.specs.Closing.{IsOpen}
use Rattle.gtd_changes.proofs.SummaryFacts.{open_count}
use Rattle.gtd_changes.proofs.summary.open_count.Goals as goal

pub seconds_of-requires : goal.seconds_of-requires
seconds_of-requires c =
    record { inside = λ t h. let i = c.in_ok-open.ensures.seconds.inside t h in (i.0, i.1) }

pub returns : goal.returns
returns c = record {
  seconds = open_count c.args.horizon (IsOpen c.args.records.now c.args.element c.args.direction c.args.vehicle)
      (cursor_list c.in_ok-open.open) c.seconds_of.result c.in_ok-open.ensures.seconds c.seconds_of.ensures.counted;
}
