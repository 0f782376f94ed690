-- The next change of the open seconds is the element's; if weekly records have none in a week, they have none later.
use Rattle.std.proofs.Common.{sym, ◌∙◌}
use Rattle.std.specs.Prelude.{IsTrue}
use Rattle.gtd_core.specs.Whole.{whole}
use Rattle.gtd_eval.specs.facts.Repeats.{changes-in}
use Rattle.gtd_eval.specs.facts.WeekFacts.{changes-to-end}
use Rattle.gtd_eval.specs.Cursors.{cursor_list}
use Rattle.gtd_eval.specs.Ever.{week}
use Rattle.gtd_records.specs.Closing.{IsOpen}
use Rattle.gtd_records.proofs.PeriodFacts.{opened, if-weekly}
use Rattle.gtd_records.proofs.change.change_by_spans.Goals as goal

pub returns : goal.returns
returns c =
    let days = whole c.days_to_look-days.result in
    let set = IsOpen c.args.records.now c.args.at.element c.args.at.direction c.args.vehicle in
    let found = changes-in set days.from days.until c.args.second.0 (cursor_list c.in_ok-open.open) c.in_ok-open.ensures.seconds
    c.days_to_look-days.ensures.inside.0 c.next_change.result (rw (← c.until.ensures.value) c.next_change.ensures.change) in
    record {
      change = changes-to-end set (IsTrue c.is_some-weekly.result)
          (λ yes. opened c.args.records.now c.args.at.element c.args.at.direction c.args.vehicle week
          (if-weekly c.period.result _ (sym c.is_some-weekly.ensures ∙ yes) c.period.ensures.repeats)) c.args.second.0 days.until
          (whole c.args.horizon).until c.days_to_look-days.ensures.within c.days_to_look-days.ensures.until
          c.next_change.result found;
    }
