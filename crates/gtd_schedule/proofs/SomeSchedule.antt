-- Restrictions have a schedule.
use Rattle.std.proofs.Common.{map, ℕ, List}
use Rattle.gtd_core.specs.Seconds.{Interval}
use Rattle.gtd_core.specs.Whole.{whole}
use Rattle.gtd_core.specs.declared.horizon.Horizon.{Horizon}
use Rattle.gtd_eval.specs.Membership.{IsNormalOver}
use Rattle.gtd_records.specs.Closing.{IsOpen, Restriction}
use Rattle.gtd_rows.specs.declared.direction.Direction.{Direction}
use Rattle.gtd_records.specs.facts.OpenDecisions.{open_or_not}
use Rattle.gtd_report.specs.facts.SomeElements.{some_by_element}
use Rattle.gtd_schedule.specs.Schedule.{AreLines, IsSchedule, header_line}
use Rattle.gtd_schedule.specs.Lines.{span_line}
use Rattle.gtd_schedule.proofs.SpanLines.{lines_are}
use Rattle.gtd_schedule.specs.facts.SpansShown.{normal_shown}
use Rattle.gtd_spans.specs.facts.SomeList.{some-normal-list}

module _ (found : List Restriction) (vehicle : ℕ) (horizon : Horizon) where
  module _ (element : ℕ) (direction : Direction) where
    open_list : (xs : List Interval) × IsNormalOver (IsOpen found element direction vehicle) horizon xs
    open_list = some-normal-list (IsOpen found element direction vehicle) (open_or_not found element direction vehicle)
        (whole horizon).from (whole horizon).until

    direction_lines : (lines : List (List ℕ)) × AreLines found vehicle horizon element direction lines
    direction_lines =
        let shown = normal_shown (IsOpen found element direction vehicle) horizon open_list.0 open_list.1 in (
          map (span_line element direction vehicle) open_list.0,
          record {
            spans = open_list.0;
            normal = open_list.1;
            each = lines_are element direction vehicle open_list.0 shown;
          },
        )

  -- restrictions have a schedule
  pub some_schedule : (lines : List (List ℕ)) × IsSchedule found vehicle horizon lines
  some_schedule = some_by_element (AreLines found vehicle horizon) direction_lines found header_line
