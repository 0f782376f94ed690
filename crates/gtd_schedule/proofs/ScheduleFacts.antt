-- A schedule is one text.
use Rattle.std.proofs.Common.{◌∙◌, sym, subst, ℕ, List}
use Rattle.gtd_core.specs.Seconds.{Interval}
use Rattle.gtd_core.specs.Whole.{whole}
use Rattle.gtd_core.specs.declared.horizon.Horizon.{Horizon}
use Rattle.gtd_records.specs.Closing.{IsOpen, Restriction}
use Rattle.gtd_rows.specs.declared.direction.Direction.{Direction}
use Rattle.gtd_report.specs.facts.ElementFacts.{one_by_element}
use Rattle.gtd_report.specs.Putting.{IsOne}
use Rattle.gtd_schedule.specs.Schedule.{AreLines, AreSpanLines, IsSchedule, header_line}
use Rattle.gtd_schedule.proofs.SpanLines.{lines_only}
use Rattle.gtd_spans.specs.facts.NormalFor.{one-normal-list}

module _ (found : List Restriction) (vehicle : ℕ) (horizon : Horizon) where
  -- an element has one list of lines in a direction
  pub one_lines : (element : ℕ) (direction : Direction) → IsOne (AreLines found vehicle horizon element direction)
  one_lines element direction a b p q =
      let same = one-normal-list (IsOpen found element direction vehicle) (whole horizon).from
      (whole horizon).until p.spans q.spans p.normal q.normal in
      let other : AreSpanLines element direction vehicle p.spans b =
      subst (λ (spans : List Interval). AreSpanLines element direction vehicle spans b) (sym same) q.each in
      lines_only element direction vehicle p.spans a p.each ∙ sym (lines_only element direction vehicle p.spans b other)

  -- restrictions have one schedule
  pub one_schedule : IsOne (IsSchedule found vehicle horizon)
  one_schedule = one_by_element (AreLines found vehicle horizon) one_lines found header_line
