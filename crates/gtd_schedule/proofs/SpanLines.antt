-- The lines of spans are those that are computed of them.
use Rattle.std.proofs.Common.{◌≡◌, refl, map, ℕ, List, [], ◌∷◌}
use Rattle.gtd_core.specs.Seconds.{Interval, day_of_second}
use Rattle.gtd_calendar.specs.Stamp.{date_text}
use Rattle.gtd_calendar.specs.facts.DateTexts.{date_text-is, date_text-only}
use Rattle.gtd_rows.specs.declared.direction.Direction.{Direction}
use Rattle.gtd_schedule.specs.Lines.{AreShown, span_line}
use Rattle.gtd_schedule.specs.Schedule.{AreSpanLines, IsSpanLine}

module _ (element : ℕ) (direction : Direction) (vehicle : ℕ) where
  line_only : (span : Interval) (line : List ℕ) → IsSpanLine element direction vehicle span line
      → line ≡ span_line element direction vehicle span
  line_only span line is =
      let from = date_text-only (day_of_second span.from) is.from is.begins in
      let until = date_text-only (day_of_second span.until) is.until is.ends in
      rw (is.shown, from, until) refl

  pub lines_only : (spans : List Interval) (lines : List (List ℕ)) → AreSpanLines element direction vehicle spans lines
      → lines ≡ map (span_line element direction vehicle) spans
  lines_only [] lines are = are
  lines_only (span ∷ spans) lines are =
      rw (are.4, line_only span are.0 are.2, lines_only spans are.1 are.3) refl

  pub lines_are : (spans : List Interval) → AreShown spans
      → AreSpanLines element direction vehicle spans (map (span_line element direction vehicle) spans)
  lines_are [] shown = refl
  lines_are (span ∷ spans) shown = (
    span_line element direction vehicle span,
    map (span_line element direction vehicle) spans,
    record {
      from = date_text (day_of_second span.from);
      until = date_text (day_of_second span.until);
      begins = date_text-is (day_of_second span.from) shown.0;
      ends = date_text-is (day_of_second span.until) shown.1;
      shown = refl;
    },
    lines_are spans shown.2,
    refl,
  )
