-- The lines of an element in a direction, put one after another as its spans are handed on.
use Rattle.std.specs.Prelude.{◌≡◌, ◌≤◌, ◌<◌, ◌+◌, ◌*◌, ◌^◌, ℕ, Bool, true, false, List, [], ◌∷◌, length, take, drop, Option, Result, Ok, Err}
use Rattle.gtd_core.specs.Seconds.{Interval}
use Rattle.gtd_report.specs.Putting.{Puts, failures_after_stop}
use Rattle.gtd_report.specs.declared.output.Progress.{Progress}
use Rattle.gtd_report.specs.declared.output.Stop.{Stop}
use Rattle.gtd_report.specs.declared.output.Stop.TheVariants.{Output}
use Rattle.gtd_schedule.specs.Lines.{AreShown, line_head, span_line}
use Rattle.gtd_schedule.specs.Moments.{AreMoments}
use Rattle.gtd_schedule.specs.declared.elements.SpanLine.{SpanLine}

-- all was put, or the output failed
abbrev pub put_result : Bool → Result (Unit {0}) Stop
put_result true = Ok tt
put_result false = Err Output

-- the line of a span of the element in the direction
abbrev pub line_of : SpanLine → Interval → List ℕ
line_of line span = span_line line.at.element line.at.direction line.vehicle span

-- how far the text was put
abbrev pub progress_of : SpanLine → Progress
progress_of line = record { lines = line.lines; written = line.written }

-- the numbers of the line are those of an element and a type, it is its head and two moments, the spans have lines, and there is
-- room for counting these and one more failure
pub record IsReady (failures : ℕ) (line : SpanLine) (spans : List Interval) : Type 0 where
  pub countable : failures + 1 < 2 ^ 64
  pub element : line.at.element < 2 ^ 64
  pub type : line.vehicle < 256
  pub shown : AreShown spans
  pub written : line.written + 80 * length spans < 2 ^ 64
  pub lines : line.lines + length spans < 2 ^ 64
  pub room : line.head ≤ length line.line.items
  pub head : take line.head line.line.items ≡ line_head line.at.element line.at.direction line.vehicle
  pub moments : AreMoments line.shown (drop line.head line.line.items)

-- a line was put of a span, or a first part of it
pub record PutsSpan (old : Option (List ℕ)) (failed : ℕ) (before : SpanLine) (span : Interval)
    (new : Option (List ℕ)) (fails : ℕ) (after : SpanLine) (whole : Bool) : Type 0 where
  pub put : Puts (put_result whole) old new (progress_of before) (progress_of after) (line_of before span ∷ [])
  pub failures : fails ≡ failures_after_stop (put_result whole) failed
  pub at : after.at ≡ before.at
  pub vehicle : after.vehicle ≡ before.vehicle
