-- The lines of a schedule, as they are written: what all lines of an element in a direction begin with, and the rest.
use Rattle.std.specs.Prelude.{ℕ, ◌/◌, ◌%◌, List, [], ◌∷◌, ◌++◌, codes, decimal}
use Rattle.gtd_core.specs.Seconds.{Interval, day_of_second}
use Rattle.gtd_calendar.specs.Calendar.{IsCalendarDay}
use Rattle.gtd_calendar.specs.Stamp.{hms_text, stamp_text}
use Rattle.gtd_rows.specs.declared.direction.Direction.{Direction}
use Rattle.gtd_report.specs.Putting.{direction_word}

-- the element, the direction and the vehicle type, each with its comma
abbrev pub line_head : ℕ → Direction → ℕ → List ℕ
line_head element direction vehicle =
    decimal element ++ codes "," ++ direction_word direction ++ codes "," ++ decimal vehicle ++ codes ","

-- the text of the clock at a place in the day: T, hours, minutes and seconds
abbrev pub clock_bytes : ℕ → List ℕ
clock_bytes clock = 84 ∷ hms_text (clock / 3600) (clock / 60 % 60) (clock % 60)

-- the two moments of a span, and the LF
abbrev pub span_text : Interval → List ℕ
span_text span = stamp_text span.from ++ codes "," ++ stamp_text span.until ++ codes "\n"

-- the line of a span, computed
abbrev pub span_line : ℕ → Direction → ℕ → Interval → List ℕ
span_line element direction vehicle span =
    decimal element ++ codes "," ++ direction_word direction ++ codes "," ++ decimal vehicle ++ codes ","
    ++ stamp_text span.from ++ codes "," ++ stamp_text span.until ++ codes "\n"

-- each span begins and ends on a day that has a text
abbrev pub AreShown : List Interval → Type 0
AreShown [] = Unit {0}
AreShown (span ∷ spans) =
    IsCalendarDay (day_of_second span.from) × IsCalendarDay (day_of_second span.until) × AreShown spans
