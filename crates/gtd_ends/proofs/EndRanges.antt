-- The end that is found: its numbers are in their ranges, and each stretch ends so.
use Rattle.std.proofs.Common.{◌≡◌, Option, Some, None}
use Rattle.std.specs.Prelude.{IfSome}
use Rattle.gtd_core.specs.Ranges.{IsStart, IsDuration}
use Rattle.gtd_core.specs.declared.start.StartParts.{StartParts}
use Rattle.gtd_core.specs.declared.duration.DurationParts.{DurationParts}
use Rattle.gtd_ends.specs.declared.end.End.{End}
use Rattle.gtd_ends.specs.Endings.{ending}
use Rattle.gtd_ends.specs.Ends.{AllEndAt, IsEnd}
use Rattle.gtd_ends.proofs.EndTimes.{Good, ending_good}

in_ranges : (start : StartParts) (duration : DurationParts) (o : Option End) → IfSome o (Good start duration) → IfSome o IsEnd
in_ranges start duration None h = tt
in_ranges start duration (Some end) h = h.is_end

pub is_end : (start : StartParts) (duration : DurationParts) → IsStart start → IsDuration duration
    → IfSome (ending start duration) IsEnd
is_end start duration p q = in_ranges start duration (ending start duration) (ending_good start duration p q)

right : (start : StartParts) (duration : DurationParts) (o : Option End) → IfSome o (Good start duration)
    → IfSome o (λ end. AllEndAt start duration end)
right start duration None h = tt
right start duration (Some end) h = h.all

pub is_right : (start : StartParts) (duration : DurationParts) → IsStart start → IsDuration duration
    → IfSome (ending start duration) (λ end. AllEndAt start duration end)
is_right start duration p q = right start duration (ending start duration) (ending_good start duration p q)
