-- Spans that are known of rows.
use Rattle.std.specs.Prelude.{◌≡◌, ◌<◌, ℕ, List, length, Option, None, IfSome, get_or}
use Rattle.gtd_core.specs.Seconds.{Interval}
use Rattle.gtd_difference.specs.Difference.{IsHeldSpan}
use Rattle.gtd_records.specs.Closing.{HoldsAt, Restriction}
use Rattle.gtd_repeats.specs.Sameness.{row_at}

-- for each row an interval of its seconds, or none
pub record AreSpans (rows : List Restriction) (spans : List (Option Interval)) : Type 0 where
  pub many : length spans ≡ length rows
  pub each : (row : ℕ) → row < length rows → IfSome (get_or spans row None) (IsHeldSpan (HoldsAt (row_at rows row).domain))
