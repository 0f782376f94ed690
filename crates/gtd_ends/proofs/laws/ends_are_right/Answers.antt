-- The end found is in its range and is where each stretch ends, and whole days last all of their day.
use Rattle.gtd_ends.proofs.EndRanges.{is_end, is_right}
use Rattle.gtd_ends.proofs.EndTimes.{all_day}
use Rattle.gtd_ends.proofs.laws.ends_are_right.Goals as goal

pub returns : goal.returns
returns c = record { in_range = is_end; each = is_right; whole_day = all_day }
