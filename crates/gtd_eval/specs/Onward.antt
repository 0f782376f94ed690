-- A basic domain that is asked at later and later seconds.
use Rattle.std.specs.Prelude.{ℤ, ◌<ℤ◌, ◌≡◌, [], Option, Some, None}
use Rattle.gtd_core.specs.Seconds.{Interval}
use Rattle.gtd_core.specs.Whole.{whole}
use Rattle.gtd_recur.specs.RunsToCome.{runs_to_come}
use Rattle.gtd_eval.specs.Basics.{ahead_list}
use Rattle.gtd_eval.specs.declared.basic_stays.BasicStays.{BasicStays}

-- the same basic domain, over a horizon with the same end
abbrev pub IsSameBasic : BasicStays → BasicStays → Type 0
IsSameBasic old new = (new.basic ≡ old.basic) × ((whole new.horizon).until ≡ (whole old.horizon).until)

-- what comes first ends after the second; or nothing comes
abbrev pub IsReached : ℤ → Option Interval → BasicStays → Type 0
IsReached at None s = ahead_list s.ahead (runs_to_come s.runs) ≡ []
IsReached at (Some x) s = (s.ahead ≡ Some x) × (at <ℤ x.until)
