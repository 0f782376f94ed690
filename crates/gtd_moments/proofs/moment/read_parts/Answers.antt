use Rattle.std.proofs.Common.{List, ℕ}
use Rattle.std.specs.Prelude.{IfOk, Result, Ok, Err}
use Rattle.gtd_core.specs.Seconds.{IsMomentSecond}
use Rattle.gtd_core.specs.declared.second.Sec.{Sec}
use Rattle.gtd_calendar.specs.Read.{IsReadStamp}
use Rattle.gtd_calendar.specs.declared.stamp.StampFault.{StampFault}
use Rattle.gtd_calendar.specs.declared.stamp.StampFault.TheVariants.{NoSuchDate, Range, Shape}
use Rattle.gtd_moments.proofs.moment.read_parts.Goals as goal

-- a second that is read is in range
in_range : (text : List ℕ) (r : Result Sec StampFault) → IsReadStamp text r → IfOk r (λ second. IsMomentSecond second.0)
in_range text (Ok x) h = h.1
in_range text (Err Shape) h = tt
in_range text (Err NoSuchDate) h = tt
in_range text (Err Range) h = tt

pub returns-in-Some-clause-range : goal.returns-in-Some-clause-range
returns-in-Some-clause-range c = in_range _ c.read_stamp.result c.read_stamp.ensures.second
