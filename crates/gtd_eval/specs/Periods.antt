-- Expressions and sets of seconds that repeat after some seconds.
use Rattle.std.specs.Prelude.{◌↔◌, ℤ, ◌+ℤ◌, ◌≤ℤ◌}
use Rattle.gtd_core.specs.Trees.{Tree, Single, Joined}
pub use Rattle.gtd_recur.specs.Periods.{period_seconds, RepeatsAfter}
pub use Rattle.gtd_recur.specs.declared.period.Period.{Period}
pub use Rattle.gtd_recur.specs.declared.period.Period.TheVariants.{Minute, Hour, Day, Week}

-- each basic domain of the expression repeats after w seconds
abbrev pub AllRepeat : ℤ → Tree → Type 0
AllRepeat w (Single start duration) = RepeatsAfter w start duration
AllRepeat w (Joined op left right) = AllRepeat w left × AllRepeat w right

-- the set holds a second exactly if it holds the one a period later, whichever period is taken from this one on
abbrev pub RepeatsFrom : Period → (ℤ → Type 0) → Type 0
RepeatsFrom x set = (y : Period) → period_seconds x ≤ℤ period_seconds y → (t : ℤ) → set t ↔ set (t +ℤ period_seconds y)
