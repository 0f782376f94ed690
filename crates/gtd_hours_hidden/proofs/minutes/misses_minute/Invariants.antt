use Rattle.std.proofs.Common.{◌≡◌, ◌<◌, ℕ, false}
use Rattle.gtd_hours_hidden.specs.Hides.{is_missed}
use Rattle.gtd_hours_hidden.proofs.minutes.misses_minute.Given as goal

-- no minute so far is missed
abbrev pub invariant-loop-minute : goal.invariant-loop-minute
invariant-loop-minute l = (m : ℕ) → m < l.minute → is_missed l.times l.earlier m ≡ false
