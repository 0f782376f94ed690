-- Basic domains that repeat after a week, a day, an hour or a minute.
use Rattle.std.specs.Prelude.{◌≡◌, None, ℤ, pos, ◌<ℤ◌}
use Rattle.gtd_core.specs.declared.start.StartParts.{StartParts}
use Rattle.gtd_core.specs.declared.duration.DurationParts.{DurationParts}
use Rattle.gtd_recur.specs.Weekly.{IsWeekly}
use Rattle.gtd_recur.specs.declared.period.Period.{Period}
use Rattle.gtd_recur.specs.declared.period.Period.TheVariants.{Minute, Hour, Day, Week}

-- the seconds of a period
abbrev pub period_seconds : Period → ℤ
period_seconds Minute = pos 60
period_seconds Hour = pos 3600
period_seconds Day = pos 86400
period_seconds Week = pos 604_800

-- the seconds of some period
abbrev pub IsPeriod : ℤ → Type 0
IsPeriod w = (period : Period) × (w ≡ period_seconds period)

-- The fields let a basic domain repeat after w seconds: it repeats after a week; for less than a week no weekdays are
-- given, for less than a day no hour, and for less than an hour no minute.
pub record RepeatsAfter (w : ℤ) (p : StartParts) (q : DurationParts) : Type 0 where
  pub weekly : IsWeekly p q
  pub day : w <ℤ pos 604_800 → p.weekdays ≡ 0
  pub hour : w <ℤ pos 86400 → p.hour ≡ None
  pub minute : w <ℤ pos 3600 → p.minute ≡ None
