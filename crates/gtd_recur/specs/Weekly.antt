-- Basic domains that repeat after 7 days.
use Rattle.std.specs.Prelude.{◌≡◌, ◌≢◌, ◌⊎◌, None, IsTrue}
use Rattle.gtd_core.specs.declared.start.StartParts.{StartParts}
use Rattle.gtd_core.specs.declared.duration.DurationParts.{DurationParts}
use Rattle.gtd_recur.specs.Begins.{gives_clock}

-- the start asks for nothing of a day except its weekday: weekdays or a field of the clock are given, and no other field
-- is
pub record AsksNoDate (p : StartParts) : Type 0 where
  pub year : p.year ≡ None
  pub month : p.month ≡ None
  pub week : p.week ≡ None
  pub day : p.day ≡ None
  pub nth : p.nth ≡ None
  pub nth_back : p.nth_back ≡ None
  pub some : (p.weekdays ≢ 0) ⊎ IsTrue (gives_clock p)

-- the start asks for no date, and the duration has no months and no years
pub record IsWeekly (p : StartParts) (q : DurationParts) : Type 0 where
  pub start : AsksNoDate p
  pub years : q.years ≡ 0
  pub months : q.months ≡ 0
