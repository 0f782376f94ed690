-- Basic domains with a date, and what they are while the date stays.
use Rattle.std.specs.Prelude.{ℤ, pos, ◌-ℤ◌, ◌≤ℤ◌, ◌<ℤ◌, ◌↔◌, Bool, true, false, None, Some, IfSome, IsTrue}
use Rattle.gtd_core.specs.Parts.{domain_tree}
use Rattle.gtd_core.specs.declared.duration.DurationParts.{DurationParts}
use Rattle.gtd_core.specs.declared.start.StartParts.{StartParts}
use Rattle.gtd_eval.specs.Membership.{InDomain}
use Rattle.gtd_eval.specs.Periods.{AllRepeat}
use Rattle.gtd_recur.specs.Periods.{period_seconds}
use Rattle.gtd_difference.specs.declared.basic_state.BasicState.{BasicState}
use Rattle.gtd_difference.specs.declared.dated.DatedState.{DatedState}

-- the fields of the time of day alone
abbrev pub clock_parts : StartParts → StartParts
clock_parts p = record {
  year = None;
  month = None;
  week = None;
  day = None;
  hour = p.hour;
  minute = p.minute;
  second = p.second;
  nth = None;
  nth_back = None;
  weekdays = 0;
}

-- the fields of the date, at the first second of the day
abbrev pub date_parts : StartParts → StartParts
date_parts p = record {
  year = p.year;
  month = p.month;
  week = p.week;
  day = p.day;
  hour = Some 0;
  minute = None;
  second = None;
  nth = p.nth;
  nth_back = p.nth_back;
  weekdays = p.weekdays;
}

abbrev pub one_day : DurationParts
one_day = record { years = 0; months = 0; weeks = 0; days = 1; hours = 0; minutes = 0; seconds = 0 }

-- The basic domain has each second from `from` on and before `until`, which is not after `last`, exactly if it is said to hold;
-- and it repeats after its period, if it has one.
pub record IsKnown (last : ℤ) (state : BasicState) : Type 0 where
  pub repeats : IfSome state.period (λ x. AllRepeat (period_seconds x) (domain_tree state.domain))
  pub within : state.until.0 ≤ℤ last
  pub held : (t : ℤ) → state.from.0 ≤ℤ t → t <ℤ state.until.0 → IsTrue state.holds ↔ InDomain state.domain t

-- Three basic domains are known so. The second, which is the first without its date, repeats after the period. It has a second
-- exactly if the first has it, if the third has all seconds from which a stretch may last until then; or if the third has all
-- seconds from an earlier one on, and the second has not the one before that.
pub record IsKnownDated (last : ℤ) (state : DatedState) : Type 0 where
  pub own : IsKnown last state.own
  pub wide : IsKnown last state.wide
  pub date : IsKnown last state.date
  pub repeats : AllRepeat (period_seconds state.period) (domain_tree state.wide.domain)
  pub some : pos 0 ≤ℤ state.longest
  pub short : state.longest ≤ℤ pos 3600
  pub same : (t : ℤ) → ((b : ℤ) → (t -ℤ state.longest) ≤ℤ b → b ≤ℤ t → InDomain state.date.domain b)
      → InDomain state.wide.domain t ↔ InDomain state.own.domain t
  pub since : (from t : ℤ) → from ≤ℤ t → (InDomain state.wide.domain (from -ℤ pos 1) → ⊥)
      → ((b : ℤ) → from ≤ℤ b → b ≤ℤ t → InDomain state.date.domain b)
      → InDomain state.wide.domain t ↔ InDomain state.own.domain t

-- the seconds without a date, or else all or none
abbrev pub FixedDate : Bool → Bool → Type 0 → Type 0
FixedDate true holds undated = undated
FixedDate false holds undated = IsTrue holds

-- the second is in the basic domain as it is fixed
abbrev pub InFixedDate : DatedState → ℤ → Type 0
InFixedDate state t = FixedDate state.is_wide state.own.holds (InDomain state.wide.domain t)
