-- Hours in a condition, and their warnings with their places in the value.
use Rattle.std.specs.Prelude.{◌≡◌, ℕ, ◌+◌, min, nat_lt, Bool, true, false, List, [], map, Option}
use Rattle.gtd_core.specs.Limits.{most_basic_domains}
use Rattle.gtd_hours.specs.Cost.{hours_cost}
use Rattle.gtd_hours.specs.declared.hours.Hours.{Hours}
use Rattle.gtd_hours_holidays.specs.declared.known_years.KnownYears.{KnownYears}
use Rattle.gtd_hours_known.specs.declared.known.KnownHours.{KnownHours}
use Rattle.gtd_hours_warnings.specs.Marks.{AreWarningsWith}
use Rattle.gtd_hours_warnings.specs.declared.warnings.Warning.{Warning}
use Rattle.gtd_conditional_values.specs.declared.hours.TermHours.{TermHours}

-- The warning of a text that begins at this place of a value, with its place there. No value has more bytes than a number of the
-- machine tells.
abbrev pub placed : ℕ → Warning → Warning
placed start w = record { kind = w.kind; place = min (start + w.place) 18_446_744_073_709_551_615; form = w.form }

-- the hours need more basic domains than a domain may have, which is a fault of their value
abbrev pub need_too_many : Hours → Bool
need_too_many hours = nat_lt most_basic_domains (hours_cost hours)

-- The warnings of a text from which these hours are read, if it begins at this place of a value; none if the hours are at fault.
abbrev pub AreWarnedIf : Bool → ℕ → List ℕ → Option KnownYears → KnownHours → List Warning → Type 0
AreWarnedIf true start text years read warnings = warnings ≡ []
AreWarnedIf false start text years read warnings =
    (found : List Warning) × AreWarningsWith text read years found × (warnings ≡ map (placed start) found)

-- The hours that were read of a text that begins at this place of a value, and the warnings of the text, if holidays are known
-- in these years.
pub record AreHoursAt (start : ℕ) (text : List ℕ) (years : Option KnownYears) (read : KnownHours) (given : TermHours) : Type 0
  where
    pub hours : given.hours ≡ read.hours
    pub warned : AreWarnedIf (need_too_many read.hours) start text years read given.warnings.items
