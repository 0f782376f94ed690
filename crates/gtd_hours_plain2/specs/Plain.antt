-- Plain hours that mean what rules mean, or why there are none.
use Rattle.std.specs.Prelude.{◌≡◌, ◌↔◌, ℤ, List, Some, None}
use Rattle.gtd_hours.specs.Opening as plain
use Rattle.gtd_hours.specs.declared.hours.Hours.{Hours}
use Rattle.gtd_hours2.specs.Opening.{Given, IsOpen}
use Rattle.gtd_hours2.specs.Rules.{Rule}
use Rattle.gtd_hours_plain2.specs.Clocks.{clocks_of}
use Rattle.gtd_hours_plain2.specs.Lasting.{first_long}
use Rattle.gtd_hours_plain2.specs.Needs.{first_need}
use Rattle.gtd_hours_plain2.specs.declared.given.GivenDays.{GivenDays}
use Rattle.gtd_hours_plain2.specs.declared.given.GivenTimes.{GivenTimes}
use Rattle.gtd_hours_plain2.specs.declared.plain.PlainError.{PlainError}
use Rattle.gtd_hours_plain2.specs.declared.plain.PlainError.TheVariants as error

-- They are open at the same seconds.
abbrev pub IsPlain : Given → List Rule → Hours → Type 0
IsPlain g rules hours = (s : ℤ) → IsOpen g rules s ↔ plain.IsOpen hours s

-- nothing is needed, and nothing lasts too long
pub record AreGiven (d : GivenDays) (g : GivenTimes) (rules : List Rule) : Type 0 where
  pub needs : first_need d g rules ≡ None
  pub lasts : first_long (clocks_of g) rules ≡ None

abbrev pub IsPlainError : GivenDays → GivenTimes → List Rule → PlainError → Type 0
IsPlainError d g rules error.NoMemory = Unit {0}
IsPlainError d g rules (error.Need need) = first_need d g rules ≡ Some need
IsPlainError d g rules (error.TooLong long) = (first_need d g rules ≡ None) × (first_long (clocks_of g) rules ≡ Some long)
