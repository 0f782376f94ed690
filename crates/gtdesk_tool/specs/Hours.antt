-- Which lines are hours of a domain.
use Rattle.std.specs.Prelude.{◌≡◌, ◌↔◌, ◌++◌, ℕ, ℤ, List, codes}
use Rattle.gtd_core.specs.declared.domain.Domain.{Domain}
use Rattle.gtd_hours_search.specs.Membership.{InDomain}
use Rattle.gtd_hours_text.specs.Standing.{StandsFor}
use Rattle.gtd_hours.specs.Opening.{IsOpen}
use Rattle.gtd_hours.specs.Written.{hours_text}
use Rattle.gtd_hours.specs.declared.hours.Hours.{Hours}

-- The line is the written text of some hours, with a line end. The text stands for these hours, and they are open at exactly the
-- seconds of the domain.
pub record IsHoursLine (domain : Domain) (line : List ℕ) : Type 0 where
  pub hours : Hours
  pub written : line ≡ hours_text hours ++ codes "\n"
  pub stands : StandsFor (hours_text hours) hours
  pub same : (s : ℤ) → IsOpen hours s ↔ InDomain domain s
