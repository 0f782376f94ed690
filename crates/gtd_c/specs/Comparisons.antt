-- What is answered of whether two domains have the same seconds.
use Rattle.std.specs.Prelude.{◌≡◌, ℕ, ℤ, Option}
use Rattle.gtd_core.specs.declared.domain.Domain.{Domain}
use Rattle.gtd_difference.specs.Difference.{IsComparison}
use Rattle.gtd_difference.specs.declared.comparison.Apart.{Apart}
use Rattle.gtd_difference.specs.declared.comparison.Comparison.TheVariants as compared
use Rattle.gtd_difference.specs.declared.comparison.Side.{Side}
use Rattle.gtd_difference.specs.declared.comparison.Side.TheVariants as side
use Rattle.gtd_handles.specs.Handles.{OfDomain}
use Rattle.gtd_c.specs.declared.comparisons.ApartNumbers.{ApartNumbers}
use Rattle.gtd_handles.specs.declared.handle.Thing.{Thing}

-- what is said of the domains that two handles stand for; any other handle is answered by its kind
abbrev pub OfDomains : Option Thing → Option Thing → ℕ → (Domain → Domain → Type 0) → Type 0
OfDomains first second answer Says = OfDomain first answer (λ one. OfDomain second answer (λ other. Says one other))

-- the number of the one of two domains
abbrev pub side_number : Side → ℕ
side_number side.First = 1
side_number side.Second = 2

-- the numbers of a second that one of two domains has alone
abbrev pub apart_numbers : Apart → ApartNumbers
apart_numbers found = record { second = found.second.0; domain = side_number found.side }

-- each second of all time is in both domains or in neither, and no start gives a year
pub record AreSame (first second : Domain) (from : ℤ) : Type 0 where
  pub same : IsComparison first second from compared.Same

-- some start gives a year, and each second from `from` on and before 2700-01-01 is in both domains or in neither
pub record AreSameUntil2700 (first second : Domain) (from : ℤ) : Type 0 where
  pub same : IsComparison first second from compared.SameUntil2700

-- the numbers are those of the first second from `from` on that one of the domains has alone
pub record AreApart (first second : Domain) (from : ℤ) (numbers : ApartNumbers) : Type 0 where
  pub found : Apart
  pub apart : IsComparison first second from (compared.Apart found)
  pub numbered : numbers ≡ apart_numbers found
