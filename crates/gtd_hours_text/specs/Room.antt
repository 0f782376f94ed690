-- What memory has room for. Whether it has depends on the memory that is given; no law can tell.
use Rattle.std.specs.Prelude.{◌≡◌, ◌≤◌, ℕ, Vec, vec_len}
use Rattle.std.specs.Global.{Global}
use Rattle.gtd_hours.specs.declared.hours.Kind.{Kind}
use Rattle.gtd_hours.specs.declared.hours.Rule.{Rule}
use Rattle.gtd_hours.specs.declared.hours.Selector.{Selector}
use Rattle.gtd_hours.specs.declared.hours.TimeRange.{TimeRange}

-- there is a vector of each length up to this one
abbrev pub HasVectors : Type 0 → ℕ → Type 0
HasVectors X most = (n : ℕ) → n ≤ most → (v : Vec X Global) × (vec_len v ≡ n)

-- There are such vectors for all parts of hours.
pub record HasRoom (most : ℕ) : Type 0 where
  pub selectors : HasVectors Selector most
  pub kinds : HasVectors Kind most
  pub times : HasVectors TimeRange most
  pub rules : HasVectors Rule most
