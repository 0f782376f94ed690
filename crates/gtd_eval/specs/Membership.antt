-- Which seconds an expression contains, and which list is normal for a set of seconds over a horizon.
use Rattle.std.specs.Prelude.{ℤ, ◌⊎◌, IsSome, List}
use Rattle.gtd_core.specs.Trees.{Tree, Single, Joined}
use Rattle.gtd_core.specs.Parts.{domain_tree}
use Rattle.gtd_core.specs.declared.domain.Domain.{Domain}
use Rattle.gtd_spans.specs.Normal.{Combined, IsNormalFor}
use Rattle.gtd_recur.specs.Membership.{InStretches}
use Rattle.gtd_core.specs.Seconds.{Interval}
use Rattle.gtd_core.specs.Whole.{whole}
use Rattle.gtd_core.specs.declared.horizon.Horizon.{Horizon}

-- The expression contains the second: a basic domain if one of its stretches holds it; two joined expressions by the
-- operators of GDF time domains (ISO 14825:2004): either, both, or the left and not the right.
abbrev pub InTree : Tree → ℤ → Type 0
InTree (Single start duration) t = InStretches start duration t
InTree (Joined op left right) t = Combined op (InTree left t) (InTree right t)

-- the domain contains the second
abbrev pub InDomain : Domain → ℤ → Type 0
InDomain domain = InTree (domain_tree domain)

-- some start of the expression gives a year
abbrev pub SomeGivesYear : Tree → Type 0
SomeGivesYear (Single start duration) = IsSome start.year
SomeGivesYear (Joined op left right) = SomeGivesYear left ⊎ SomeGivesYear right

-- The intervals are in order, disjoint and as long as possible, and hold exactly the seconds of the set that are on the
-- horizon's days.
abbrev pub IsNormalOver : (ℤ → Type 0) → Horizon → List Interval → Type 0
IsNormalOver set horizon xs = IsNormalFor set (whole horizon).from (whole horizon).until xs
