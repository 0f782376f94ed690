-- Expressions whose basic domains with a date are fixed as they are for some time.
use Rattle.std.specs.Prelude.{ℕ, ◌+◌, ℤ, ◌≤ℤ◌, ◌<ℤ◌, Bool, Option, None, Some, IfSome, IsTrue}
use Rattle.gtd_core.specs.Parts.{domain_tree}
use Rattle.gtd_core.specs.Trees.{Tree, Joined}
use Rattle.gtd_spans.specs.Normal.{Combined}
use Rattle.gtd_eval.specs.Membership.{InDomain}
use Rattle.gtd_recur.specs.Periods.{period_seconds}
use Rattle.gtd_recur.specs.declared.period.Period.{Period}
use Rattle.gtd_difference.specs.Dates.{IsKnown, IsKnownDated, InFixedDate}
use Rattle.gtd_difference.specs.declared.states.ExprStates.{ExprStates}
use Rattle.gtd_difference.specs.declared.states.ExprStates.TheVariants.{Basic, Dated, Join'}

-- each basic domain of an expression is known to be as it is said for some time
abbrev pub AreKnown : ℤ → ExprStates → Type 0
AreKnown last (Basic state) = IsKnown last state
AreKnown last (Dated state) = IsKnownDated last state
AreKnown last (Join' op p left right) = AreKnown last left × AreKnown last right

-- the tree of the expression
abbrev pub states_tree : ExprStates → Tree
states_tree (Basic state) = domain_tree state.domain
states_tree (Dated state) = domain_tree state.own.domain
states_tree (Join' op p left right) = Joined op (states_tree left) (states_tree right)

-- what repeats after a period, or else whether it is fixed to hold
abbrev pub Fixed : Option Period → Bool → Type 0 → Type 0
Fixed (Some x) holds repeating = repeating
Fixed None holds repeating = IsTrue holds

-- the second is in the expression in which the basic domains with a date hold at all seconds, or at none
abbrev pub InFixed : ExprStates → ℤ → Type 0
InFixed (Basic state) t = Fixed state.period state.holds (InDomain state.domain t)
InFixed (Dated state) t = InFixedDate state t
InFixed (Join' op p left right) t = Combined op (InFixed left t) (InFixed right t)

-- the periods of the basic domains are not longer than w seconds
abbrev pub HaveShortPeriods : ℤ → ExprStates → Type 0
HaveShortPeriods w (Basic state) = IfSome state.period (λ x. period_seconds x ≤ℤ w)
HaveShortPeriods w (Dated state) = period_seconds state.period ≤ℤ w
HaveShortPeriods w (Join' op p left right) = HaveShortPeriods w left × HaveShortPeriods w right

-- no second from `from` on and before `until` is in the set
abbrev pub HasNone : (ℤ → Type 0) → ℤ → ℤ → Type 0
HasNone set from until = (t : ℤ) → from ≤ℤ t → t <ℤ until → set t → ⊥

-- how many parts the states have
abbrev pub states_size : ExprStates → ℕ
states_size (Basic state) = 1
states_size (Dated state) = 1
states_size (Join' op p left right) = 1 + states_size left + states_size right
