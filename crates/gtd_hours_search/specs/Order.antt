-- Kinds of selectors in the order in which they are written.
use Rattle.std.specs.Prelude.{ℕ, ◌<◌, ◌==◌, ◌&&◌, Bool, true, List, [], ◌∷◌, if◌then◌else◌, nat_lt}
use Rattle.gtd_hours.specs.declared.hours.Kind.{Kind}
use Rattle.gtd_hours.specs.declared.hours.Selector.{Selector}
use Rattle.gtd_hours.specs.declared.hours.Selector.TheVariants as selector

-- The place of a selector in a rule: years, month days, weeks, weekdays. One that cannot be written has none.
abbrev pub place_of : Selector → ℕ
place_of (selector.Years x) = 1
place_of (selector.Months x) = 2
place_of (selector.Dates x) = 2
place_of (selector.Dated x) = 2
place_of (selector.Weeks x) = 3
place_of (selector.Weekdays x) = 4
place_of (selector.Nth x) = 4
place_of (selector.NthBack x) = 4
place_of (selector.Moved x) = if nat_lt 0 x.days then 4 else 0
place_of (selector.Moving x) = 0
place_of (selector.Yearly x) = 0

abbrev pub have_place : ℕ → List Selector → Bool
have_place place [] = true
have_place place (x ∷ xs) = place_of x == place && have_place place xs

-- the place that all of some selectors have, or 0 if there is none
abbrev pub kind_place : List Selector → ℕ
kind_place [] = 0
kind_place (x ∷ xs) = if have_place (place_of x) xs then place_of x else 0

-- The kinds have ascending places, behind this one.
abbrev pub InOrder : ℕ → List Kind → Type 0
InOrder place [] = Unit {0}
InOrder place (kind ∷ kinds) = (place < kind_place kind.selectors.items) × InOrder (kind_place kind.selectors.items) kinds
