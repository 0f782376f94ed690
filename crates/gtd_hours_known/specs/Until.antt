-- Hours whose years without a last one, of which there are more than a domain holds, end with the last of the known years.
use Rattle.std.specs.Prelude.{◌≡◌, ℕ, Bool, false, if◌then◌else◌, max, nat_le, List, [], ◌∷◌, ◌++◌, drop, Option, Some, None}
use Rattle.gtd_hours.specs.Writable.{selectors}
use Rattle.gtd_hours.specs.declared.hours.Hours.{Hours}
use Rattle.gtd_hours.specs.declared.hours.Rule.{Rule}
use Rattle.gtd_hours.specs.declared.hours.Selector.{Selector}
use Rattle.gtd_hours.specs.declared.hours.Selector.TheVariants as selector
use Rattle.gtd_hours.specs.declared.hours.Years.{Years}
use Rattle.gtd_hours_holidays.specs.declared.known_years.KnownYears.{KnownYears}
use Rattle.gtd_hours_known.specs.facts.UntilFacts.{until_in_range}

-- The same years up to the last of the known ones, which is not before the first of them.
abbrev pub up_to : KnownYears → Years → Years
up_to known x = record {
  first = x.first;
  last = max x.first known.last;
  step = x.step;
  in_range = until_in_range known x;
}

-- Nothing is left of those that begin after the known years.
abbrev pub years_until : KnownYears → Years → List Selector
years_until known x = if nat_le x.first known.last then selector.Years (up_to known x) ∷ [] else []

abbrev pub selector_until : KnownYears → Selector → List Selector
selector_until known (selector.Years x) = years_until known x
selector_until known x = x ∷ []

-- A selector with this mark has no last year; one without it stays as it is.
abbrev pub until : KnownYears → Bool → Selector → List Selector
until known mark x = if mark then selector_until known x else x ∷ []

-- the first mark; without one there is none
abbrev pub first_mark : List Bool → Bool
first_mark [] = false
first_mark (mark ∷ marks) = mark

-- the selectors of a kind, with these marks
abbrev pub all_until : KnownYears → List Bool → List Selector → List Selector
all_until known marks [] = []
all_until known marks (x ∷ xs) = until known (first_mark marks) x ++ all_until known (drop 1 marks) xs

-- The first kind of a rule has its years, which have these marks. It may be left without a selector, so that it holds on no day.
abbrev pub kinds_until : KnownYears → List Bool → List (List Selector) → List (List Selector)
kinds_until known marks [] = []
kinds_until known marks (kind ∷ kinds) = all_until known marks kind ∷ kinds

pub record IsRuleUntil (known : KnownYears) (marks : List Bool) (plain made : Rule) : Type 0 where
  pub kinds : selectors made.kinds.items ≡ kinds_until known marks (selectors plain.kinds.items)
  pub times : made.times ≡ plain.times
  pub modifier : made.modifier ≡ plain.modifier
  pub link : made.link ≡ plain.link

-- so each of the rules, in their order
abbrev pub AreRulesUntil : KnownYears → List Bool → List Rule → List Rule → Type 0
AreRulesUntil known marks [] [] = Unit {0}
AreRulesUntil known marks (p ∷ plain) (m ∷ made) = IsRuleUntil known marks p m × AreRulesUntil known marks plain made
AreRulesUntil known marks plain made = ⊥

-- Hours with such years, the first of which have a place, end with the known years; others stay as they are.
abbrev pub AreHoursUntil : Option KnownYears → Option ℕ → List Bool → Hours → Hours → Type 0
AreHoursUntil years None marks plain hours = hours ≡ plain
AreHoursUntil years (Some place) marks plain hours =
    (known : KnownYears) × (years ≡ Some known) × AreRulesUntil known marks plain.rules.items hours.rules.items
