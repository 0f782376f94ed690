-- Which plain hours rules are.
use Rattle.std.specs.Prelude.{◌≡◌, ◌↔◌, ℕ, List, [], ◌∷◌, ◌++◌, ℤ, Option, Some, None}
use Rattle.gtd_hours.specs.Opening as plain
use Rattle.gtd_hours.specs.declared.hours.Kind.{Kind}
use Rattle.gtd_hours.specs.declared.hours.Link.{Link}
use Rattle.gtd_hours.specs.declared.hours.Link.TheVariants as plain_link
use Rattle.gtd_hours.specs.declared.hours.Modifier.{Modifier}
use Rattle.gtd_hours.specs.declared.hours.Modifier.TheVariants as modifier
use Rattle.gtd_hours.specs.declared.hours.Rule.{Rule as PlainRule}
use Rattle.gtd_hours2.specs.Opening.{Clocks, Given, Matches}
use Rattle.gtd_hours2.specs.Rules.{Rule, says}
use Rattle.gtd_hours2.specs.declared.values.HolidayKind.{HolidayKind}
use Rattle.gtd_hours2.specs.declared.values.RuleLink.{RuleLink}
use Rattle.gtd_hours2.specs.declared.values.RuleLink.TheVariants as link
use Rattle.gtd_hours2.specs.declared.values.RuleWord.{RuleWord}
use Rattle.gtd_hours2.specs.declared.values.RuleWord.TheVariants as word
use Rattle.gtd_hours_plain2.specs.Times.{AreTimes}

abbrev pub link_of : RuleLink → Link
link_of link.Instead = plain_link.Instead
link_of link.Also = plain_link.Also
link_of link.Fallback = plain_link.Fallback

-- what a rule says of its spans, if it says something
abbrev pub modifier_of : RuleWord → Option Modifier
modifier_of word.Open = Some modifier.Open
modifier_of word.Off = Some modifier.Closed
modifier_of word.Unknown = None

-- What is given: the holidays of a table, the known years, and times.
abbrev pub given_of : (HolidayKind → ℤ → Type 0) → Option (ℕ × ℕ) → Clocks → Given
given_of holiday years clocks = record { holiday = holiday; years = years; clocks = clocks }

-- Kinds of plain selectors match on the days of a rule.
abbrev pub HasKinds : Given → Rule → List Kind → Type 0
HasKinds g rule kinds = (n : ℤ) → Matches g rule n ↔ plain.Matches kinds n

-- A plain rule that says this of the same spans as a rule.
pub record IsLowered (g : Given) (rule : Rule) (m : Modifier) (made : PlainRule) : Type 0 where
  pub link : made.link ≡ link_of rule.head.link
  pub modifier : made.modifier ≡ m
  pub kinds : HasKinds g rule made.kinds.items
  pub times : AreTimes g.clocks rule.parts made.times.items

-- a rule that says nothing leaves nothing
abbrev pub AreLoweredBy : Given → Option Modifier → Rule → List PlainRule → (List PlainRule → Type 0) → Type 0
AreLoweredBy g None rule made Rest = Rest made
AreLoweredBy g (Some m) rule [] Rest = ⊥
AreLoweredBy g (Some m) rule (x ∷ made) Rest = IsLowered g rule m x × Rest made

-- the plain rules of rules, in their order
abbrev pub AreLowered : Given → List Rule → List PlainRule → Type 0
AreLowered g [] made = made ≡ []
AreLowered g (rule ∷ rules) made = AreLoweredBy g (modifier_of (says rule)) rule made (AreLowered g rules)

-- ---- as the code goes

-- with what a rule leaves
abbrev pub IsWithRule : Given → Option Modifier → Rule → List PlainRule → List PlainRule → Type 0
IsWithRule g None rule old new = new ≡ old
IsWithRule g (Some m) rule old new = (x : PlainRule) × IsLowered g rule m x × (new ≡ old ++ x ∷ [])
