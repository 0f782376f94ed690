-- The hours of terms.
use Rattle.std.specs.Prelude.{ℕ, ℤ, ◌+◌, ◌<◌, ◌⊎◌, List, [], ◌∷◌, ⊤}
use Rattle.gtd_core.specs.Limits.{most_basic_domains}
use Rattle.gtd_hours.specs.Cost.{hours_cost}
use Rattle.gtd_hours.specs.Opening.{IsOpen}
use Rattle.gtd_conditional_means.specs.declared.meaning.MeansRow.{MeansRow}
use Rattle.gtd_conditional_means.specs.declared.meaning.MeansKind.TheVariants.{Condition}
use Rattle.gtd_conditional_means.specs.Meanings.{types_of}
use Rattle.gtd_conditional_values.specs.declared.term.Term.{Term}
use Rattle.gtd_conditional_values.specs.declared.term.Term.TheVariants as term
use Rattle.gtd_conditional_parts.specs.declared.value.Part.{Part}
use Rattle.gtd_conditional_steps.specs.Closing.{IsAmong}
use Rattle.gtd_conditional_steps.specs.declared.tag.Tag.{Tag}

-- ---- how many basic domains they have

abbrev pub term_cost : Term → ℕ
term_cost (term.Named name) = 0
term_cost (term.Hours given) = hours_cost given.hours

abbrev pub terms_cost : List Term → ℕ
terms_cost [] = 0
terms_cost (term ∷ terms) = term_cost term + terms_cost terms

-- the hours of some part need more than a domain may have
abbrev pub PartsNeedTooMany : List Part → Type 0
PartsNeedTooMany [] = ⊥
PartsNeedTooMany (part ∷ parts) = (most_basic_domains < terms_cost part.terms.items) ⊎ PartsNeedTooMany parts

abbrev pub NeedTooMany : List Tag → Type 0
NeedTooMany [] = ⊥
NeedTooMany (tag ∷ tags) = PartsNeedTooMany tag.value.parts.items ⊎ NeedTooMany tags

-- ---- what terms say of types, and of seconds

module _ (rows : List MeansRow) where
  abbrev pub HoldsFor : Term → ℕ → Type 0
  HoldsFor (term.Named name) t = IsAmong (types_of Condition name.items rows) t
  HoldsFor (term.Hours given) t = ⊤

  abbrev pub EachHoldsFor : List Term → ℕ → Type 0
  EachHoldsFor [] t = ⊤
  EachHoldsFor (term ∷ terms) t = HoldsFor term t × EachHoldsFor terms t

abbrev pub HoldsAt : Term → ℤ → Type 0
HoldsAt (term.Named name) s = ⊤
HoldsAt (term.Hours given) s = IsOpen given.hours s

abbrev pub EachHoldsAt : List Term → ℤ → Type 0
EachHoldsAt [] s = ⊤
EachHoldsAt (term ∷ terms) s = HoldsAt term s × EachHoldsAt terms s
