-- When tags close an element.
use Rattle.std.specs.Prelude.{◌≡◌, ◌⊎◌, ⊤, ℕ, ℤ, List, [], ◌∷◌, Option, Some, None}
use Rattle.gtd_hours.specs.Opening.{IsOpen}
use Rattle.gtd_rows.specs.Serving.{Serves}
use Rattle.gtd_rows.specs.declared.direction.Direction.{Direction}
use Rattle.gtd_rows.specs.declared.vehicles.Vehicles.{Vehicles}
use Rattle.gtd_conditional_means.specs.Meanings.{types_of}
use Rattle.gtd_conditional_means.specs.declared.meaning.Access.TheVariants.{Closed}
use Rattle.gtd_conditional_means.specs.declared.meaning.MeansKind.TheVariants.{Condition}
use Rattle.gtd_conditional_means.specs.declared.meaning.MeansRow.{MeansRow}
use Rattle.gtd_conditional_values.specs.declared.term.Term.{Term}
use Rattle.gtd_conditional_values.specs.declared.term.Term.TheVariants as term
use Rattle.gtd_conditional_parts.specs.Names.{access_in}
use Rattle.gtd_conditional_parts.specs.declared.said.Subject.{Subject}
use Rattle.gtd_conditional_steps.specs.Sayings.{Saying, said_by}
use Rattle.gtd_conditional_steps.specs.declared.tag.Tag.{Tag}

-- the type is one of these, if there are any
abbrev pub IsAmong : Option Vehicles → ℕ → Type 0
IsAmong None t = ⊥
IsAmong (Some types) t = Serves types t

module _ (rows : List MeansRow) where
  -- a condition holds for the vehicle types of the table, and hours at the seconds at which they are open
  abbrev pub Holds : Term → ℕ → ℤ → Type 0
  Holds (term.Named name) t s = IsAmong (types_of Condition name.items rows) t
  Holds (term.Hours given) t s = IsOpen given.hours s

  abbrev pub EachHolds : List Term → ℕ → ℤ → Type 0
  EachHolds [] t s = ⊤
  EachHolds (term ∷ terms) t s = Holds term t s × EachHolds terms t s

  -- the mode has the type, and all terms hold
  abbrev pub SayingApplies : Saying → ℕ → ℤ → Type 0
  SayingApplies saying t s = Serves saying.types t × EachHolds saying.part.terms.items t s

  abbrev pub NoSayingApplies : List Saying → ℕ → ℤ → Type 0
  NoSayingApplies [] t s = ⊤
  NoSayingApplies (saying ∷ later) t s = (SayingApplies saying t s → ⊥) × NoSayingApplies later t s

  -- The direction is closed for the vehicle type at the second: the last saying that applies then closes it. It is open if none
  -- applies.
  abbrev pub IsClosedBy : Direction → List Saying → ℕ → ℤ → Type 0
  IsClosedBy direction [] t s = ⊥
  IsClosedBy direction (saying ∷ later) t s =
      ((access_in saying.part.said direction ≡ Closed) × SayingApplies saying t s × NoSayingApplies later t s)
      ⊎ IsClosedBy direction later t s

  -- what the tags say of the subject closes the direction
  abbrev pub IsClosedByTags : Subject → List Tag → Direction → ℕ → ℤ → Type 0
  IsClosedByTags subject tags direction t s = IsClosedBy direction (said_by subject rows direction tags) t s
