-- Tags that say the same of both directions have the same steps in both.
use Rattle.std.proofs.Common.{◌≡◌, ◌↔◌, ◌++◌, ◌∙◌, ℕ, ℤ, zero, suc, Bool, true, false, List, [], ◌∷◌, Option, Some, None}
use Rattle.std.proofs.Common.{refl, sym, ap, subst, inl, inr, ◌&&◌, ◌==◌, if◌then◌else◌, length}
use Rattle.std.specs.Prelude.{⊤}
use Rattle.gtd_rows.specs.declared.direction.Direction.{Direction}
use Rattle.gtd_rows.specs.declared.direction.Direction.TheVariants.{Positive, Negative}
use Rattle.gtd_rows.specs.declared.vehicles.Vehicles.{Vehicles}
use Rattle.gtd_conditional_means.specs.declared.meaning.MeansRow.{MeansRow}
use Rattle.gtd_conditional_parts.specs.declared.said.Subject.{Subject}
use Rattle.gtd_conditional_parts.specs.declared.value.Part.{Part}
use Rattle.gtd_conditional_rows.specs.declared.step.Step.{Step}
use Rattle.gtd_conditional_steps.specs.Closing.{IsClosedBy, IsClosedByTags}
use Rattle.gtd_conditional_steps.specs.Sayings.{Saying, is_of_key, mode_types, said_before, said_by, said_by_key, said_by_parts}
use Rattle.gtd_conditional_steps.specs.Sayings.{said_by_types, said_for, same_direction, same_flag}
use Rattle.gtd_conditional_steps.specs.Steps.{AreStepsOf}
use Rattle.gtd_conditional_steps.specs.TwoWay.{AreTwoWay, SaySame}
use Rattle.gtd_conditional_steps.specs.declared.tag.Tag.{Tag}

-- ---- what is said is the same

not-one : (direction : Direction) → same_direction None (Some direction) ≡ false
not-one Positive = refl
not-one Negative = refl

neither : (a b c : Bool) → b ≡ false → (a && b && c) ≡ false
neither true true c e = cc
neither true false c e = refl
neither false b c e = refl

not-of-key : (mode : ℕ) (direction : Direction) (conditional : Bool) (tag : Tag) → tag.direction ≡ None
    → is_of_key mode (Some direction) conditional tag ≡ false
not-of-key mode direction conditional tag none =
    neither (tag.mode == mode) (same_direction tag.direction (Some direction)) (same_flag tag.conditional conditional)
    (ap (λ (d : Option Direction). same_direction d (Some direction)) none ∙ not-one direction)

nothing : (b : Bool) (own later : List Saying) → b ≡ false → later ≡ [] → (if b then own else []) ++ later ≡ []
nothing true own later e none = cc
nothing false own later e none = none

-- no key of one direction says something
none-of-one : (types : Vehicles) (mode : ℕ) (direction : Direction) (conditional : Bool) (tags : List Tag) → AreTwoWay tags
    → said_by_key types mode (Some direction) conditional tags ≡ []
none-of-one types mode direction conditional [] are = refl
none-of-one types mode direction conditional (tag ∷ tags) are =
    nothing (is_of_key mode (Some direction) conditional tag) (said_by_parts types tag.value.parts.items)
    (said_by_key types mode (Some direction) conditional tags) (not-of-key mode direction conditional tag are.0)
    (none-of-one types mode direction conditional tags are.2)

for-same : (types : Vehicles) (mode : ℕ) (tags : List Tag) → AreTwoWay tags
    → said_for types mode Positive tags ≡ said_for types mode Negative tags
for-same types mode tags are =
    let one : (said_by_key types mode (Some Positive) false tags ++ said_by_key types mode (Some Positive) true tags) ≡ [] =
    rw (none-of-one types mode Positive false tags are, none-of-one types mode Positive true tags are) refl in
    let other : (said_by_key types mode (Some Negative) false tags ++ said_by_key types mode (Some Negative) true tags) ≡ [] =
    rw (none-of-one types mode Negative false tags are, none-of-one types mode Negative true tags are) refl in
    ap (λ (l : List Saying). (said_by_key types mode None false tags ++ said_by_key types mode None true tags) ++ l)
    (one ∙ sym other)

types-same : (types : Option Vehicles) (mode : ℕ) (tags : List Tag) → AreTwoWay tags
    → said_by_types types mode Positive tags ≡ said_by_types types mode Negative tags
types-same None mode tags are = refl
types-same (Some types) mode tags are = for-same types mode tags are

before-same : (mode : ℕ) (subject : Subject) (rows : List MeansRow) (tags : List Tag) → AreTwoWay tags
    → said_before mode subject rows Positive tags ≡ said_before mode subject rows Negative tags
before-same zero subject rows tags are = refl
before-same (suc mode) subject rows tags are =
    ap (λ (l : List Saying). l ++ said_by_types (mode_types subject rows mode) mode Positive tags)
    (before-same mode subject rows tags are)
    ∙ ap (λ (l : List Saying). said_before mode subject rows Negative tags ++ l)
    (types-same (mode_types subject rows mode) mode tags are)

pub said-same : (subject : Subject) (rows : List MeansRow) (tags : List Tag) → AreTwoWay tags
    → said_by subject rows Positive tags ≡ said_by subject rows Negative tags
said-same subject rows tags are = before-same (length rows) subject rows tags are

-- ---- each saying says the same of both directions

abbrev EachSame : List Saying → Type 0
EachSame [] = ⊤
EachSame (saying ∷ later) = (saying.part.said.positive ≡ saying.part.said.negative) × EachSame later

each-append : (a b : List Saying) → EachSame a → EachSame b → EachSame (a ++ b)
each-append [] b first second = second
each-append (saying ∷ a) b first second = (first.0, each-append a b first.1 second)

each-parts : (types : Vehicles) (parts : List Part) → SaySame parts → EachSame (said_by_parts types parts)
each-parts types [] same = tt
each-parts types (part ∷ parts) same = (same.0, each-parts types parts same.1)

each-if : (b : Bool) (own : List Saying) → EachSame own → EachSame (if b then own else [])
each-if true own same = same
each-if false own same = tt

each-key : (types : Vehicles) (mode : ℕ) (direction : Option Direction) (conditional : Bool) (tags : List Tag) → AreTwoWay tags
    → EachSame (said_by_key types mode direction conditional tags)
each-key types mode direction conditional [] are = tt
each-key types mode direction conditional (tag ∷ tags) are =
    each-append _ (said_by_key types mode direction conditional tags)
    (each-if (is_of_key mode direction conditional tag) (said_by_parts types tag.value.parts.items)
    (each-parts types tag.value.parts.items are.1))
    (each-key types mode direction conditional tags are.2)

each-types : (types : Option Vehicles) (mode : ℕ) (direction : Direction) (tags : List Tag) → AreTwoWay tags
    → EachSame (said_by_types types mode direction tags)
each-types None mode direction tags are = tt
each-types (Some types) mode direction tags are =
    each-append (said_by_key types mode None false tags ++ said_by_key types mode None true tags)
    (said_by_key types mode (Some direction) false tags ++ said_by_key types mode (Some direction) true tags)
    (each-append (said_by_key types mode None false tags) (said_by_key types mode None true tags)
    (each-key types mode None false tags are) (each-key types mode None true tags are))
    (each-append (said_by_key types mode (Some direction) false tags) (said_by_key types mode (Some direction) true tags)
    (each-key types mode (Some direction) false tags are) (each-key types mode (Some direction) true tags are))

each-before : (mode : ℕ) (subject : Subject) (rows : List MeansRow) (direction : Direction) (tags : List Tag) → AreTwoWay tags
    → EachSame (said_before mode subject rows direction tags)
each-before zero subject rows direction tags are = tt
each-before (suc mode) subject rows direction tags are =
    each-append (said_before mode subject rows direction tags)
    (said_by_types (mode_types subject rows mode) mode direction tags)
    (each-before mode subject rows direction tags are) (each-types (mode_types subject rows mode) mode direction tags are)

-- ---- so the steps of one direction are those of the other, and close the same

module _ (rows : List MeansRow) where
  other-steps : (sayings : List Saying) (steps : List Step) → EachSame sayings → AreStepsOf rows Positive sayings steps
      → AreStepsOf rows Negative sayings steps
  other-steps [] [] same are = tt
  other-steps [] (step ∷ steps) same are = absurd are
  other-steps (saying ∷ later) [] same are = absurd are
  other-steps (saying ∷ later) (step ∷ steps) same are = (
    record { access = are.0.access ∙ same.0; applies = are.0.applies },
    other-steps later steps same.1 are.1,
  )

  other-closed : (sayings : List Saying) (t : ℕ) (s : ℤ) → EachSame sayings
      → IsClosedBy rows Positive sayings t s ↔ IsClosedBy rows Negative sayings t s
  other-closed [] t s same = ((λ x. x), (λ x. x))
  other-closed (saying ∷ later) t s same =
      let more = other-closed later t s same.1 in (
        (λ x. elim x [ inl a ↦ inl (sym same.0 ∙ a.0, a.1, a.2) | inr b ↦ inr (more.0 b) ]),
        (λ x. elim x [ inl a ↦ inl (same.0 ∙ a.0, a.1, a.2) | inr b ↦ inr (more.1 b) ]),
      )

pub two-way-steps : (tags : List Tag) → AreTwoWay tags → (subject : Subject) (rows : List MeansRow) (steps : List Step)
    → AreStepsOf rows Positive (said_by subject rows Positive tags) steps
    → AreStepsOf rows Negative (said_by subject rows Negative tags) steps
two-way-steps tags are subject rows steps of =
    subst (λ (l : List Saying). AreStepsOf rows Negative l steps) (said-same subject rows tags are)
    (other-steps rows (said_by subject rows Positive tags) steps
    (each-before (length rows) subject rows Positive tags are) of)

pub two-way-closed : (tags : List Tag) → AreTwoWay tags → (subject : Subject) (rows : List MeansRow) (t : ℕ) (s : ℤ)
    → IsClosedByTags rows subject tags Positive t s ↔ IsClosedByTags rows subject tags Negative t s
two-way-closed tags are subject rows t s =
    subst
    (λ (l : List Saying). IsClosedBy rows Positive (said_by subject rows Positive tags) t s ↔ IsClosedBy rows Negative l t s)
    (said-same subject rows tags are)
    (other-closed rows (said_by subject rows Positive tags) t s (each-before (length rows) subject rows Positive tags are))
