-- When the rows of a file's elements close an element.
use Rattle.std.specs.Prelude.{◌≡◌, ◌⊎◌, ℕ, ℤ, List, [], ◌∷◌}
use Rattle.gtd_rows.specs.Serving.{ClosesDirection}
use Rattle.gtd_rows.specs.declared.direction.Direction.{Direction}
use Rattle.gtd_conditional_means.specs.declared.meaning.MeansRow.{MeansRow}
use Rattle.gtd_conditional_parts.specs.declared.said.Subject.TheVariants.{Access, Oneway}
use Rattle.gtd_conditional_rows.specs.Times.{InTimes}
use Rattle.gtd_conditional_rows.specs.Timing.{domain_times}
use Rattle.gtd_conditional_rows.specs.Types.{HasType}
use Rattle.gtd_conditional_steps.specs.Closing.{IsClosedByTags}
use Rattle.gtd_conditional_tags.specs.Groups.{items_of}
use Rattle.gtd_conditional_tags.specs.declared.groups.ElementItem.{ElementItem}
use Rattle.gtd_conditional_elements.specs.Elements.{tags_of}
use Rattle.gtd_conditional_elements.specs.declared.found.ElementRow.{ElementRow}
use Rattle.gtd_conditional_elements.specs.declared.tag.ReadTag.{ReadTag}

-- the row closes the element in the direction for the vehicle type at the second
pub record RowCloses (element : ℕ) (direction : Direction) (t : ℕ) (s : ℤ) (row : ElementRow) : Type 0 where
  pub names : row.element ≡ element
  pub closes : ClosesDirection row.row.closed direction
  pub has : HasType row.row.types t
  pub holds : InTimes (domain_times row.row.domain) s

-- some row does
abbrev pub SomeCloses : ℕ → Direction → ℕ → ℤ → List ElementRow → Type 0
SomeCloses element direction t s [] = ⊥
SomeCloses element direction t s (row ∷ rows) = RowCloses element direction t s row ⊎ SomeCloses element direction t s rows

-- The tags of the element among these do, by what they say of access or of one-way traffic.
abbrev pub TagsClose : List MeansRow → ℕ → Direction → ℕ → ℤ → List (ElementItem ReadTag) → Type 0
TagsClose means element direction t s sound =
    IsClosedByTags means Access (tags_of (items_of element sound)) direction t s
    ⊎ IsClosedByTags means Oneway (tags_of (items_of element sound)) direction t s
