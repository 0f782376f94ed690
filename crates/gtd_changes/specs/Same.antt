-- Which elements are open at the same seconds by two files, since their rows are the same in both.
use Rattle.std.specs.Prelude.{◌≡◌, ◌<◌, ◌⊎◌, ◌↔◌, ℕ, ℤ, List, [], ◌∷◌, length, Option, Some, None, slice_index_or}
use Rattle.std.specs.List.{Contains}
use Rattle.gtd_records.specs.Closing.{IsOpen, Restriction}
use Rattle.gtd_rows.specs.declared.direction.Direction.{Direction}
use Rattle.gtd_changes.specs.declared.rows.Meeting.{Meeting}
use Rattle.gtd_changes.specs.declared.rows.Meeting.TheVariants.{Same, Old, New}

module _ (old new : List Restriction) where
  -- The element is open at the same seconds by both.
  abbrev pub IsAlike : ℕ → Type 0
  IsAlike element = (direction : Direction) (vehicle : ℕ) (second : ℤ)
      → IsOpen old element direction vehicle second ↔ IsOpen new element direction vehicle second

  -- So is each element, but for those that are listed.
  abbrev pub AreAlikeBut : List ℕ → Type 0
  AreAlikeBut elements = (element : ℕ) → (Contains elements element → ⊥) → IsAlike element

  -- Each row of the one stands in the other, or its element is listed.
  abbrev pub AreFound : List ℕ → Type 0
  AreFound elements = (r : Restriction) → Contains old r → Contains elements r.element ⊎ Contains new r

-- The row at the place, if there is one.
abbrev pub IsRowAt : List Restriction → ℕ → Restriction → Type 0
IsRowAt rows place r = (place < length rows) × (slice_index_or rows place r ≡ r)

-- how many rows of the old file are then done with, and how many of the new one
abbrev pub old_rows : Meeting → ℕ
old_rows Same = 1
old_rows (Old element) = 1
old_rows (New element) = 0

abbrev pub new_rows : Meeting → ℕ
new_rows Same = 1
new_rows (Old element) = 0
new_rows (New element) = 1

-- the element that is then listed
abbrev pub element_of : Meeting → List ℕ
element_of Same = []
element_of (Old element) = element ∷ []
element_of (New element) = element ∷ []

-- What two rows say that come next, of which there may be none: they are the same, or the element of one of them.
abbrev pub Meets : Option Restriction → Option Restriction → Option Meeting → Type 0
Meets one two (Some Same) = (r : Restriction) × (one ≡ Some r) × (two ≡ Some r)
Meets one two (Some (Old element)) = (r : Restriction) × (one ≡ Some r) × (r.element ≡ element)
Meets one two (Some (New element)) = (r : Restriction) × (two ≡ Some r) × (r.element ≡ element)
Meets one two None = (one ≡ None) × (two ≡ None)
