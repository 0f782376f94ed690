-- When elements of a file are open at the same seconds.
use Rattle.std.specs.Prelude.{◌≡◌, ◌<◌, ◌≤◌, ◌↔◌, ℕ, ℤ, List, length, get_or}
use Rattle.gtd_records.specs.Closing.{IsOpen, Restriction}
use Rattle.gtd_rows.specs.declared.direction.DirectedElement.{DirectedElement}
use Rattle.gtd_rows.specs.declared.direction.Direction.TheVariants.{Positive}

-- one of them, by how many are before it; past their end an element that says nothing
abbrev pub asked_at : List DirectedElement → ℕ → DirectedElement
asked_at asked at = get_or asked at (record { element = 0; direction = Positive })

module _ (found : List Restriction) (vehicle : ℕ) where
  -- an element in a direction is open at exactly those seconds at which another is
  abbrev pub AreOpenAlike : DirectedElement → DirectedElement → Type 0
  AreOpenAlike one other =
      (t : ℤ) → IsOpen found one.element one.direction vehicle t ↔ IsOpen found other.element other.direction vehicle t

  -- for each of them one that is open at the same seconds: an earlier one, or itself
  pub record AreFirstAlike (asked : List DirectedElement) (firsts : List ℕ) : Type 0 where
    pub many : length firsts ≡ length asked
    pub not_later : (at : ℕ) → at < length asked → get_or firsts at 0 ≤ at
    pub alike : (at : ℕ) → at < length asked → AreOpenAlike (asked_at asked (get_or firsts at 0)) (asked_at asked at)
