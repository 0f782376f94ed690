-- The numbers that calls answer, and what they mean.
use Rattle.std.specs.Prelude.{◌≡◌, ◌↔◌, ◌≤◌, ℕ, ℤ, Bool, true, false, pos, ◌*ℤ◌}
use Rattle.gtd_core.specs.Limits.{day_seconds}
use Rattle.gtd_rows.specs.declared.direction.Direction.{Direction}
use Rattle.gtd_rows.specs.declared.direction.Direction.TheVariants.{Positive, Negative}

-- no, none, or at fault
abbrev pub gtd_no : ℕ
gtd_no = 0

-- yes, found, or done
abbrev pub gtd_yes : ℕ
gtd_yes = 1

-- a number is out of its range
abbrev pub gtd_range : ℕ
gtd_range = 2

-- the handle is empty, or of another kind
abbrev pub gtd_kind : ℕ
gtd_kind = 3

-- memory was refused
abbrev pub gtd_memory : ℕ
gtd_memory = 4

-- a start of the domain gives a year
abbrev pub gtd_year : ℕ
gtd_year = 5

-- there is too little room
abbrev pub gtd_short : ℕ
gtd_short = 6

-- the direction that a truth value names
abbrev pub direction_of : Bool → Direction
direction_of true = Negative
direction_of false = Positive

-- the first second of a day
abbrev pub day_begin : ℤ → ℤ
day_begin day = day *ℤ pos day_seconds

-- The range is answered exactly if the numbers are out of theirs.
abbrev pub IsRange : Type 0 → ℕ → Type 0
IsRange in_range answer = (answer ≡ gtd_range) ↔ (in_range → ⊥)

-- Whether a fact holds: yes exactly if it does, and else no, of numbers in their range.
abbrev pub IsWhether : Type 0 → Type 0 → ℕ → Type 0
IsWhether in_range fact answer =
    (in_range → (answer ≤ gtd_yes) × ((answer ≡ gtd_yes) ↔ fact)) × IsRange in_range answer
