-- Tags in the order of their modes.
use Rattle.std.specs.Prelude.{◌≡◌, ℕ, Bool, ◌==◌, nat_lt, if◌then◌else◌, List, [], ◌∷◌, Option}
use Rattle.gtd_rows.specs.declared.direction.Direction.{Direction}
use Rattle.gtd_rows.specs.declared.vehicles.Vehicles.{Vehicles}
use Rattle.gtd_conditional_steps.specs.Sayings.{said_by_key}
use Rattle.gtd_conditional_steps.specs.declared.tag.Tag.{Tag}

-- the tags of each key say the same, in the same order
abbrev pub KeysSayTheSame : List Tag → List Tag → Type 0
KeysSayTheSame one other = (types : Vehicles) (mode : ℕ) (direction : Option Direction) (conditional : Bool)
    → said_by_key types mode direction conditional one ≡ said_by_key types mode direction conditional other

-- the mode of the first tag, if it comes before the end; otherwise the end
abbrev pub next_mode : ℕ → List Tag → ℕ
next_mode end [] = end
next_mode end (tag ∷ tags) = if nat_lt tag.mode end then tag.mode else end

-- the tag is of the mode
abbrev pub is_of_mode : ℕ → Tag → Bool
is_of_mode mode tag = tag.mode == mode
