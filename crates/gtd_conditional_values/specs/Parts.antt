-- The parts of a value.
use Rattle.std.specs.Prelude.{◌≡◌, ℕ, Bool, ◌&&◌, false, if◌then◌else◌, List, [], ◌∷◌, ◌++◌, ◌+◌, ◌==◌, length, None}
use Rattle.gtd_conditional_values.specs.Nesting.{is_free, nested, quoted, unnested}

-- a `;` at which nothing is open
abbrev pub is_separator : Bool → ℕ → ℕ → Bool
is_separator comment depth byte = is_free comment depth && byte == 59

-- How many bytes a text has before the first `;` at which nothing is open: all, if there is none.
abbrev pub part_length : Bool → ℕ → List ℕ → ℕ
part_length comment depth [] = 0
part_length comment depth (byte ∷ text) =
    if is_separator comment depth byte then 0
    else part_length (quoted comment byte) (nested comment depth byte) text + 1

-- Nothing in the part stands open, and no `;` in it separates.
pub record IsPart (part : List ℕ) : Type 0 where
  pub nests : unnested false 0 part ≡ None
  pub whole : part_length false 0 part ≡ length part

-- The value is these parts, one at least, with `;` between them.
abbrev pub AreParts : List ℕ → List (List ℕ) → Type 0
AreParts value [] = ⊥
AreParts value (part ∷ []) = IsPart part × (value ≡ part)
AreParts value (part ∷ next ∷ parts) =
    (rest : List ℕ) × IsPart part × (value ≡ part ++ 59 ∷ rest) × AreParts rest (next ∷ parts)
