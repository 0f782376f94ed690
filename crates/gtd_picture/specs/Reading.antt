-- How XML reads a text, as characters of printable ASCII.
use Rattle.std.specs.Prelude.{◌≡◌, ◌≢◌, ◌≤◌, ◌⊎◌, ◌++◌, ℕ, List, [], ◌∷◌, codes}

-- XML reads the piece as the character: the character itself, if XML gives it no meaning, or the name of one of three
abbrev pub IsPiece : List ℕ → ℕ → Type 0
IsPiece piece c =
    ((piece ≡ c ∷ []) × (32 ≤ c) × (c ≤ 126) × (c ≢ 38) × (c ≢ 60) × (c ≢ 62))
    ⊎ ((piece ≡ codes "&amp;") × (c ≡ 38))
    ⊎ ((piece ≡ codes "&lt;") × (c ≡ 60))
    ⊎ ((piece ≡ codes "&gt;") × (c ≡ 62))

-- XML reads the text as the characters
abbrev pub IsReadAs : List ℕ → List ℕ → Type 0
IsReadAs text [] = text ≡ []
IsReadAs text (c ∷ rest) =
    (piece : List ℕ) × (others : List ℕ) × IsPiece piece c × IsReadAs others rest × (text ≡ piece ++ others)
