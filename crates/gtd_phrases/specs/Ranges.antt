-- The numbers of pieces.
use Rattle.std.specs.Prelude.{◌≡◌, ◌≤◌, ◌<◌, ◌^◌, ℕ, List, [], ◌∷◌, ⊤}
use Rattle.gtd_phrases.specs.Pieces.{figures_of}
use Rattle.gtd_phrases.specs.declared.phrase.Figures.{Figures}
use Rattle.gtd_phrases.specs.declared.phrase.Figures.TheVariants.{Nothing, Plain, Two, Four}
use Rattle.gtd_phrases.specs.declared.phrase.Piece.{Piece}

-- The number can be written so: in two digits it is below 100, in four below 10,000; where there is none, it is 0.
abbrev pub IsWritten : Figures → ℕ → Type 0
IsWritten Nothing n = n ≡ 0
IsWritten Plain n = n < 2 ^ 64
IsWritten Two n = n < 100
IsWritten Four n = n ≤ 9999

abbrev pub AreWritten : List Piece → Type 0
AreWritten [] = ⊤
AreWritten (piece ∷ pieces) = IsWritten (figures_of piece.phrase) piece.number × AreWritten pieces
