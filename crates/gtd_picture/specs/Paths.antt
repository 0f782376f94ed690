-- How SVG reads the text of a path that outlines rectangles.
use Rattle.std.specs.Prelude.{◌≡◌, ◌≢◌, ◌++◌, ℕ, List, [], ◌∷◌, codes}
use Rattle.std.specs.Str.Parse.{IsNumeral, digits_value}
use Rattle.gtd_picture.specs.Picture.{Rect}

-- the digits write the number in decimal
abbrev pub Write : List ℕ → ℕ → Type 0
Write digits n = IsNumeral 10 digits × (digits_value 10 digits ≡ n)

-- SVG reads the piece as the outline of the rectangle: M moves to where its first second begins, h1 draws one unit to the right,
-- v as many units down as the number behind it, h-1 one unit to the left, and z back to the beginning.
pub record IsOutline (piece : List ℕ) (r : Rect) : Type 0 where
  pub x : List ℕ
  pub y : List ℕ
  pub height : List ℕ
  pub column : Write x r.x
  pub first : Write y r.y
  pub seconds : Write height r.height
  pub whole : piece ≡ codes "M" ++ x ++ codes " " ++ y ++ codes "h1v" ++ height ++ codes "h-1z"

-- SVG reads the text as the outlines of the rectangles, one after the other
abbrev pub IsPathOf : List ℕ → List Rect → Type 0
IsPathOf text [] = text ≡ []
IsPathOf text (r ∷ rects) =
    (piece : List ℕ) × (others : List ℕ) × IsOutline piece r × IsPathOf others rects × (text ≡ piece ++ others)

-- the text has no quote, so that an attribute in quotes holds all of it
abbrev pub HasNoQuote : List ℕ → Type 0
HasNoQuote [] = Unit {0}
HasNoQuote (c ∷ rest) = (c ≢ 39) × HasNoQuote rest
