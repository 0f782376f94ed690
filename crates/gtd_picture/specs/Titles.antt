-- What the title of a picture holds.
use Rattle.std.specs.Prelude.{◌≡◌, ◌++◌, ℕ, List, ◌∷◌, codes, flat_map}
use Rattle.gtd_picture.specs.Picture.{opening_text}
use Rattle.gtd_picture.specs.Reading.{IsReadAs}
use Rattle.gtd_picture.specs.Words.{shown_byte}

-- The element `title` of the whole picture holds the words: XML reads its text as the words as people see them. The text stands
-- between `<title>`, which `opening_text` ends with, and `</title>`.
pub record IsTitled (lines : List (List ℕ)) (words : List ℕ) : Type 0 where
  pub text : List ℕ
  pub read : IsReadAs text (flat_map shown_byte words)
  pub rest : List ℕ
  pub others : List (List ℕ)
  pub whole : lines ≡ (opening_text ++ text ++ codes "</title>" ++ rest) ∷ others
