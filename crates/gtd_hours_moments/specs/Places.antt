-- Texts of which each form has a place in another text.
use Rattle.std.specs.Prelude.{ℕ, ◌≡◌, ◌+◌, ◌==◌, List, [], ◌∷◌, ◌++◌, length, if◌then◌else◌}
use Rattle.gtd_hours_moments.specs.declared.placed.Placed.{Placed}
use Rattle.gtd_hours_moments.specs.declared.placed.PlacedText.{PlacedText}

-- What stands for that which is written at a place.
pub record Put : Type 0 where
  pub from : ℕ
  pub form : List ℕ

-- Each form with a space (32) behind it, which keeps it apart from the next.
abbrev pub text_of : List Put → List ℕ
text_of [] = []
text_of (p ∷ ps) = p.form ++ 32 ∷ text_of ps

-- Where they begin, from a place on.
abbrev pub places_from : ℕ → List Put → List Placed
places_from place [] = []
places_from place (p ∷ ps) = record { from = p.from; start = place } ∷ places_from (place + length p.form + 1) ps

-- The text has these forms.
pub record Holds (placed : PlacedText) (ps : List Put) : Type 0 where
  pub text : placed.text.items ≡ text_of ps
  pub places : placed.places.items ≡ places_from 0 ps

-- Where that is written for which the form at a place stands; another place is the end of the text.
abbrev pub written_place : ℕ → ℕ → List Placed → ℕ
written_place place end [] = end
written_place place end (p ∷ ps) = if p.start == place then p.from else written_place place end ps
