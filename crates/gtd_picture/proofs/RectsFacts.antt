-- The rectangles of a day, as they are written.
use Rattle.std.proofs.Common.{◌≡◌, ◌∙◌, sym, ap, refl, ℕ}
use Rattle.std.proofs.Common.{List, [], ◌∷◌, ◌++◌, map, append_assoc}
use Rattle.std.specs.Prelude.{ℤ, pos, ◌*ℤ◌, flat_map}
use Rattle.std.proofs.lemmas.List.{append-nil}
use Rattle.gtd_core.specs.Seconds.{Interval}
use Rattle.gtd_spans.specs.Normal.{Holds}
use Rattle.gtd_spans.specs.Counting.{part_within}
use Rattle.gtd_picture.specs.Picture.{IsColumn, Rect, rect_of, rect_text}
use Rattle.gtd_picture.proofs.ColumnFacts.{column_of, held_column, stretch_of}

-- the text of the rectangles of spans
abbrev pub spans_text : ℕ → ℤ → List Interval → List ℕ
spans_text place midnight xs = flat_map rect_text (map (rect_of place midnight) xs)

-- one rectangle more
pub rects_more : (place : ℕ) (midnight : ℤ) (stretch part : Interval) (now new : List Interval) (all line more : List ℕ) (r :
    Rect)
    → all ≡ line ++ spans_text place midnight (part_within stretch now) → part_within stretch now ≡ part ∷ part_within stretch new
    → r ≡ rect_of place midnight part → more ≡ line ++ rect_text r → all ≡ more
    ++ spans_text place midnight (part_within stretch new)
rects_more place midnight stretch part now new all line more r e takes is made =
    e
    ∙ ap (λ (xs : List Interval). line ++ spans_text place midnight xs) takes
    ∙ sym (append_assoc line (rect_text (rect_of place midnight part)) (spans_text place midnight (part_within stretch new)))
    ∙ ap (λ (l : List ℕ). l ++ spans_text place midnight (part_within stretch new)) (sym (made ∙ ap (λ (q : Rect). line
    ++ rect_text q) is))

-- all rectangles of the day
pub rects_done : (place : ℕ) (day midnight : ℤ) (stretch : Interval) (all now : List Interval) (first line : List ℕ)
    → stretch ≡ stretch_of day → midnight ≡ day *ℤ pos 86400
    → first ++ spans_text place midnight (part_within stretch all) ≡ line ++ spans_text place midnight (part_within stretch now)
    → part_within stretch now ≡ [] → (column : List Rect) × IsColumn (Holds all) day place column × (line ≡ first
    ++ flat_map rect_text column)
rects_done place day midnight stretch all now first line is at e none = (
  column_of day place all,
  held_column all day place,
  sym (append-nil line) ∙ ap (λ (xs : List Interval). line ++ spans_text place midnight xs) (sym none) ∙ sym e
      ∙ ap (λ (m : ℤ). first ++ spans_text place m (part_within stretch all)) at
      ∙ ap (λ (s : Interval). first ++ spans_text place (day *ℤ pos 86400) (part_within s all)) is,
)

pub same_rect : (a b c x y h : ℕ) → a ≡ x → b ≡ y → c ≡ h
    → ◌≡◌ {A = Rect} (record { x = a; y = b; height = c }) (record { x = x; y = y; height = h })
same_rect a b c x y h p q r = rw (p, q, r) refl
