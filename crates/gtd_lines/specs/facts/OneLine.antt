-- A record begins on one line.
use Rattle.std.proofs.Common.{◌≡◌, ◌∙◌, ◌<◌, ap, refl, sym, arith, ℕ, suc, ◌+◌, List, [], ◌∷◌, ◌++◌, get_or, length, take}
use Rattle.std.proofs.lemmas.List.{append_cancel_right, take-append-drop}
use Rattle.std.specs.List.{count_by}
use Rattle.csv.specs.Reading.{strip_bom}
use Rattle.gtd_lines.specs.Cut.{IsPlace}
use Rattle.gtd_lines.specs.Lines.{AreLinesOfRows, IsLine, from_record, is_line_feed, left_after}
use Rattle.gtd_lines.specs.declared.cut.Place.{Place}

pub line_of_place : (bytes : List ℕ) (number : ℕ) (place : Place) → IsPlace bytes number place → IsLine bytes number place.line
line_of_place bytes number place is = record {
  before = take place.at bytes;
  record_follows = sym (take-append-drop place.at bytes) ∙ ap (λ (l : List ℕ). take place.at bytes ++ l) is.begins;
  counted = is.counted;
}

pub one_line : (bytes : List ℕ) (row line other : ℕ) → IsLine bytes row line → IsLine bytes row other → line ≡ other
one_line bytes row line other is same =
    let start = from_record (left_after row (strip_bom bytes)).1 in
    let before : is.before ≡ same.before =
    append_cancel_right is.before same.before start (sym is.record_follows ∙ same.record_follows) in
    is.counted ∙ ap (λ (l : List ℕ). count_by is_line_feed l + 1) before ∙ sym same.counted

same_items : (a b : List ℕ) → length a ≡ length b → ((at : ℕ) → at < length a → get_or a at 0 ≡ get_or b at 0) → a ≡ b
same_items [] [] size same = refl
same_items [] (y ∷ b) size same = absurd (omega (arith, size))
same_items (x ∷ a) [] size same = absurd (omega (arith, size))
same_items (x ∷ a) (y ∷ b) size same =
    let first : x ≡ y = same 0 (omega arith) in
    let rest : a ≡ b = same_items a b (omega (arith, size)) (λ at lt. same (suc at) (omega (arith, lt))) in
    rw (first, rest) refl

-- the rows of a file begin on one list of lines
pub one_lines : (bytes a b : List ℕ) → AreLinesOfRows bytes a → AreLinesOfRows bytes b → a ≡ b
one_lines bytes a b p q =
    let size : length a ≡ length b = p.all ∙ sym q.all in
    same_items a b size (λ at lt. one_line bytes (at + 1) (get_or a at 0) (get_or b at 0) (p.each at lt)
    (q.each at (omega (arith, size, lt))))
