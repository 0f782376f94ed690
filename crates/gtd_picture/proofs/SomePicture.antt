-- A set that can be decided has a picture.
use Rattle.std.proofs.Common.{◌⊎◌, ◌+◌, refl, ℕ, zero, suc, List, [], ◌∷◌, ◌++◌, map}
use Rattle.std.specs.Prelude.{ℤ, pos, ◌+ℤ◌, ◌*ℤ◌}
use Rattle.gtd_calendar.specs.Calendar.{first_day, year_length}
use Rattle.gtd_spans.specs.facts.SomeList.{some-normal-list}
use Rattle.gtd_picture.specs.Picture.{AreColumns, IsPicture, Rect, day_lines, foot_text, head_text, rect_of}
use Rattle.gtd_picture.proofs.PictureFacts.{picture_of}

module _ (set : ℤ → Type 0) (decided : (t : ℤ) → set t ⊎ (set t → ⊥)) where
  some_columns : (day : ℤ) (place n : ℕ) → (columns : List (List Rect)) × AreColumns set day place n columns
  unfolding AreColumns
  some_columns day place zero = ([], refl)
  some_columns day place (suc n) =
      let rest = some_columns (day +ℤ pos 1) (place + 1) n in
      let spans = some-normal-list set decided (day *ℤ pos 86400) ((day +ℤ pos 1) *ℤ pos 86400) in
      let column = map (rect_of place (day *ℤ pos 86400)) spans.0 in
      (column ∷ rest.0, (column, rest.0, record { spans = spans.0; normal = spans.1; each = refl }, rest.1, refl))

pub some_picture : (set : ℤ → Type 0) → ((t : ℤ) → set t ⊎ (set t → ⊥)) → (title inside outside : List ℕ) (year : ℕ)
    → (lines : List (List ℕ)) × IsPicture set title inside outside year lines
some_picture set decided title inside outside year =
    let columns = some_columns set decided (first_day (pos year)) 0 (year_length (pos year)) in (
      head_text title inside outside (year_length (pos year)) ∷ (day_lines (first_day (pos year)) 0 columns.0
          ++ (foot_text (pos year) ∷ [])),
      picture_of set title inside outside year columns.0 columns.1,
    )
