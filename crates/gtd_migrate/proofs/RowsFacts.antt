-- The lines of rows: of those before a row, of the row, and of those after it.
use Rattle.std.proofs.Common.{◌≡◌, ◌∙◌, ◌<◌, ◌+◌, ap, refl, arith, ℕ, zero, suc, List, [], ◌∷◌, ◌++◌, length, take, drop, map}
use Rattle.std.specs.Prelude.{slice_index_or}
use Rattle.std.proofs.lemmas.List.{take_more, map-append}
use Rattle.gtd_records.specs.Closing.{Restriction}
use Rattle.gtd_migrate.specs.Migrated.{row_line}

-- the lines of the rows so far, and of one more
pub more_rows : (rows : List Restriction) (i : ℕ) (r : Restriction) → i < length rows → slice_index_or rows i r ≡ r
    → map row_line (take (i + 1) rows) ≡ map row_line (take i rows) ++ (row_line r ∷ [])
more_rows rows i r h is =
    ap (map row_line) (take_more rows i r h) ∙ map-append row_line (take i rows) (slice_index_or rows i r ∷ [])
    ∙ ap (λ (x : Restriction). map row_line (take i rows) ++ (row_line x ∷ [])) is

-- the lines of the rows so far, and of those that are left
pub rows_left : (rows : List Restriction) (i : ℕ) → map row_line rows ≡ map row_line (take i rows) ++ map row_line (drop i rows)
rows_left [] zero = refl
rows_left [] (suc i) = refl
rows_left (r ∷ rows) zero = refl
rows_left (r ∷ rows) (suc i) = ap (λ (l : List (List ℕ)). row_line r ∷ l) (rows_left rows i)

left_at : (rows : List Restriction) (i : ℕ) (r : Restriction) → i < length rows → slice_index_or rows i r ≡ r
    → map row_line (drop i rows) ≡ row_line r ∷ map row_line (drop (suc i) rows)
left_at [] i r h is = absurd (omega arith)
left_at (x ∷ rows) zero r h is = ap (λ (y : Restriction). row_line y ∷ map row_line rows) is
left_at (x ∷ rows) (suc i) r h is = left_at rows i r (omega arith) is

-- the lines of the rows so far, of one more, and of those that are left then
pub rows_split : (rows : List Restriction) (i : ℕ) (r : Restriction) → i < length rows → slice_index_or rows i r ≡ r
    → map row_line rows ≡ map row_line (take i rows) ++ ((row_line r ∷ []) ++ map row_line (drop (suc i) rows))
rows_split rows i r h is =
    rows_left rows i ∙ ap (λ (l : List (List ℕ)). map row_line (take i rows) ++ l) (left_at rows i r h is)
