-- The lines of warnings, row by row.
use Rattle.std.proofs.Common.{◌≡◌, refl, sym, subst, arith, ℕ, ◌+◌, List, [], ◌∷◌, ◌++◌, append-nil}
use Rattle.std.proofs.Common.{append_assoc, length}
use Rattle.gtd_faults.specs.Places.{IsLine}
use Rattle.gtd_hours_file.specs.Warnings.{AreRowLines, AreWarnings}
use Rattle.gtd_hours_file.specs.declared.row.HoursRow.{HoursRow}

-- the lines of one row more
pub warnings_more : (path bytes : List ℕ) (number : ℕ) (rows : List HoursRow) (row : HoursRow) (text here : List ℕ) (line : ℕ)
    → IsLine bytes (number + length rows) line → AreRowLines path line (number + length rows) row here
    → AreWarnings path bytes number rows text → AreWarnings path bytes number (rows ++ row ∷ []) (text ++ here)
warnings_more path bytes number [] row text here line is told are =
    let same : number + 0 ≡ number = omega arith in (
      line,
      here,
      [],
      subst (λ (n : ℕ). IsLine bytes n line) same is,
      subst (λ (n : ℕ). AreRowLines path line n row here) same told,
      refl,
      rw are (sym (append-nil here)),
    )
warnings_more path bytes number (first ∷ rows) row text here line is told are =
    let same : number + length (first ∷ rows) ≡ (number + 1) + length rows = omega arith in (
      are.0,
      are.1,
      are.2 ++ here,
      are.3,
      are.4,
      warnings_more path bytes (number + 1) rows row are.2 here line
          (subst (λ (n : ℕ). IsLine bytes n line) same is)
          (subst (λ (n : ℕ). AreRowLines path line n row here) same told) are.5,
      rw (are.6) (append_assoc are.1 are.2 here),
    )
