-- Rows whose text an earlier row is known to have.
use Rattle.std.specs.Prelude.{◌≡◌, ◌<◌, ◌≤◌, ℕ, List, length, get_or}
use Rattle.gtd_records.specs.Closing.{Restriction}
use Rattle.gtd_repeats.specs.Sameness.{row_at}

-- for each row one with the same canonical text: an earlier one, or itself
pub record AreKnown (rows : List Restriction) (known : List ℕ) : Type 0 where
  pub many : length known ≡ length rows
  pub not_later : (row : ℕ) → row < length rows → get_or known row 0 ≤ row
  pub same : (row : ℕ) → row < length rows → (row_at rows (get_or known row 0)).domain ≡ (row_at rows row).domain
