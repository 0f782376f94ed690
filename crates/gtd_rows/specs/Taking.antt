-- What is made of the rows of a file, one after another.
use Rattle.std.specs.Prelude.{◌≡◌, ◌<◌, ◌≤◌, ◌⊎◌, ℕ, ◌+◌, Bool, true, false, List, [], ◌∷◌, ◌++◌, length}
use Rattle.gtd_core.specs.Limits.{most_rows}
use Rattle.gtd_rows.specs.Columns.{Fields}
use Rattle.gtd_rows.specs.declared.rows.RowsEnd.{RowsEnd}
use Rattle.gtd_rows.specs.declared.rows.RowsEnd.TheVariants.{NoHeader, All, Stopped, TooMany}

-- The rows, of which the first has this number, were taken one after another, and each asked for the next.
abbrev pub AreAllTaken : {S : Type 0} → (S → ℕ → Fields → S → Bool → Type 0) → ℕ → List Fields → S → S → Type 0
AreAllTaken {S} takes number [] old new = new ≡ old
AreAllTaken {S} takes number (row ∷ rows) old new =
    (next : S) × takes old number row next true × AreAllTaken takes (number + 1) rows next new

-- the rows up to one were taken, and that one asked for no more
pub record StopsAt {S : Type 0} (takes : S → ℕ → Fields → S → Bool → Type 0) (rows : List Fields) (old new : S) : Type 0 where
  pub before : List Fields
  pub row : Fields
  pub after : List Fields
  pub split : rows ≡ before ++ row ∷ after
  pub few : length before < most_rows
  pub at : S
  pub taken : AreAllTaken takes 1 before old at
  pub stops : takes at (length before + 1) row new false

-- as many rows as a file may have were taken, and there is one more
pub record LeavesMore {S : Type 0} (takes : S → ℕ → Fields → S → Bool → Type 0) (rows : List Fields) (old new : S) : Type 0 where
  pub before : List Fields
  pub row : Fields
  pub after : List Fields
  pub split : rows ≡ before ++ row ∷ after
  pub many : length before ≡ most_rows
  pub taken : AreAllTaken takes 1 before old new

-- what is made of the rows after a header, by how it ended
abbrev pub AreTaken : {S : Type 0} → (S → ℕ → Fields → S → Bool → Type 0) → List Fields → S → S → RowsEnd → Type 0
AreTaken {S} takes rows old new NoHeader = ⊥
AreTaken {S} takes rows old new All = (length rows ≤ most_rows) × AreAllTaken takes 1 rows old new
AreTaken {S} takes rows old new Stopped = StopsAt takes rows old new
AreTaken {S} takes rows old new TooMany = LeavesMore takes rows old new

-- the first record is a header, and these are made of the rows after it
pub record HasHeader {S : Type 0} (begins : S → Fields → S → Bool → Type 0) (takes : S → ℕ → Fields → S → Bool → Type 0)
    (text : List Fields) (old new : S) (end : RowsEnd) : Type 0 where
  pub first : Fields
  pub rows : List Fields
  pub split : text ≡ first ∷ rows
  pub at : S
  pub begun : begins old first at true
  pub taken : AreTaken takes rows at new end

-- what is made of the records of a text, by how it ended
abbrev pub AreTableTaken : {S : Type 0} → (S → Fields → S → Bool → Type 0) → (S → ℕ → Fields → S → Bool → Type 0)
    → List Fields → S → S → RowsEnd → Type 0
AreTableTaken {S} begins takes text old new NoHeader =
    ((text ≡ []) × (new ≡ old)) ⊎ ((first : Fields) × (rows : List Fields) × (text ≡ first ∷ rows) × begins old first new false)
AreTableTaken {S} begins takes text old new end = HasHeader begins takes text old new end
