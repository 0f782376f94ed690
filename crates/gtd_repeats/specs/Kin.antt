-- The first rows of each element, with which its rows are compared.
use Rattle.std.specs.Prelude.{◌≡◌, ◌<◌, ◌≤◌, ◌==◌, ℕ, List, length, get_or, slice_index_or}
use Rattle.std.specs.Global.{Vec}
use Rattle.std.specs.List.{Contains, count_by}
use Rattle.gtd_records.specs.Closing.{Restriction}
use Rattle.gtd_repeats.specs.Buckets.{entries_at}
use Rattle.gtd_repeats.specs.Findings.{IsEarly, rows_of}
use Rattle.gtd_repeats.specs.Sameness.{row_at}
use Rattle.gtd_repeats.specs.declared.buckets.Entry.{Entry}

-- how many of the entries have the number
abbrev pub entries_with : List Entry → ℕ → ℕ
entries_with entries number = count_by (λ (x : Entry). x.number == number) entries

-- the entry is at this place
abbrev pub IsAt : List Entry → ℕ → Entry → Type 0
IsAt entries place x = (place < length entries) × (slice_index_or entries place x ≡ x)

-- Of a file's first rows, so many, the entries with this element are the first 64 of the element, in order. Entries of other
-- elements may stand among them.
pub record AreKin (rows : List Restriction) (count element : ℕ) (entries : List Entry) : Type 0 where
  pub each : (place : ℕ) (x : Entry) → IsAt entries place x
      → (x.row < count) × (x.number ≡ element → IsEarly rows element x.row)
  pub all : (row : ℕ) → row < count → IsEarly rows element row → Contains entries (record { number = element; row = row })
  pub order : (i j : ℕ) (x y : Entry) → i < j → IsAt entries i x → IsAt entries j y → x.row < y.row
  pub few : entries_with entries element ≤ rows_of rows element count
  pub enough : entries_with entries element < 64 → rows_of rows element count ≤ entries_with entries element

-- the elements of rows
pub record AreElementsOf (rows : List Restriction) (elements : List ℕ) : Type 0 where
  pub many : length elements ≡ length rows
  pub each : (row : ℕ) → row < length rows → get_or elements row 0 ≡ (row_at rows row).element

-- each row has a bucket, counted from 0 and below how many rows there are; the rows of an element have the same one
pub record AreElementBuckets (rows : List Restriction) (indices : List ℕ) : Type 0 where
  pub many : length indices ≡ length rows
  pub inside : (row : ℕ) → row < length rows → get_or indices row 0 < length rows
  pub same : (j k : ℕ) → j < length rows → k < length rows → (row_at rows j).element ≡ (row_at rows k).element
      → get_or indices j 0 ≡ get_or indices k 0

-- for the element of each row, in the bucket of the row
abbrev pub AreAllKin : List Restriction → List ℕ → ℕ → List (Vec Entry) → Type 0
AreAllKin rows indices count buckets =
    (row : ℕ) → row < length rows → AreKin rows count (row_at rows row).element (entries_at buckets (get_or indices row 0))
