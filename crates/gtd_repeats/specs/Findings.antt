-- What is said of the rows of a file that say nothing new.
use Rattle.std.specs.Prelude.{◌≡◌, ◌<◌, ◌+◌, ◌==◌, ℕ, zero, suc, List, [], ◌∷◌, ◌++◌, length, take, Option, Some, None}
use Rattle.std.specs.List.{count_by}
use Rattle.gtd_core.specs.Seconds.{Interval}
use Rattle.gtd_records.specs.Closing.{Restriction}
use Rattle.gtd_repeats.specs.Firsts.{AreFirsts, IsFirst}
use Rattle.gtd_repeats.specs.Sameness.{AreAlikeIn, IsSameRow, IsWithinRow, row_at}
use Rattle.gtd_repeats.specs.Spans.{AreSpans}
use Rattle.gtd_repeats.specs.declared.alike.Kind.TheVariants as kind
use Rattle.gtd_repeats.specs.declared.findings.Finding.{Finding}
use Rattle.gtd_repeats.specs.declared.findings.Finding.TheVariants.{SameRow, WithinRow, SameMeaning}

-- a list with one finding more, if there is one
abbrev pub with_finding : List Finding → Option Finding → List Finding
with_finding before None = before
with_finding before (Some finding) = before ++ finding ∷ []

-- how many of a file's first rows, so many, have the element
abbrev pub rows_of : List Restriction → ℕ → ℕ → ℕ
rows_of rows element count = count_by (λ (r : Restriction). r.element == element) (take count rows)

-- the row is one of the first 64 rows of the element
abbrev pub IsEarly : List Restriction → ℕ → ℕ → Type 0
IsEarly rows element row = ((row_at rows row).element ≡ element) × (rows_of rows element row < 64)

module _ (rows : List Restriction) where
  -- the other is a row of the file that does not say the same, and the row is within it
  pub record IsWithinOf (row other : ℕ) : Type 0 where
    pub inside : other < length rows
    pub within : IsWithinRow (row_at rows row) (row_at rows other)
    pub apart : IsSameRow (row_at rows row) (row_at rows other) → ⊥

  -- the other is one of the first 64 rows of the row's element
  pub record IsCompared (row other : ℕ) : Type 0 where
    pub inside : other < length rows
    pub early : IsEarly rows (row_at rows row).element other

  -- the other is the first of these that the row is within and that does not say the same
  pub record IsFirstWithin (row other : ℕ) : Type 0 where
    pub compared : IsCompared row other
    pub within : IsWithinOf row other
    pub least : (k : ℕ) → k < other → IsCompared row k → IsWithinOf row k → ⊥

  -- none of them is such a row
  abbrev pub IsWithinNone : ℕ → Type 0
  IsWithinNone row = (other : ℕ) → IsCompared row other → IsWithinOf row other → ⊥

  -- the first row that says the same; the first whose domain has the same canonical text; the first that closes at the same
  -- seconds
  abbrev pub IsFirstSame : ℕ → ℕ → Type 0
  IsFirstSame = IsFirst (AreAlikeIn rows kind.Row)

  abbrev pub IsFirstText : ℕ → ℕ → Type 0
  IsFirstText = IsFirst (AreAlikeIn rows kind.Text)

  abbrev pub IsFirstMeaning : ℕ → ℕ → Type 0
  IsFirstMeaning = IsFirst (AreAlikeIn rows kind.Seconds)

  -- for each row the first that closes at the same seconds, the first that says the same, and maybe a span of its seconds
  pub record AreGrouped (meanings sames : List ℕ) (spans : List (Option Interval)) : Type 0 where
    pub of_seconds : AreFirsts (AreAlikeIn rows kind.Seconds) (length rows) meanings
    pub of_rows : AreFirsts (AreAlikeIn rows kind.Row) (length rows) sames
    pub of_spans : AreSpans rows spans

  -- What is said of a row: that an earlier one says the same, the first that does; otherwise that it is within another, the
  -- first of the first 64 rows of its element; nothing only if it is within none of these.
  abbrev pub IsSaidOfRow : ℕ → Option Finding → Type 0
  IsSaidOfRow row None = IsFirstSame row row × IsWithinNone row
  IsSaidOfRow row (Some (SameRow number of)) =
      (first : ℕ) × (first < row) × IsFirstSame row first × (number ≡ row + 1) × (of ≡ first + 1)
  IsSaidOfRow row (Some (WithinRow number of)) =
      (other : ℕ) × IsFirstSame row row × IsFirstWithin row other × (number ≡ row + 1) × (of ≡ other + 1)
  IsSaidOfRow row (Some (SameMeaning number of)) = ⊥

  -- What is said of a row's text, if no earlier row has it: the first row that closes at the same seconds, if that is an earlier
  -- one.
  abbrev pub IsSaidOfText : ℕ → Option Finding → Type 0
  IsSaidOfText row None = IsFirstText row row → IsFirstMeaning row row
  IsSaidOfText row (Some (SameMeaning number of)) =
      (first : ℕ) × (first < row) × IsFirstText row row × IsFirstMeaning row first × (number ≡ row + 1) × (of ≡ first + 1)
  IsSaidOfText row (Some other) = ⊥

  -- what is said of the first rows, so many, row by row
  unfoldable pub AreFindingsOf : ℕ → List Finding → Type 0
  AreFindingsOf zero findings = findings ≡ []
  AreFindingsOf (suc row) findings =
      (before : List Finding) × (of_row of_text : Option Finding) × AreFindingsOf row before × IsSaidOfRow row of_row
      × IsSaidOfText row of_text × (findings ≡ with_finding (with_finding before of_row) of_text)

  -- what is said of all rows
  abbrev pub AreFindings : List Finding → Type 0
  AreFindings = AreFindingsOf (length rows)
