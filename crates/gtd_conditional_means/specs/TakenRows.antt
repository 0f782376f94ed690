-- What reading a table makes of its rows.
use Rattle.std.specs.Prelude.{◌≡◌, ◌↔◌, ◌<◌, ◌≤◌, ◌++◌, [], ◌∷◌, ℕ, Bool, true, false, Result, IsTrue}
use Rattle.gtd_rows.specs.Columns.{Fields}
use Rattle.gtd_conditional_means.specs.Places.{AreOf}
use Rattle.gtd_conditional_means.specs.Rows.{IsRow}
use Rattle.gtd_conditional_means.specs.Table.{faults_of, header, most_table_rows, read_of}
use Rattle.gtd_conditional_means.specs.declared.fault.MeansFault.{MeansFault}
use Rattle.gtd_conditional_means.specs.declared.fault.MeansFault.TheVariants as fault
use Rattle.gtd_conditional_means.specs.declared.meaning.MeansRow.{MeansRow}
use Rattle.gtd_conditional_means.specs.declared.table.Found.{Found}

-- the first record is the header, or is not; nothing is added
abbrev pub Begins : Found → Fields → Found → Bool → Type 0
Begins old first new is =
    (IsTrue is ↔ (first ≡ header)) × (new.rows.items ≡ old.rows.items) × (new.faults.items ≡ old.faults.items)
    × (new.places ≡ old.places)

-- what the row says is added to the rows or to the faults
pub record Adds (old : Found) (number : ℕ) (row : Fields) (new : Found) : Type 0 where
  pub answer : Result MeansRow MeansFault
  pub says : IsRow number old.rows.items row answer
  pub rows : new.rows.items ≡ old.rows.items ++ read_of answer
  pub faults : new.faults.items ≡ old.faults.items ++ faults_of answer
  pub placed : AreOf new.rows.items new.places

-- What the row says is added, if the places are those of the rows before, and the first row too many stops.
abbrev pub Takes : Found → ℕ → Fields → Found → Bool → Type 0
Takes old number row new false =
    (most_table_rows < number) × (new.rows.items ≡ old.rows.items)
    × (new.faults.items ≡ old.faults.items ++ (fault.TooManyRows ∷ [])) × (new.places ≡ old.places)
Takes old number row new true =
    (number ≤ most_table_rows) × (AreOf old.rows.items old.places → Adds old number row new)
