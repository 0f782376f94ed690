-- What reading a table makes of its rows.
use Rattle.std.specs.Prelude.{◌≡◌, ◌↔◌, ◌<◌, ◌≤◌, ◌++◌, [], ◌∷◌, ℕ, Bool, true, false, Result, IsTrue}
use Rattle.gtd_rows.specs.Columns.{Fields}
use Rattle.gtd_hours_holidays.specs.Rows.{IsRow}
use Rattle.gtd_hours_holidays.specs.Table.{faults_of, header, most_table_rows, read_of}
use Rattle.gtd_hours_holidays.specs.declared.fault.HolidaysFault.{HolidaysFault}
use Rattle.gtd_hours_holidays.specs.declared.fault.HolidaysFault.TheVariants as fault
use Rattle.gtd_hours_holidays.specs.declared.row.HolidayRow.{HolidayRow}
use Rattle.gtd_hours_holidays.specs.declared.table.Found.{Found}

-- the first record is the header, or is not; nothing is added
abbrev pub Begins : Found → Fields → Found → Bool → Type 0
Begins old first new is =
    (IsTrue is ↔ (first ≡ header)) × (new.rows.items ≡ old.rows.items) × (new.faults.items ≡ old.faults.items)

-- what the row says is added, and the first row too many stops
abbrev pub Takes : Found → ℕ → Fields → Found → Bool → Type 0
Takes old number row new false =
    (most_table_rows < number) × (new.rows.items ≡ old.rows.items)
    × (new.faults.items ≡ old.faults.items ++ (fault.TooManyRows ∷ []))
Takes old number row new true =
    (number ≤ most_table_rows) × ((answer : Result HolidayRow HolidaysFault) × IsRow number row answer
    × (new.rows.items ≡ old.rows.items ++ read_of answer)
    × (new.faults.items ≡ old.faults.items ++ faults_of answer))
