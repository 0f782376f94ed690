-- What reading a file of hours makes of its rows.
use Rattle.std.specs.Prelude.{◌≡◌, ◌↔◌, ◌++◌, ℕ, Bool, true, false, Result, IsTrue}
use Rattle.gtd_rows.specs.Columns.{Fields}
use Rattle.gtd_hours_options.specs.Readings.{how_read}
use Rattle.gtd_hours_file.specs.HoursFile.{IsRow, faults_of, header, sound_of}
use Rattle.gtd_hours_file.specs.declared.fault.HoursFileFault.{HoursFileFault}
use Rattle.gtd_hours_file.specs.declared.file.Reading.{Reading}
use Rattle.gtd_hours_file.specs.declared.row.HoursRow.{HoursRow}

-- the first record is the header, or is not; nothing is found yet, and texts are read as before
abbrev pub BeginsReading : Reading → Fields → Reading → Bool → Type 0
BeginsReading old first new is =
    (IsTrue is ↔ (first ≡ header)) × (new.found.sound.items ≡ old.found.sound.items)
    × (new.found.faults.items ≡ old.found.faults.items) × (new.by ≡ old.by)

-- what the row says is added
abbrev pub TakesRow : Reading → ℕ → Fields → Reading → Bool → Type 0
TakesRow old number row new false = ⊥
TakesRow old number row new true =
    (answer : Result HoursRow HoursFileFault) × IsRow (how_read old.by) number row answer
    × (new.found.sound.items ≡ old.found.sound.items ++ sound_of answer)
    × (new.found.faults.items ≡ old.found.faults.items ++ faults_of answer) × (new.by ≡ old.by)
