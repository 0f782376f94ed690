-- What reading a text of hours, a column or a row gave.
use Rattle.std.specs.Prelude.{ℕ, List, Option, Result, Ok, Err, ⊤}
use Rattle.gtd_hours_options.specs.declared.fault.OptionsReadFault.{OptionsReadFault}
use Rattle.gtd_hours_options.specs.declared.fault.OptionsReadFault.TheVariants as reading
use Rattle.gtd_rows.specs.Columns.{Fields}
use Rattle.gtd_hours_options.specs.Readings.{HowRead}
use Rattle.gtd_hours_file.specs.HoursFile.{IsHoursColumn, IsHoursFault, IsRow}
use Rattle.gtd_hours_file.specs.declared.fault.HoursFileFault.TheVariants as fault
use Rattle.gtd_hours_file.specs.declared.row.HoursRow.{HoursRow}
use Rattle.gtd_hours_file.specs.declared.row.RowHours.{RowHours}
use Rattle.gtd_hours_file.specs.declared.row.RowStop.{RowStop}
use Rattle.gtd_hours_file.specs.declared.row.RowStop.TheVariants as stop

-- why a text is not read, in the row with this number
abbrev pub unread : ℕ → OptionsReadFault → RowStop
unread row (reading.Fault why) = stop.Fault (fault.Hours row why)
unread row reading.NoMemory = stop.NoMemory

-- the fault of a text of hours in the row with this number, if memory was not refused
abbrev pub IsTextStop : HowRead → ℕ → List ℕ → RowStop → Type 0
IsTextStop how row text (stop.Fault why) = IsHoursFault how row text why
IsTextStop how row text stop.NoMemory = ⊤

-- what the last column says in the row with this number, if memory was not refused
abbrev pub IsColumnRead : HowRead → ℕ → List ℕ → Result (Option RowHours) RowStop → Type 0
IsColumnRead how row text (Ok hours) = IsHoursColumn how row text (Ok hours)
IsColumnRead how row text (Err (stop.Fault why)) = IsHoursColumn how row text (Err why)
IsColumnRead how row text (Err stop.NoMemory) = ⊤

-- and what the row says
abbrev pub IsRowRead : HowRead → ℕ → Fields → Result HoursRow RowStop → Type 0
IsRowRead how row fields (Ok found) = IsRow how row fields (Ok found)
IsRowRead how row fields (Err (stop.Fault why)) = IsRow how row fields (Err why)
IsRowRead how row fields (Err stop.NoMemory) = ⊤
