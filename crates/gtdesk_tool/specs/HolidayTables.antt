-- What was told while a table of holidays was read that several files of hours share.
use Rattle.std.specs.Prelude.{◌≡◌, ℕ, ◌+◌, Bool, List, Option, Some, None, Result, Ok, Err, IfSome}
use Rattle.gtd_hours_holidays.specs.Table.{IsTable}
use Rattle.gtd_hours_holidays.specs.declared.fault.HolidaysFault.{HolidaysFault}
use Rattle.gtd_hours_holidays.specs.declared.holidays.Holidays.{Holidays}
use Rattle.gtd_records.specs.declared.fault.RecordFault.TheVariants as records
use Rattle.gtdesk_tool.specs.TextHours.{IsTableRefusal, table_lines}
use Rattle.gtdesk_tool.specs.Telling.{IsUntold, Telling, Told}
use Rattle.gtdesk_tool.specs.declared.refusal.RunRefusal.{RunRefusal}
use Rattle.gtdesk_tool.specs.declared.refusal.RunRefusal.TheVariants as refusal

-- What was answered for a table with this path, the bytes of which may be known: the table, and nothing was told; or no table,
-- and all its faults were told; or why it is not read, and nothing was told.
abbrev pub HasReadTable : List ℕ → Option (List ℕ) → Bool → Telling → Result (Option Holidays) RunRefusal → Type 0
HasReadTable path file silent errors (Ok (Some table)) =
    IfSome file (λ bytes. IsTable bytes (Ok table.rows.items)) × IsUntold errors
HasReadTable path file silent errors (Ok None) =
    (faults : List HolidaysFault) × IfSome file (λ bytes. IsTable bytes (Err faults)) × Told errors (table_lines path faults)
HasReadTable path file silent errors (Err r) = IsTableRefusal silent r × IsUntold errors

-- These faults were told, or memory was refused for that.
abbrev pub HasToldFaults : List ℕ → List HolidaysFault → Telling → Result (Option Holidays) RunRefusal → Type 0
HasToldFaults path faults errors (Ok (Some table)) = ⊥
HasToldFaults path faults errors (Ok None) = Told errors (table_lines path faults)
HasToldFaults path faults errors (Err r) = (r ≡ refusal.Memory) × IsUntold errors

-- one more failure of the input exactly if the refusal is that it failed
abbrev pub failures_after_table : Result (Option Holidays) RunRefusal → ℕ → ℕ
failures_after_table (Err (refusal.Records records.ReadFault)) count = count + 1
failures_after_table result count = count
