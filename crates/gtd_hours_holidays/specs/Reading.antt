-- What reading a table gave.
use Rattle.std.specs.Prelude.{◌≡◌, ◌⊎◌, ◌++◌, ◌∷◌, [], ℕ, List, Result, Ok, Err, ⊤}
use Rattle.gtd_hours_holidays.specs.Table.{IsInside, IsTable}
use Rattle.gtd_hours_holidays.specs.declared.fault.HolidaysFault.{HolidaysFault}
use Rattle.gtd_hours_holidays.specs.declared.fault.HolidaysFault.TheVariants as fault
use Rattle.gtd_hours_holidays.specs.declared.holidays.Holidays.{Holidays}
use Rattle.gtd_hours_holidays.specs.declared.holidays.Unread.{Unread}
use Rattle.gtd_hours_holidays.specs.declared.holidays.Unread.TheVariants as unread
use Rattle.gtd_hours_holidays.specs.declared.row.HolidayRow.{HolidayRow}

-- the table of the bytes, or all its faults, if memory was not refused
abbrev pub IsRead : List ℕ → Result Holidays Unread → Type 0
IsRead bytes (Ok holidays) = IsTable bytes (Ok holidays.rows.items)
IsRead bytes (Err (unread.Faults faults)) = IsTable bytes (Err faults.items)
IsRead bytes (Err unread.NoMemory) = ⊤

-- `Outside` of the row with this number is added to the faults, if a holiday of it is not covered
abbrev pub IsAdded : List HolidayRow → HolidayRow → ℕ → List HolidaysFault → List HolidaysFault → Type 0
IsAdded all row number old new =
    (IsInside all row × (new ≡ old)) ⊎ ((IsInside all row → ⊥) × (new ≡ old ++ fault.Outside number ∷ []))
