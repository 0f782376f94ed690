-- What was told while a table of holidays was read.
use Rattle.std.proofs.Common.{◌≡◌, inr, refl, sym, subst, ℕ, List, Bool, Option, Some, None}
use Rattle.std.specs.Prelude.{Result, Ok, Err, IfSome}
use Rattle.gtd_hours_holidays.specs.Table.{IsTable}
use Rattle.gtd_hours_holidays.specs.declared.fault.HolidaysFault.{HolidaysFault}
use Rattle.gtd_hours_holidays.specs.declared.holidays.Holidays.{Holidays}
use Rattle.gtdesk_tool.specs.HolidayTables.{HasReadTable, HasToldFaults, failures_after_table}
use Rattle.gtdesk_tool.specs.Telling.{Telling}
use Rattle.gtdesk_tool.specs.declared.refusal.RunRefusal.{RunRefusal}

pub of_told : (path : List ℕ) (file : Option (List ℕ)) (silent : Bool) (faults : List HolidaysFault) (errors : Telling)
    (r : Result (Option Holidays) RunRefusal) → IfSome file (λ (bytes : List ℕ). IsTable bytes (Err faults))
    → HasToldFaults path faults errors r → HasReadTable path file silent errors r
of_told path file silent faults errors (Ok None) is told = (faults, is, told)
of_told path file silent faults errors (Ok (Some table)) is told = absurd told
of_told path file silent faults errors (Err r) is told = (inr (inr told.0), told.1)

pub told_faults : (path : List ℕ) (faults : List HolidaysFault) (errors : Telling) (r : Result (Option Holidays) RunRefusal)
    (n : ℕ) → HasToldFaults path faults errors r → n ≡ failures_after_table r n
told_faults path faults errors (Ok found) n told = refl
told_faults path faults errors (Err r) n told =
    subst (λ (x : RunRefusal). n ≡ failures_after_table (Err x) n) (sym told.0) refl

-- what holds by the bytes that were read holds by those that the input had to give
pub table_of_bytes : (path : List ℕ) (file : Option (List ℕ)) (silent : Bool) (errors : Telling)
    (r : Result (Option Holidays) RunRefusal) (bytes : List ℕ) → IfSome file (λ (all : List ℕ). bytes ≡ all)
    → HasReadTable path (Some bytes) silent errors r → HasReadTable path file silent errors r
table_of_bytes path None silent errors (Ok None) bytes is read = (read.0, tt, read.2)
table_of_bytes path None silent errors (Ok (Some table)) bytes is read = (tt, read.1)
table_of_bytes path None silent errors (Err r) bytes is read = read
table_of_bytes path (Some all) silent errors r bytes is read =
    subst (λ (x : List ℕ). HasReadTable path (Some x) silent errors r) is read
