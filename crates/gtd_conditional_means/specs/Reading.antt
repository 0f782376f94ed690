-- What reading a table gave.
use Rattle.std.specs.Prelude.{ℕ, List, Result, Ok, Err, ⊤}
use Rattle.gtd_conditional_means.specs.Table.{IsTable}
use Rattle.gtd_conditional_means.specs.declared.means.Means.{Means}
use Rattle.gtd_conditional_means.specs.declared.means.Unread.{Unread}
use Rattle.gtd_conditional_means.specs.declared.means.Unread.TheVariants as unread

-- the table of the bytes, or all its faults, if memory was not refused
abbrev pub IsRead : List ℕ → Result Means Unread → Type 0
IsRead bytes (Ok means) = IsTable bytes (Ok means.rows.items)
IsRead bytes (Err (unread.Faults faults)) = IsTable bytes (Err faults.items)
IsRead bytes (Err unread.NoMemory) = ⊤
