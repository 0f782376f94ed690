-- Cells.
use Rattle.std.specs.Prelude.{◌≡◌}
use Rattle.gtd_hours_cells.specs.declared.cell.Cell.{Cell}

-- a cell is all of its days: from their first minute up to but not including the 1,440th, with which the next day begins
abbrev pub IsWhole : Cell → Type 0
IsWhole cell = (cell.begin ≡ 0) × (cell.end ≡ 1440)
