-- `migrate FILE`: a record file as one of version 2.
use Rattle.std.specs.Prelude.{◌≡◌, List, [], ◌∷◌, Option, Some, None}
use Rattle.gtd_roads.specs.Migrated.{migrated}
use Rattle.gtd_tool.specs.Asked.{Migrate, Text}
use Rattle.gtd_tool.specs.Readings.{Reading}
use Rattle.gtd_tool.specs.Task.{Task, reported}

abbrev pub reading : List Text → Option Reading
reading (file ∷ []) = Some (record { parts = []; asks = Migrate file })
reading words = None

abbrev pub task : Text → Task
task path = reported path (record { vehicle = None; year = None; element = None }) (λ found lines. lines ≡ migrated found)
