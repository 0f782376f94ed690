-- `check DOMAIN`: whether the word is a domain.
use Rattle.std.specs.Prelude.{◌≡◌, List, [], ◌∷◌, Option, Some, None, codes}
use Rattle.gtd_core.specs.Trees.{Tree}
use Rattle.gtd_tool.specs.Asked.{Check, Text}
use Rattle.gtd_tool.specs.Readings.{DomainPart, Reading}
use Rattle.gtd_tool.specs.Task.{Task, answered}

abbrev pub reading : List Text → Option Reading
reading (domain ∷ []) = Some (record { parts = DomainPart domain ∷ []; asks = Check })
reading words = None

-- The answer says that the word is a domain.
abbrev pub task : Tree → Task
task domain = record (answered (λ answer. answer ≡ codes "ok")) { takes_memory = ⊥ }
