-- `canon DOMAIN`: the domain's canonical text.
use Rattle.std.specs.Prelude.{◌≡◌, List, [], ◌∷◌, Option, Some, None}
use Rattle.gtd_core.specs.Trees.{Tree}
use Rattle.gtd_text.specs.Canonical.{canonical}
use Rattle.gtd_tool.specs.Asked.{Canon, Text}
use Rattle.gtd_tool.specs.Readings.{DomainPart, Reading}
use Rattle.gtd_tool.specs.Task.{Task, answered}

abbrev pub reading : List Text → Option Reading
reading (domain ∷ []) = Some (record { parts = DomainPart domain ∷ []; asks = Canon })
reading words = None

abbrev pub task : Tree → Task
task domain = answered (λ answer. answer ≡ canonical domain)
