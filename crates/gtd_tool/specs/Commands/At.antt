-- `at DOMAIN MOMENT`: whether the domain contains the moment.
use Rattle.std.specs.Prelude.{List, [], ◌∷◌, Option, Some, None}
use Rattle.gtd_core.specs.Trees.{Tree}
use Rattle.gtd_core.specs.declared.second.Sec.{Sec}
use Rattle.gtd_tool.specs.Answers.{IsState}
use Rattle.gtd_tool.specs.Asked.{At, Text}
use Rattle.gtd_tool.specs.Readings.{DomainPart, MomentPart, Reading}
use Rattle.gtd_tool.specs.Task.{Task, answered}

abbrev pub reading : List Text → Option Reading
reading (domain ∷ moment ∷ []) = Some (record { parts = DomainPart domain ∷ MomentPart moment ∷ []; asks = At })
reading words = None

abbrev pub task : Tree → Sec → Task
task domain moment = record (answered (IsState domain moment.0)) { takes_memory = ⊥ }
