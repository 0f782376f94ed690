-- `next DOMAIN MOMENT TO`: the domain's first change after the moment and before the day `TO`.
use Rattle.std.specs.Prelude.{◌≡◌, ◌⊎◌, ℕ, ℤ, pos, ◌*ℤ◌, List, [], ◌∷◌, Option, Some, None, codes}
use Rattle.gtd_core.specs.Limits.{day_seconds}
use Rattle.gtd_core.specs.Trees.{Tree}
use Rattle.gtd_core.specs.declared.second.Sec.{Sec}
use Rattle.gtd_spans.specs.Change.{NeverChanges, IsNextChange}
use Rattle.gtd_eval.specs.Membership.{InTree}
use Rattle.gtd_tool.specs.Answers.{IsChange}
use Rattle.gtd_tool.specs.Asked.{Next, Text}
use Rattle.gtd_tool.specs.Readings.{DatePart, DomainPart, HorizonPart, MomentPart, Reading}
use Rattle.gtd_tool.specs.Task.{Task, answered}

abbrev pub reading : List Text → Option Reading
reading (domain ∷ moment ∷ to ∷ []) = Some (record {
  parts = DomainPart domain ∷ MomentPart moment ∷ DatePart to ∷ HorizonPart moment to ∷ [];
  asks = λ tree second date day. Next tree second day;
})
reading words = None

-- The change is looked for in the seconds of the days before `to`.
abbrev pub IsAnswer : Tree → Sec → ℤ → List ℕ → Type 0
IsAnswer domain moment to answer =
    ((t : ℤ) × IsNextChange (InTree domain) moment.0 (to *ℤ pos day_seconds) t × IsChange domain t answer)
    ⊎ (NeverChanges (InTree domain) moment.0 (to *ℤ pos day_seconds) × (answer ≡ codes "none"))

abbrev pub task : Tree → Sec → ℤ → Task
task domain moment to = answered (IsAnswer domain moment to)
