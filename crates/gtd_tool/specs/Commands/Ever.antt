-- `ever DOMAIN MOMENT`: the domain's first change after the moment, however late.
use Rattle.std.specs.Prelude.{◌≡◌, ◌⊎◌, ℕ, ℤ, List, [], ◌∷◌, Option, Some, None, codes}
use Rattle.gtd_core.specs.Trees.{Tree}
use Rattle.gtd_core.specs.declared.second.Sec.{Sec}
use Rattle.gtd_eval.specs.Ever.{NeverChangesAfter, IsFirstChange}
use Rattle.gtd_eval.specs.Membership.{InTree, SomeGivesYear}
use Rattle.gtd_tool.specs.Answers.{IsChange}
use Rattle.gtd_tool.specs.Asked.{Ever, Text}
use Rattle.gtd_tool.specs.Readings.{DomainPart, MomentPart, Reading}
use Rattle.gtd_tool.specs.Task.{Task, answered}

abbrev pub reading : List Text → Option Reading
reading (domain ∷ moment ∷ []) = Some (record { parts = DomainPart domain ∷ MomentPart moment ∷ []; asks = Ever })
reading words = None

-- The change is looked for in all later seconds.
abbrev pub IsAnswer : Tree → Sec → List ℕ → Type 0
IsAnswer domain moment answer =
    ((t : ℤ) × IsFirstChange (InTree domain) moment.0 t × IsChange domain t answer)
    ⊎ (NeverChangesAfter (InTree domain) moment.0 × (answer ≡ codes "never"))

-- A domain that gives a year need not repeat.
abbrev pub task : Tree → Sec → Task
task domain moment = record (answered (IsAnswer domain moment)) { asks_past_years = SomeGivesYear domain }
