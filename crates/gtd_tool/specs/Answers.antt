-- Answers about a domain at a moment.
use Rattle.std.specs.Prelude.{◌≡◌, ◌⊎◌, ◌++◌, ℕ, ℤ, List, Option, Some, None, codes}
use Rattle.gtd_core.specs.Trees.{Tree}
use Rattle.gtd_core.specs.declared.second.Sec.{Sec}
use Rattle.gtd_calendar.specs.Stamp.{stamp_text}
use Rattle.gtd_eval.specs.Membership.{InTree}

-- The answer is the state of the domain at the second: `in` if the domain contains it, otherwise `out`.
abbrev pub IsState : Tree → ℤ → List ℕ → Type 0
IsState domain t answer =
    (InTree domain t × (answer ≡ codes "in")) ⊎ ((InTree domain t → ⊥) × (answer ≡ codes "out"))

-- The answer is the stamp of the second and the state of the domain from then on.
abbrev pub IsChange : Tree → ℤ → List ℕ → Type 0
IsChange domain t answer =
    (state : List ℕ) × IsState domain t state × (answer ≡ stamp_text t ++ (codes " " ++ state))

-- The answer is that of the change, or the word for no change.
abbrev pub IsChangeOr : List ℕ → Tree → Option Sec → List ℕ → Type 0
IsChangeOr none domain None answer = answer ≡ none
IsChangeOr none domain (Some t) answer = IsChange domain t.0 answer
