-- Warnings, as they are gone through once to put others among them.
use Rattle.std.specs.Prelude.{◌≡◌, ◌<◌, ◌≤◌, ℕ, List, [], ◌∷◌, Option, Some, None}
use Rattle.gtd_hours_warnings.specs.declared.warnings.Warning.{Warning}

-- none is behind this place
abbrev pub AreBy : ℕ → List Warning → Type 0
AreBy place [] = Unit {0}
AreBy place (w ∷ ws) = (w.place ≤ place) × AreBy place ws

-- the place is before that of the next warning, if there is one
abbrev pub IsBefore : ℕ → Option ℕ → Type 0
IsBefore place None = Unit {0}
IsBefore place (Some next) = place < next

-- the warnings begin with one at this place; or there are none
abbrev pub BeginsAt : Option ℕ → List Warning → Type 0
BeginsAt None more = more ≡ []
BeginsAt (Some next) more = (w : Warning) × (ws : List Warning) × (more ≡ w ∷ ws) × (w.place ≡ next)
