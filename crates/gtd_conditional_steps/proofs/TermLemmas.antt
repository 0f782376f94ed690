-- What terms say of types and of seconds, together and apart; and what they cost.
use Rattle.std.proofs.Common.{◌≡◌, ◌↔◌, ℕ, ℤ, List, [], ◌∷◌, Option, subst}
use Rattle.gtd_core.specs.declared.domain.Expr.{Expr}
use Rattle.gtd_rows.specs.Serving.{Serves}
use Rattle.gtd_rows.specs.declared.vehicles.Vehicles.{Vehicles}
use Rattle.gtd_conditional_means.specs.declared.meaning.MeansRow.{MeansRow}
use Rattle.gtd_conditional_rows.specs.Steps.{HoursHold}
use Rattle.gtd_conditional_rows.specs.Types.{HasType, IsVehicle}
use Rattle.gtd_conditional_rows.specs.declared.types.Types.{Types}
use Rattle.gtd_conditional_values.specs.declared.term.Term.{Term}
use Rattle.gtd_conditional_values.specs.declared.term.Term.TheVariants as term
use Rattle.gtd_conditional_steps.specs.Closing.{EachHolds}
use Rattle.gtd_conditional_steps.specs.Hours.{EachHoldsAt, EachHoldsFor, HoldsAt, HoldsFor}

pub apart : (rows : List MeansRow) (terms : List Term) (t : ℕ) (s : ℤ) → EachHolds rows terms t s
    → EachHoldsFor rows terms t × EachHoldsAt terms s
apart rows [] t s h = (tt, tt)
apart rows (term.Named name ∷ terms) t s h = let rest = apart rows terms t s h.1 in ((h.0, rest.0), (tt, rest.1))
apart rows (term.Hours given ∷ terms) t s h = let rest = apart rows terms t s h.1 in ((tt, rest.0), (h.0, rest.1))

pub together : (rows : List MeansRow) (terms : List Term) (t : ℕ) (s : ℤ) → EachHoldsFor rows terms t → EachHoldsAt terms s
    → EachHolds rows terms t s
together rows [] t s f g = tt
together rows (term.Named name ∷ terms) t s f g = (f.0, together rows terms t s f.1 g.1)
together rows (term.Hours given ∷ terms) t s f g = (g.0, together rows terms t s f.1 g.1)

-- ---- one term more, in a loop

-- the hours so far, with those of the terms that are left, are those of all
abbrev pub HoursLeft : Option Expr → List Term → List Term → Type 0
HoursLeft hours rest terms = (s : ℤ) → (HoursHold hours s × EachHoldsAt rest s) ↔ EachHoldsAt terms s

pub hours_more : (before after : Option Expr) (term : Term) (more rest terms : List Term) → rest ≡ term ∷ more
    → ((s : ℤ) → HoursHold after s ↔ (HoursHold before s × HoldsAt term s)) → HoursLeft before rest terms
    → HoursLeft after more terms
hours_more before after term more rest terms split step left =
    let open' = subst (λ (r : List Term). HoursLeft before r terms) split left in λ s. (
      (λ h. let both = (step s).0 h.0 in (open' s).0 (both.0, (both.1, h.1))),
      (λ h. let all = (open' s).1 h in ((step s).1 (all.0, all.1.0), all.1.1)),
    )

-- the same of types
abbrev pub TypesLeft : List MeansRow → Types → List Term → (ℕ → Type 0) → Type 0
TypesLeft rows types rest All = (t : ℕ) → IsVehicle t → (HasType types t × EachHoldsFor rows rest t) ↔ All t

pub types_more : (rows : List MeansRow) (before after : Types) (term : Term) (more rest : List Term) (All : ℕ → Type 0)
    → rest ≡ term ∷ more
    → ((t : ℕ) → IsVehicle t → HasType after t ↔ (HasType before t × HoldsFor rows term t)) → TypesLeft rows before rest All
    → TypesLeft rows after more All
types_more rows before after term more rest All split step left =
    let open' = subst (λ (r : List Term). TypesLeft rows before r All) split left in λ t is. (
      (λ h. let both = (step t is).0 h.0 in (open' t is).0 (both.0, (both.1, h.1))),
      (λ h. let all = (open' t is).1 h in ((step t is).1 (all.0, all.1.0), all.1.1)),
    )

-- ---- a step

-- types for which the terms hold, and the hours of the terms: both together are the terms
pub step_applies : (rows : List MeansRow) (mode : Vehicles) (terms : List Term) (types : Types) (hours : Option Expr)
    → ((t : ℕ) → IsVehicle t → HasType types t ↔ (Serves mode t × EachHoldsFor rows terms t))
    → ((s : ℤ) → HoursHold hours s ↔ EachHoldsAt terms s) → (t : ℕ) (s : ℤ) → IsVehicle t
    → (HasType types t × HoursHold hours s) ↔ (Serves mode t × EachHolds rows terms t s)
step_applies rows mode terms types hours of_types of_hours t s is = (
  (λ h. let both = (of_types t is).0 h.0 in (both.0, together rows terms t s both.1 ((of_hours s).0 h.1))),
  (λ h. let both = apart rows terms t s h.1 in ((of_types t is).1 (h.0, both.0), (of_hours s).1 both.1)),
)
