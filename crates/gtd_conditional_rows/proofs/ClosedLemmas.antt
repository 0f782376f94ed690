-- What steps make of times is what the last step that applies says.
use Rattle.std.proofs.Common.{◌≡◌, ◌↔◌, ◌⊎◌, ◌<◌, ℕ, ℤ, Bool, true, false, List, [], ◌∷◌, Option, Some, None, refl, inl, inr}
use Rattle.std.proofs.Common.{arith, IsTrue, if◌then◌else◌}
use Rattle.gtd_core.specs.Ranges.{no_parts}
use Rattle.gtd_core.specs.Trees.{tree_of}
use Rattle.gtd_core.specs.declared.domain.Expr.{Expr}
use Rattle.gtd_core.specs.facts.Deciding.{Decided}
use Rattle.gtd_calendar.specs.declared.day.DayFields.{DayFields}
use Rattle.gtd_recur.specs.FieldMatches.{HoldsOnDay}
use Rattle.gtd_eval.specs.Membership.{InTree}
use Rattle.gtd_eval.specs.facts.TreeDecisions.{in_tree}
use Rattle.gtd_hours_leaves.specs.declared.clock.Clock.{Clock}
use Rattle.gtd_hours_leaves.specs.facts.LeafFacts.{each-days}
use Rattle.gtd_conditional_rows.specs.Steps.{HoursHold, IsClosed, NoneApplies}
use Rattle.gtd_conditional_rows.specs.Times.{Times, Never, Always, Within, InTimes, every_day, said, times_after, times_by}
use Rattle.gtd_conditional_rows.specs.Times.{times_of}
use Rattle.gtd_conditional_rows.specs.Types.{has_type}
use Rattle.gtd_conditional_means.specs.declared.meaning.Access.{Access}
use Rattle.gtd_conditional_means.specs.declared.meaning.Access.TheVariants.{Open, Closed}
use Rattle.gtd_conditional_rows.specs.declared.step.Step.{Step}

-- the whole of each day has each second
abbrev midnight : Clock
midnight = record { hour = 0; minute = 0; in_range = (omega arith, omega arith) }

any-day : (f : DayFields) → HoldsOnDay no_parts f
any-day f = record { year = tt; month = tt; week = tt; day = tt; nth = tt; nth_back = tt; weekdays = inl refl }

every_day-has : (s : ℤ) → InTree every_day s
every_day-has s =
    let few : 0 < 1 = omega arith in
    (each-days every_day no_parts midnight 1 refl s).1 (0, few, any-day _)

hours-decided : (hours : Option Expr) (s : ℤ) → Decided (HoursHold hours s)
hours-decided None s = inl tt
hours-decided (Some hours) s = in_tree (tree_of hours) s

-- hours that close, and hours that open
closes : (hours : Option Expr) (times : Times) (s : ℤ)
    → InTimes (said Closed hours times) s ↔ (HoursHold hours s ⊎ InTimes times s)
closes None times s = (λ h. inl tt, λ h. tt)
closes (Some hours) Never s = (λ x. inl x, λ x. elim x [ inl a ↦ a | inr b ↦ absurd b ])
closes (Some hours) Always s = (λ x. inr tt, λ x. tt)
closes (Some hours) (Within tree) s =
    (λ x. elim x [ inl a ↦ inr a | inr b ↦ inl b ], λ x. elim x [ inl a ↦ inr a | inr b ↦ inl b ])

opens : (hours : Option Expr) (times : Times) (s : ℤ)
    → InTimes (said Open hours times) s ↔ (InTimes times s × (HoursHold hours s → ⊥))
opens None times s = (λ x. absurd x, λ x. x.1 tt)
opens (Some hours) Never s = (λ x. absurd x, λ x. x.0)
opens (Some hours) Always s = (λ x. (tt, x.1), λ x. (every_day-has s, x.1))
opens (Some hours) (Within tree) s = (λ x. (x.0, x.1), λ x. (x.0, x.1))

-- a step closes, or does not apply
said-closed : (has : Bool) (access : Access) (hours : Option Expr) (times : Times) (s : ℤ)
    → InTimes (if has then said access hours times else times) s
    ↔ (((access ≡ Closed) × (IsTrue has × HoursHold hours s)) ⊎ (((IsTrue has × HoursHold hours s) → ⊥) × InTimes times s))
said-closed false access hours times s = (
  (λ x. inr ((λ a. let e : IsTrue false = a.0 in cc), x)),
  (λ x. elim x [ inl a ↦ (let e : IsTrue false = a.1.0 in cc) | inr b ↦ b.1 ]),
)
said-closed true Closed hours times s =
    let same = closes hours times s in (
      (λ x. elim (same.0 x) [
        | inl h ↦ inl (refl, (refl, h))
        | inr y ↦ elim (hours-decided hours s) [ inl h ↦ inl (refl, (refl, h)) | inr never ↦ inr ((λ a. never a.1), y) ]
      ]),
      (λ x. elim x [ inl a ↦ same.1 (inl a.1.1) | inr b ↦ same.1 (inr b.1) ]),
    )
said-closed true Open hours times s =
    let same = opens hours times s in (
      (λ x. let y = same.0 x in inr ((λ a. y.1 a.1), y.0)),
      (λ x. elim x [ inl a ↦ (let e : Open ≡ Closed = a.0 in cc) | inr b ↦ same.1 (b.1, λ h. b.0 (refl, h)) ]),
    )

pub after-closed : (steps : List Step) (t : ℕ) (times : Times) (s : ℤ)
    → InTimes (times_after steps t times) s ↔ ((NoneApplies steps t s × InTimes times s) ⊎ IsClosed steps t s)
after-closed [] t times s = (λ x. inl (tt, x), λ x. elim x [ inl a ↦ a.1 | inr b ↦ absurd b ])
after-closed (step ∷ later) t times s =
    let rest = after-closed later t (times_by step t times) s in
    let one = said-closed (has_type step.types t) step.access step.hours times s in (
      (λ x. elim (rest.0 x) [
        | inl a ↦ elim (one.0 a.1) [ inl c ↦ inr (inl (c.0, c.1, a.0)) | inr d ↦ inl ((d.0, a.0), d.1) ]
        | inr b ↦ inr (inr b)
      ]),
      (λ x. elim x [
        | inl a ↦ rest.1 (inl (a.0.1, one.1 (inr (a.0.0, a.1))))
        | inr b ↦ elim b [ inl c ↦ rest.1 (inl (c.2, one.1 (inl (c.0, c.1)))) | inr d ↦ rest.1 (inr d) ]
      ]),
    )

-- steps close a vehicle type at the seconds of its times
pub times-closed : (steps : List Step) (t : ℕ) (s : ℤ) → InTimes (times_of steps t) s ↔ IsClosed steps t s
times-closed steps t s =
    let same = after-closed steps t Never s in (
      (λ x. elim (same.0 x) [ inl a ↦ absurd a.1 | inr b ↦ b ]),
      (λ x. same.1 (inr x)),
    )
