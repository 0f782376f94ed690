-- Parts and what they are lowered to hold on the same days.
use Rattle.std.proofs.Common.{◌≡◌, ◌↔◌, ◌⊎◌, inl, inr, sym, subst, ℕ, Bool, true, false, ℤ}
use Rattle.std.specs.Prelude.{nat_le}
use Rattle.std.proofs.lemmas.Bool.{leb-false}
use Rattle.gtd_calendar.specs.declared.day.DayFields.{DayFields}
use Rattle.gtd_hours.specs.Opening.{HoldsOn, IsStep}
use Rattle.gtd_hours.specs.declared.hours.Selector.{Selector}
use Rattle.gtd_hours2.specs.Opening.{IsInWeeks}
use Rattle.gtd_hours2.specs.declared.values.RulePart.TheVariants as part
use Rattle.gtd_hours_days2.specs.Lowered.{IsLoweredAlways}
use Rattle.gtd_hours_days2.specs.declared.lowered.Lowered.TheVariants as low
use Rattle.gtd_hours_days2.proofs.PartFacts.{back-holds, week-in}

-- ---- weeks

weeks_by : (goes_on : Bool) (first last step k : ℕ) → nat_le first last ≡ goes_on → (P : Type 0)
    → (P ↔ IsInWeeks goes_on first last step k) → P ↔ IsInWeeks (nat_le first last) first last step k
weeks_by goes_on first last step k e P h = subst (λ (b : Bool). P ↔ IsInWeeks b first last step k) (sym e) h

pub forward-lowered : (first last step : ℕ) (x : Selector) → nat_le first last ≡ true
    → ((n : ℤ) (f : DayFields) → HoldsOn x n f ↔ IsStep first last step f.week)
    → IsLoweredAlways (part.Weeks first last step) (low.One x)
forward-lowered first last step x e holds =
    λ known clocks n f fields. weeks_by true first last step f.week e (HoldsOn x n f) (holds n f)

pub back-lowered : (first last step : ℕ) (x y : Selector) → nat_le first last ≡ false
    → ((n : ℤ) (f : DayFields) → HoldsOn x n f ↔ IsStep first 53 1 f.week)
    → ((n : ℤ) (f : DayFields) → HoldsOn y n f ↔ IsStep 1 last 1 f.week)
    → IsLoweredAlways (part.Weeks first last step) (low.Two x y)
back-lowered first last step x y e late early =
    λ known clocks n f fields.
    let both = back-holds first last f.week (leb-false first last e) (week-in n f fields) in
    weeks_by false first last step f.week e (HoldsOn x n f ⊎ HoldsOn y n f) (
      (λ h. both.0 (elim h [ inl a ↦ inl ((late n f).0 a) | inr a ↦ inr ((early n f).0 a) ])),
      (λ h. elim (both.1 h) [ inl a ↦ inl ((late n f).1 a) | inr a ↦ inr ((early n f).1 a) ]),
    )
