-- What the reach of places in brackets says: an offset goes that far exactly if it suits each of them.
use Rattle.std.proofs.Common.{◌≡◌, ℕ, ◌+◌, ◌*◌, ◌<◌, ◌≤◌, Bool, true, false, Option, Some, None, refl, sym, ap, subst, arith}
use Rattle.std.specs.Prelude.{◌-◌, nat_le, if◌then◌else◌}
use Rattle.std.proofs.lemmas.Bool.{le-leb, leb-true, leb-false}
use Rattle.gtd_hours_parts.specs.declared.piece.Offset.{Offset}
use Rattle.gtd_hours_moves.specs.Grammar.{IsOffset, Suits}
use Rattle.gtd_hours_moves.specs.Sound.{Reaches, ReachesTo}
use Rattle.gtd_hours_moves.specs.Moves.{back_most, back_reach, front_reach}

-- no offset goes as far as 0
nowhere : (before : Bool) (days : ℕ) → Reaches 0 before days → ⊥
nowhere true days r = omega (arith, r)
nowhere false days r = omega (arith, r)

-- ---- a place from the beginning of the month

front_wide : (reach place : ℕ) (before : Bool) (days : ℕ) → place ≤ 4 → Reaches reach before days
    → Reaches (front_reach reach place) before days
front_wide reach place before days le r =
    subst (λ (b : Bool). Reaches (if b then reach else 0) before days) (sym (le-leb place 4 le)) r

pub front_reached : (reach place : ℕ) (offset : Option Offset) → Suits offset false place → ReachesTo reach offset
    → ReachesTo (front_reach reach place) offset
front_reached reach place None s r = r
front_reached reach place (Some o) s r = front_wide reach place o.is_before o.days.value s.0 r

record Front (reach place : ℕ) (before : Bool) (days : ℕ) : Type 0 where
  early : place ≤ 4
  reaches : Reaches reach before days

front_by : (b : Bool) (reach place : ℕ) (before : Bool) (days : ℕ) → nat_le place 4 ≡ b
    → Reaches (if b then reach else 0) before days → Front reach place before days
front_by true reach place before days e r = record { early = leb-true place 4 e; reaches = r }
front_by false reach place before days e r = absurd (nowhere before days r)

pub front_suits : (reach place : ℕ) (offset : Option Offset) → IsOffset offset → ReachesTo (front_reach reach place) offset
    → Suits offset false place
front_suits reach place None is r = record {}
front_suits reach place (Some o) is r =
    let front = front_by (nat_le place 4) reach place o.is_before o.days.value refl r in
    (front.early, is.3, λ e. is.2, λ e f. absurd cc)

pub front_narrow : (reach place : ℕ) (offset : Option Offset) → ReachesTo (front_reach reach place) offset
    → ReachesTo reach offset
front_narrow reach place None r = r
front_narrow reach place (Some o) r = (front_by (nat_le place 4) reach place o.is_before o.days.value refl r).reaches

-- ---- a place from the end of the month

most_early : (place : ℕ) → place ≤ 4 → back_most place ≡ 29 - 7 * place
most_early place le = ap (λ (b : Bool). if b then 29 - 7 * place else 0) (le-leb place 4 le)

most_wide : (place : ℕ) (before : Bool) (days : ℕ) → place ≤ 4 → (before ≡ true → 7 * place + days ≤ 28)
    → Reaches (back_most place) before days
most_wide place true days le few = subst (λ (n : ℕ). days < n) (sym (most_early place le)) (omega (arith, few refl))
most_wide place false days le few = subst (λ (n : ℕ). 1 ≤ n) (sym (most_early place le)) (omega (arith, le))

either : (b : Bool) (m n : ℕ) (before : Bool) (days : ℕ) → Reaches m before days → Reaches n before days
    → Reaches (if b then m else n) before days
either true m n before days h k = h
either false m n before days h k = k

pub back_reached : (reach place : ℕ) (offset : Option Offset) → Suits offset true place → ReachesTo reach offset
    → ReachesTo (back_reach reach place) offset
back_reached reach place None s r = r
back_reached reach place (Some o) s r =
    either (nat_le reach (back_most place)) reach (back_most place) o.is_before o.days.value r
    (most_wide place o.is_before o.days.value s.0 (λ e. s.3 e refl))

further : (m n : ℕ) (before : Bool) (days : ℕ) → m ≤ n → Reaches m before days → Reaches n before days
further m n true days le r = omega (arith, le, r)
further m n false days le r = omega (arith, le, r)

record Back (reach most : ℕ) (before : Bool) (days : ℕ) : Type 0 where
  one : Reaches reach before days
  other : Reaches most before days

back_by : (b : Bool) (reach most : ℕ) (before : Bool) (days : ℕ) → nat_le reach most ≡ b
    → Reaches (if b then reach else most) before days → Back reach most before days
back_by true reach most before days e r =
    record { one = r; other = further reach most before days (leb-true reach most e) r }
back_by false reach most before days e r =
    record { one = further most reach before days (omega (arith, leb-false reach most e)) r; other = r }

record Early (place : ℕ) (before : Bool) (days : ℕ) : Type 0 where
  early : place ≤ 4
  few : before ≡ true → 7 * place + days ≤ 28

most_by : (b : Bool) (place : ℕ) (before : Bool) (days : ℕ) → nat_le place 4 ≡ b
    → Reaches (if b then 29 - 7 * place else 0) before days → Early place before days
most_by true place true days e r = record { early = leb-true place 4 e; few = λ f. omega (arith, r) }
most_by true place false days e r = record { early = leb-true place 4 e; few = λ f. absurd cc }
most_by false place before days e r = absurd (nowhere before days r)

back_both : (reach place : ℕ) (o : Offset) → ReachesTo (back_reach reach place) (Some o)
    → Back reach (back_most place) o.is_before o.days.value
back_both reach place o r =
    back_by (nat_le reach (back_most place)) reach (back_most place) o.is_before o.days.value refl r

pub back_suits : (reach place : ℕ) (offset : Option Offset) → IsOffset offset → ReachesTo (back_reach reach place) offset
    → Suits offset true place
back_suits reach place None is r = record {}
back_suits reach place (Some o) is r =
    let both = back_both reach place o r in
    let early = most_by (nat_le place 4) place o.is_before o.days.value refl both.other in
    (early.early, is.3, λ e. is.2, λ e f. early.few e)

pub back_narrow : (reach place : ℕ) (offset : Option Offset) → ReachesTo (back_reach reach place) offset
    → ReachesTo reach offset
back_narrow reach place None r = r
back_narrow reach place (Some o) r = (back_both reach place o r).one

-- ---- from the beginning of the brackets

far_by : (before : Bool) (days : ℕ) → days ≤ 27 → Reaches 28 before days
far_by true days le = omega (arith, le)
far_by false days le = omega arith

pub far : (offset : Option Offset) → IsOffset offset → ReachesTo 28 offset
far None is = record {}
far (Some o) is = far_by o.is_before o.days.value is.3
