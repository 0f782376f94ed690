-- A table need say nothing of Easter, and a rule with ranges that move or Easter has more month days.
use Rattle.std.proofs.Common.{◌≡◌, refl, subst, ℕ, zero, suc, ℤ, List, [], ◌∷◌, length, None, Some}
use Rattle.gtd_hours.specs.declared.hours.Selector.{Selector}
use Rattle.gtd_hours_dated.specs.declared.more.MonthItem.{MonthItem}
use Rattle.gtd_hours_days.specs.Listed.{IsUncovered}
use Rattle.gtd_hours_days.specs.declared.listed.EasterDays.{EasterDays}
use Rattle.gtd_hours_days.specs.declared.listed.Listed.{Listed}
use Rattle.gtd_hours_days.specs.declared.coverage.Uncovered.{Uncovered}
use Rattle.gtd_hours_days.specs.declared.selection.ListedFault.{ListedFault}
use Rattle.gtd_hours_days.specs.declared.selection.ListedFault.TheVariants as fault
use Rattle.gtd_hours_holidays.specs.declared.holidays.Holidays.{Holidays}
use Rattle.gtd_hours_holidays.specs.declared.known_years.KnownYears.{KnownYears}
use Rattle.gtd_hours_holidays.specs.declared.row.HolidayKind.{HolidayKind}
use Rattle.gtd_hours_holidays.specs.declared.row.HolidayRow.{HolidayRow}
use Rattle.gtd_hours_known.specs.Easter.{more_days, listed_of}
use Rattle.gtd_hours_known.specs.HolidayDays.{IsDaysFault}

no_kind : (kind : HolidayKind) → None ≡ Some kind → ⊥
no_kind kind e = absurd cc

pub never_uncovered : (rows : List HolidayRow) (years : KnownYears) (easter : List EasterDays) (place : ℕ) (day : ℤ)
    → IsUncovered rows years (listed_of easter) place day → ⊥
never_uncovered rows years [] place day un = un
never_uncovered rows years (x ∷ easter) zero day un = no_kind un.0 un.1
never_uncovered rows years (x ∷ easter) (suc place) day un = never_uncovered rows years easter place day un.1

pub never_fault : (table : Holidays) (years : KnownYears) (easter : List EasterDays) (xs : List Listed) (why : ListedFault)
    (found : Uncovered) → why ≡ fault.Uncovered found → xs ≡ listed_of easter → IsDaysFault table years xs why → ⊥
never_fault table years easter xs why found same e is =
    never_uncovered table.rows.items years easter found.place found.day
    (subst (λ (l : List Listed). IsDaysFault table years l (fault.Uncovered found)) e
    (subst (λ (w : ListedFault). IsDaysFault table years xs w) same is))

pub some_days : (order : List MonthItem) (dates : List Selector) (easter : List EasterDays) (days : List Selector)
    → (length dates ≡ 0 → length easter ≡ 0 → ⊥)
    → more_days order dates easter days ≡ Some (record { order = order; dates = dates; easter = days })
some_days order [] [] days some = absurd (some refl refl)
some_days order [] (h ∷ easter) days some = refl
some_days order (x ∷ dates) easter days some = refl
