-- What a table of holidays must say for selectors.
use Rattle.std.proofs.Common.{◌≡◌, subst, arith, ◌<◌, ◌+◌, ℕ, zero, suc, List, [], ◌∷◌, ◌++◌}
use Rattle.std.proofs.Common.{length, take, get_or, inl, inr, sym, Some, ℤ, pos, ◌+ℤ◌}
use Rattle.gtd_calendar.specs.facts.Signed.{signed_arith}
use Rattle.gtd_calendar.specs.Calendar.{first_day}
use Rattle.gtd_hours_holidays.specs.Days.{AreAll, IsFirstWithout}
use Rattle.gtd_hours_holidays.specs.Table.{IsCovered}
use Rattle.gtd_hours_holidays.specs.declared.known_years.KnownYears.{KnownYears}
use Rattle.gtd_hours_holidays.specs.declared.row.HolidayKind.{HolidayKind}
use Rattle.gtd_hours_holidays.specs.declared.row.HolidayRow.{HolidayRow}
use Rattle.gtd_hours_days.specs.Listed.{CoversAll, CoversYears, HasAlike, IsAlike, IsFirstUncovered, IsUncovered, kind_of}
use Rattle.gtd_hours_days.specs.declared.listed.Listed.{Listed}

module _ (rows : List HolidayRow) (years : KnownYears) (kind : HolidayKind) (first last : ℤ)
    (begins : first ≡ first_day (pos years.first)) (ends : last +ℤ pos 1 ≡ first_day (pos (years.last + 1))) where
  pub covers : AreAll (IsCovered rows kind) first last → CoversYears rows years (Some kind)
  covers all n of =
      let a = of.0 in
      let b = of.1 in
      all n (omega (arith, signed_arith, begins, a)) (omega (arith, signed_arith, ends, b))

  pub uncovered : (day : ℤ) → IsFirstWithout (IsCovered rows kind) first last day → IsFirstUncovered rows years kind day
  uncovered day h =
      let a = h.after in
      let b = h.before in
      record {
        of_years = (omega (arith, signed_arith, begins, a), omega (arith, signed_arith, ends, b));
        uncovered = h.fails;
        earlier = λ n of lt. let c = of.0 in h.earlier n (omega (arith, signed_arith, begins, c)) lt;
      }

-- one more selector
pub covers_more : (rows : List HolidayRow) (years : KnownYears) (so_far : List Listed) (listed : Listed)
    → CoversAll rows years so_far → CoversYears rows years (kind_of listed) → CoversAll rows years (so_far ++ listed ∷ [])
covers_more rows years [] listed all is = (is, tt)
covers_more rows years (x ∷ xs) listed all is = (all.0, covers_more rows years xs listed all.1 is)

-- what is missing for a selector
abbrev pub IsMissing : List HolidayRow → KnownYears → Listed → ℤ → Type 0
IsMissing rows years listed day =
    (kind : HolidayKind) × (kind_of listed ≡ Some kind) × IsFirstUncovered rows years kind day

-- a selector of which one before is like it
pub covers_again : (rows : List HolidayRow) (years : KnownYears) (so_far : List Listed) (listed : Listed)
    → CoversAll rows years so_far → HasAlike so_far listed → CoversYears rows years (kind_of listed)
covers_again rows years [] listed all is = absurd is
covers_again rows years (x ∷ xs) listed all (inl alike) = subst (CoversYears rows years) (sym alike.kind) all.0
covers_again rows years (x ∷ xs) listed all (inr more) = covers_again rows years xs listed all.1 more

pub alike_at : (xs : List Listed) (place earlier : ℕ) (one other : Listed) → earlier < place → place < length xs
    → other ≡ get_or xs earlier other → IsAlike one other → HasAlike (take place xs) one
alike_at [] place earlier one other lt within at is = absurd (omega (arith, within))
alike_at (x ∷ xs) zero earlier one other lt within at is = absurd (omega (arith, lt))
alike_at (x ∷ xs) (suc place) zero one other lt within at is = inl (subst (IsAlike one) at is)
alike_at (x ∷ xs) (suc place) (suc earlier) one other lt within at is =
    inr (alike_at xs place earlier one other (omega (arith, lt)) (omega (arith, within)) at is)

-- the first selector for which a day is missing
pub uncovered_at : (rows : List HolidayRow) (years : KnownYears) (xs : List Listed) (place : ℕ) (listed : Listed) (day : ℤ)
    → place < length xs → listed ≡ get_or xs place listed → CoversAll rows years (take place xs)
    → IsMissing rows years listed day → IsUncovered rows years xs place day
uncovered_at rows years [] place listed day lt e all is = absurd (omega (arith, lt))
uncovered_at rows years (x ∷ xs) zero listed day lt e all is =
    subst (λ (l : Listed). IsMissing rows years l day) e is
uncovered_at rows years (x ∷ xs) (suc place) listed day lt e all is =
    (all.0, uncovered_at rows years xs place listed day (omega (arith, lt)) e all.1 is)
