-- What rows say of days, and which of them are covered.
use Rattle.std.proofs.Common.{◌≡◌, ◌∙◌, ap, refl, sym, subst, arith, ◌<◌, ◌⊎◌, inl, inr, ◌+◌, ◌↔◌, ℕ, zero, suc}
use Rattle.std.proofs.Common.{Bool, true, false, List, [], ◌∷◌, ◌++◌, length, get_or, ℤ, ◌≤ℤ◌}
use Rattle.std.proofs.lemmas.Int.{by_lt_z}
use Rattle.std.specs.Prelude.{IsTrue}
use Rattle.gtd_calendar.specs.facts.Signed.{signed_arith}
use Rattle.gtd_hours_holidays.specs.Covering.{IsAfterRow, IsCoveredUntil}
use Rattle.gtd_hours_holidays.specs.Days.{AreAll, IsFirstWithout, IsIn}
use Rattle.gtd_hours_holidays.specs.Reading.{IsAdded}
use Rattle.gtd_hours_holidays.specs.Table.{AreOutside, IsCovered, IsInside, IsOfRow, IsOfRows}
use Rattle.gtd_hours_holidays.specs.declared.days.Days.{Days}
use Rattle.gtd_hours_holidays.specs.declared.fault.HolidaysFault.{HolidaysFault}
use Rattle.gtd_hours_holidays.specs.declared.fault.HolidaysFault.TheVariants as fault
use Rattle.gtd_hours_holidays.specs.declared.row.HolidayKind.{HolidayKind}
use Rattle.gtd_hours_holidays.specs.declared.row.HolidayRow.{HolidayRow}

-- ---- the days of rows

regroup : (A B C D : Type 0) → D ↔ (B ⊎ C) → (A ⊎ D) ↔ ((A ⊎ B) ⊎ C)
regroup A B C D same = (there, back)
  where
    apart : B ⊎ C → (A ⊎ B) ⊎ C
    apart (inl h) = inl (inr h)
    apart (inr h) = inr h

    there : A ⊎ D → (A ⊎ B) ⊎ C
    there (inl h) = inl (inl h)
    there (inr h) = apart (same.0 h)

    back : (A ⊎ B) ⊎ C → A ⊎ D
    back (inl (inl h)) = inl h
    back (inl (inr h)) = inr (same.1 (inl h))
    back (inr h) = inr (same.1 (inr h))

-- one more row
pub of_more : (kind : HolidayKind) (covers : Bool) (n : ℤ) (rows : List HolidayRow) (row : HolidayRow)
    → IsOfRows kind covers n (rows ++ row ∷ []) ↔ (IsOfRows kind covers n rows ⊎ IsOfRow kind covers n row)
of_more kind covers n [] row = (there, back)
  where
    there : IsOfRow kind covers n row ⊎ ⊥ → ⊥ ⊎ IsOfRow kind covers n row
    there (inl h) = inr h
    there (inr h) = inl h

    back : ⊥ ⊎ IsOfRow kind covers n row → IsOfRow kind covers n row ⊎ ⊥
    back (inl h) = inr h
    back (inr h) = inl h
of_more kind covers n (first ∷ rows) row =
    regroup (IsOfRow kind covers n first) (IsOfRows kind covers n rows) (IsOfRow kind covers n row)
    (IsOfRows kind covers n (rows ++ row ∷ [])) (of_more kind covers n rows row)

-- one of the rows
pub has_row : (kind : HolidayKind) (covers : Bool) (n : ℤ) (rows : List HolidayRow) (at : ℕ) (row : HolidayRow)
    → at < length rows → row ≡ get_or rows at row → IsOfRow kind covers n row → IsOfRows kind covers n rows
has_row kind covers n [] at row lt e h = absurd (omega (arith, lt))
has_row kind covers n (x ∷ rows) zero row lt e h = inl (subst (IsOfRow kind covers n) e h)
has_row kind covers n (x ∷ rows) (suc at) row lt e h = inr (has_row kind covers n rows at row (omega (arith, lt)) e h)

-- none of them so far, and not the next
pub none_more : (kind : HolidayKind) (covers : Bool) (n : ℤ) (rows : List HolidayRow) (row : HolidayRow)
    → (IsOfRows kind covers n rows → ⊥) → (IsOfRow kind covers n row → ⊥) → IsOfRows kind covers n (rows ++ row ∷ []) → ⊥
none_more kind covers n rows row before here h = elim ((of_more kind covers n rows row).0 h) [ inl a ↦ before a | inr b ↦ here b ]

-- the days of one more row are added to those of the rows
pub days_more : (kind : HolidayKind) (covers : Bool) (old new : Days) (rows : List HolidayRow) (row : HolidayRow)
    → ((n : ℤ) → IsIn old n ↔ IsOfRows kind covers n rows)
    → ((n : ℤ) → IsIn new n ↔ (IsIn old n ⊎ IsOfRow kind covers n row))
    → (n : ℤ) → IsIn new n ↔ IsOfRows kind covers n (rows ++ row ∷ [])
days_more kind covers old new rows row before added n = (
  (λ h. (of_more kind covers n rows row).1 (there ((added n).0 h))),
  (λ h. (added n).1 (back ((of_more kind covers n rows row).0 h))),
)
  where
    there : IsIn old n ⊎ IsOfRow kind covers n row → IsOfRows kind covers n rows ⊎ IsOfRow kind covers n row
    there (inl h) = inl ((before n).0 h)
    there (inr h) = inr h

    back : IsOfRows kind covers n rows ⊎ IsOfRow kind covers n row → IsIn old n ⊎ IsOfRow kind covers n row
    back (inl h) = inl ((before n).1 h)
    back (inr h) = inr h

-- the days of a row that is of the kind
pub row_added : (kind : HolidayKind) (covers : Bool) (old new : Days) (row : HolidayRow)
    → (row.kind ≡ kind) × (row.covers ≡ covers)
    → ((n : ℤ) → IsIn new n ↔ (IsIn old n ⊎ ((row.first ≤ℤ n) × (n ≤ℤ row.last))))
    → (n : ℤ) → IsIn new n ↔ (IsIn old n ⊎ IsOfRow kind covers n row)
row_added kind covers old new row is added n = ((λ h. there ((added n).0 h)), (λ h. (added n).1 (back h)))
  where
    there : IsIn old n ⊎ ((row.first ≤ℤ n) × (n ≤ℤ row.last)) → IsIn old n ⊎ IsOfRow kind covers n row
    there (inl h) = inl h
    there (inr h) = inr (is.0, is.1, h.0, h.1)

    back : IsIn old n ⊎ IsOfRow kind covers n row → IsIn old n ⊎ ((row.first ≤ℤ n) × (n ≤ℤ row.last))
    back (inl h) = inl h
    back (inr h) = inr (h.2, h.3)

-- another row has none
pub row_other : (kind : HolidayKind) (covers : Bool) (days : Days) (row : HolidayRow)
    → ((row.kind ≡ kind) × (row.covers ≡ covers) → ⊥) → (n : ℤ) → IsIn days n ↔ (IsIn days n ⊎ IsOfRow kind covers n row)
row_other kind covers days row apart n = (inl, back)
  where
    back : IsIn days n ⊎ IsOfRow kind covers n row → IsIn days n
    back (inl h) = h
    back (inr h) = absurd (apart (h.0, h.1))

-- ---- rows that are covered

-- what covers is that all days of the row are in the set
pub inside_if : (all : List HolidayRow) (row : HolidayRow) (kind : HolidayKind) (covered : Days) (b : Bool)
    → ((n : ℤ) → IsIn covered n ↔ IsCovered all kind n) → row.kind ≡ kind → row.covers ≡ false
    → IsTrue b ↔ AreAll (IsIn covered) row.first row.last → IsTrue b ↔ IsInside all row
inside_if all row kind covered b are same holidays is = (there, back)
  where
    there : IsTrue b → IsInside all row
    there h says n low high = rw same ((are n).0 (is.0 h n low high))

    back : IsInside all row → IsTrue b
    back inside = is.1 (λ n low high. (are n).1 (rw same at (inside holidays n low high)))

-- a row that covers days is not asked about
pub covering_inside : (all : List HolidayRow) (row : HolidayRow) → row.covers ≡ true → IsInside all row
covering_inside all row covers says = cc

-- ---- the list of rows that are not

module _ (all : List HolidayRow) where
  pub inside_more : (k : ℕ) (rows : List HolidayRow) (row : HolidayRow) (faults : List HolidaysFault)
      → AreOutside all k rows faults → IsInside all row → AreOutside all k (rows ++ row ∷ []) faults
  inside_more k [] row faults are here = ([], refl, inl (here, are))
  inside_more k (first ∷ rows) row faults (others, more, inl p) here =
      (others, inside_more (k + 1) rows row others more here, inl p)
  inside_more k (first ∷ rows) row faults (others, more, inr p) here =
      (others, inside_more (k + 1) rows row others more here, inr p)

  pub outside_more : (k : ℕ) (rows : List HolidayRow) (row : HolidayRow) (faults : List HolidaysFault) (number : ℕ)
      → number ≡ k + length rows → AreOutside all k rows faults → (IsInside all row → ⊥)
      → AreOutside all k (rows ++ row ∷ []) (faults ++ fault.Outside number ∷ [])
  outside_more k [] row faults number e are here =
      let same : number ≡ k = omega (arith, e) in
      rw (are, same) ([], refl, inr (here, refl))
  outside_more k (first ∷ rows) row faults number e (others, more, inl p) here = (
    others ++ fault.Outside number ∷ [],
    outside_more (k + 1) rows row others number (omega (arith, e)) more here,
    inl (p.0, ap (λ (l : List HolidaysFault). l ++ fault.Outside number ∷ []) p.1),
  )
  outside_more k (first ∷ rows) row faults number e (others, more, inr p) here = (
    others ++ fault.Outside number ∷ [],
    outside_more (k + 1) rows row others number (omega (arith, e)) more here,
    inr (p.0, ap (λ (l : List HolidaysFault). l ++ fault.Outside number ∷ []) p.1),
  )

  -- one of both
  pub added_outside : (rows : List HolidayRow) (row : HolidayRow) (old new : List HolidaysFault) (number : ℕ)
      → number ≡ 1 + length rows → AreOutside all 1 rows old → IsAdded all row number old new
      → AreOutside all 1 (rows ++ row ∷ []) new
  added_outside rows row old new number e are (inl p) = rw (p.1) (inside_more 1 rows row old are p.0)
  added_outside rows row old new number e are (inr p) = rw (p.1) (outside_more 1 rows row old number e are p.0)

-- ---- how far rows cover

module _ (kind : HolidayKind) (all : List HolidayRow) (day until : ℤ) (at : ℕ) (row : HolidayRow) (lt : at < length all)
    (e : row ≡ get_or all at row) (so_far : IsCoveredUntil all kind day until) (next : ℤ) where
  -- a row that has the day reached covers up to its last one
  pub covered_more : IsAfterRow kind row until next → IsCoveredUntil all kind day next
  covered_more (inl x) =
      let of = x.0 in
      let is = x.1 in
      let p = so_far.order in
      let low = of.2 in
      let high = of.3 in
      let end = row.last_in.1 in
      record {
        order = omega (arith, signed_arith, is, p, high);
        near = omega (arith, signed_arith, is, end);
        each = λ n above below. by_lt_z n until (λ less. so_far.each n above less)
            (λ ge. has_row kind true n all at row lt e
            (of.0, of.1, omega (arith, signed_arith, low, ge), omega (arith, signed_arith, is, below)));
      }
  covered_more (inr x) = rw (x.1) so_far

  -- and where it is still the first day, no row so far has that
  pub still_none : (before : List HolidayRow) → (until ≡ day → IsOfRows kind true day before → ⊥)
      → IsAfterRow kind row until next → next ≡ day → IsOfRows kind true day (before ++ row ∷ []) → ⊥
  still_none before none (inl x) same h =
      let is = x.1 in
      let high = x.0.3 in
      let p = so_far.order in
      omega (arith, signed_arith, is, high, p, same)
  still_none before none (inr x) same h =
      let e : until ≡ day = sym (x.1) ∙ same in
      none_more kind true day before row (none e) (rw e at x.0) h

-- the day reached is the first that is not covered
pub first_is : (kind : HolidayKind) (rows : List HolidayRow) (from to day : ℤ) → IsCoveredUntil rows kind from day → day ≤ℤ to
    → (IsCovered rows kind day → ⊥) → IsFirstWithout (IsCovered rows kind) from to day
first_is kind rows from to day so_far before not = record {
  after = so_far.order;
  before = before;
  fails = not;
  earlier = so_far.each;
}

pub covered_on : (kind : HolidayKind) (rows : List HolidayRow) (from day until : ℤ) → IsCoveredUntil rows kind from day
    → IsCoveredUntil rows kind day until → IsCoveredUntil rows kind from until
covered_on kind rows from day until so_far more =
    let p = so_far.order in
    let q = more.order in
    record {
      order = omega (arith, signed_arith, p, q);
      near = more.near;
      each = λ n low high. by_lt_z n day (λ lt. so_far.each n low lt) (λ ge. more.each n ge high);
    }
