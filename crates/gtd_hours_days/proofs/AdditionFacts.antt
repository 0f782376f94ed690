-- The days of holidays and of Easter, added to a set.
use Rattle.std.proofs.Common.{◌≡◌, ◌∙◌, sym, refl, subst, arith, ◌<◌, ◌≤◌, ◌⊎◌, inl, inr, ◌↔◌, ◌+◌, ◌-◌, ℕ, List, [], ◌∷◌, ◌++◌}
use Rattle.std.proofs.Common.{Bool, IsTrue, false, ℤ, pos, neg_ℤ, ◌+ℤ◌, ◌-ℤ◌, ◌≤ℤ◌, ◌<ℤ◌}
use Rattle.std.proofs.lemmas.Bool.{cases_eq, cases_lt}
use Rattle.gtd_calendar.specs.facts.Signed.{signed_arith}
use Rattle.gtd_calendar.specs.Calendar.{IsCalendarDay, IsDate, day_number, first_day, year_length}
use Rattle.gtd_calendar.specs.facts.DateLemmas.{day_number-in_year}
use Rattle.gtd_calendar.specs.facts.YearLemmas.{first_day-next}
use Rattle.gtd_hours_holidays.specs.Easter.{IsEaster}
use Rattle.gtd_hours_holidays.specs.KnownYears.{IsOfYears}
use Rattle.gtd_hours_holidays.specs.Table.{IsHoliday, IsOfRow, IsOfRows}
use Rattle.gtd_hours_holidays.specs.declared.known_years.KnownYears.{KnownYears}
use Rattle.gtd_hours_holidays.specs.declared.row.HolidayKind.{HolidayKind}
use Rattle.gtd_hours_holidays.specs.declared.row.HolidayKind.TheVariants as kind
use Rattle.gtd_hours_holidays.specs.declared.row.HolidayRow.{HolidayRow}
use Rattle.gtd_hours_days.specs.Beginning.{IsBegun}
use Rattle.gtd_hours_days.specs.Listed.{HasAlike, IsEasterSunday, IsKnownHoliday, IsListed, SomeListed}
use Rattle.gtd_hours_days.specs.Parts.{IsNear}
use Rattle.gtd_hours_days.specs.declared.listed.Listed.{Listed}
use Rattle.gtd_hours_days.specs.declared.listed.Listed.TheVariants.{Public, School, Easter}
use Rattle.gtd_hours_days.specs.declared.offset.Offset.{Offset}
use Rattle.gtd_hours_days.proofs.DateFacts.{first_day-1800, first_day-2800, in_order, long_year}

-- ---- days of the years

years_in : (years : KnownYears) → (first_day (pos 1800) ≤ℤ (first_day (pos years.first) -ℤ pos 730))
    × ((first_day (pos (years.last + 1)) +ℤ pos 730) ≤ℤ first_day (pos 2800))
years_in years =
    let range = years.in_range in
    let low = range.0 in
    let high = range.2 in
    (before years.first low, after years.last high)
  where
    two : (y : ℤ) → (first_day y +ℤ pos 730) ≤ℤ first_day (y +ℤ pos 1 +ℤ pos 1)
    two y =
        chain (first_day y) (first_day (y +ℤ pos 1)) (first_day (y +ℤ pos 1 +ℤ pos 1)) (year_length y) (year_length (y +ℤ pos 1))
        (first_day-next y) (first_day-next (y +ℤ pos 1)) (long_year y).0 (long_year (y +ℤ pos 1)).0
      where
        chain : (a b c : ℤ) (k l : ℕ) → b ≡ a +ℤ pos k → c ≡ b +ℤ pos l → 365 ≤ k → 365 ≤ l → (a +ℤ pos 730) ≤ℤ c
        chain a b c k l e f p q = omega (arith, signed_arith, e, f, p, q)

    before : (f : ℕ) → 1802 ≤ f → first_day (pos 1800) ≤ℤ (first_day (pos f) -ℤ pos 730)
    before f low =
        let a = two (pos 1800) in
        let at : pos 1800 +ℤ pos 1 +ℤ pos 1 ≡ pos 1802 = refl in
        let b = in_order (pos 1802) (pos f) (omega (arith, signed_arith, low)) in
        steps (first_day (pos 1800)) (first_day (pos 1802)) (first_day (pos f)) a b
      where
        steps : (a b c : ℤ) → (a +ℤ pos 730) ≤ℤ b → b ≤ℤ c → a ≤ℤ (c -ℤ pos 730)
        steps a b c p q = omega (arith, signed_arith, p, q)

    after : (l : ℕ) → l ≤ 2797 → (first_day (pos (l + 1)) +ℤ pos 730) ≤ℤ first_day (pos 2800)
    after l high =
        let a = two (pos (l + 1)) in
        let b = in_order (pos (l + 1) +ℤ pos 1 +ℤ pos 1) (pos 2800) (omega (arith, signed_arith, high)) in
        steps (first_day (pos (l + 1)) +ℤ pos 730) _ (first_day (pos 2800)) a b
      where
        steps : (a b c : ℤ) → a ≤ℤ b → b ≤ℤ c → a ≤ℤ c
        steps a b c p q = omega (arith, signed_arith, p, q)

-- at most two years before or after the years, all days are in the calendar
pub moved_in : (years : KnownYears) (n k : ℤ) (offset : Offset) → IsOfYears years.first years.last n → k ≡ n +ℤ offset.days
    → IsCalendarDay k
moved_in years n k offset of e =
    let a = years_in years in
    let low = rw first_day-1800 at a.0 in
    let high = rw first_day-2800 at a.1 in
    let p = of.0 in
    let q = of.1 in
    let r = offset.in_range.0 in
    let s = offset.in_range.1 in
    within n k offset.days (first_day (pos years.first)) (first_day (pos (years.last + 1))) low high p q r s e
  where
    within : (n k d a b : ℤ) → neg_ℤ (pos 62_091) ≤ℤ (a -ℤ pos 730) → (b +ℤ pos 730) ≤ℤ pos 303_151
        → a ≤ℤ n → n <ℤ b → neg_ℤ (pos 366) ≤ℤ d → d ≤ℤ pos 366 → k ≡ n +ℤ d → IsCalendarDay k
    within n k d a b low high p q r s e =
        (omega (arith, signed_arith, low, p, r, e), omega (arith, signed_arith, high, q, s, e))

-- the set may begin 366 days before the years, and no day that is added comes before
pub begin_in : (years : KnownYears) (first n : ℤ) → first ≡ first_day (pos years.first) → first ≤ℤ pos 303_150
    → n +ℤ pos 366 ≡ first → IsCalendarDay n
begin_in years first n is high e =
    within first n (first_day (pos years.first)) (rw first_day-1800 at (years_in years).0) is high e
  where
    within : (first n a : ℤ) → neg_ℤ (pos 62_091) ≤ℤ (a -ℤ pos 730) → first ≡ a → first ≤ℤ pos 303_150 → n +ℤ pos 366 ≡ first
        → IsCalendarDay n
    within first n a low is high e = (omega (arith, signed_arith, low, is, e), omega (arith, signed_arith, high, e))

pub begun_at : (years : KnownYears) (base begin : ℤ) → base ≡ begin → begin +ℤ pos 366 ≡ first_day (pos years.first)
    → IsBegun base years
begun_at years base begin e is = within base begin (first_day (pos years.first)) e is
  where
    within : (base begin a : ℤ) → base ≡ begin → begin +ℤ pos 366 ≡ a → (base +ℤ pos 366) ≤ℤ a
    within base begin a e is = omega (arith, signed_arith, e, is)

pub begun_in : (years : KnownYears) (base n : ℤ) → IsBegun base years → IsOfYears years.first years.last n → base ≤ℤ n
begun_in years base n begun of = within base n (first_day (pos years.first)) begun of.0
  where
    within : (base n a : ℤ) → (base +ℤ pos 366) ≤ℤ a → a ≤ℤ n → base ≤ℤ n
    within base n a begun low = omega (arith, signed_arith, begun, low)

pub begun_moved : (years : KnownYears) (base n k : ℤ) (offset : Offset) → IsBegun base years
    → IsOfYears years.first years.last n → k ≡ n +ℤ offset.days → base ≤ℤ k
begun_moved years base n k offset begun of e =
    within base n k offset.days (first_day (pos years.first)) begun of.0 offset.in_range.0 e
  where
    within : (base n k d a : ℤ) → (base +ℤ pos 366) ≤ℤ a → a ≤ℤ n → neg_ℤ (pos 366) ≤ℤ d → k ≡ n +ℤ d → base ≤ℤ k
    within base n k d a begun low few e = omega (arith, signed_arith, begun, low, few, e)

pub added_moved : (IsNew IsOld : ℤ → Type 0) (first last from to d : ℤ) → first ≡ from +ℤ d → last ≡ to +ℤ d
    → ((n : ℤ) → IsNew n ↔ (IsOld n ⊎ ((first ≤ℤ n) × (n ≤ℤ last))))
    → (n : ℤ) → IsNew n ↔ (IsOld n ⊎ ((from ≤ℤ (n -ℤ d)) × ((n -ℤ d) ≤ℤ to)))
added_moved IsNew IsOld first last from to d e f added n = (
  (λ h. elim ((added n).0 h) [
    | inl old ↦ inl old
    | inr x ↦ inr (let a = x.0 in omega (arith, signed_arith, a, e), let b = x.1 in omega (arith, signed_arith, b, f))
  ]),
  (λ h. (added n).1 (elim h [
    | inl old ↦ inl old
    | inr x ↦ inr (let a = x.0 in omega (arith, signed_arith, a, e), let b = x.1 in omega (arith, signed_arith, b, f))
  ])),
)

-- ---- the part of a stretch of days that lies in the years

module _ (years : KnownYears) (first last begin end from to : ℤ)
    (begins : begin ≡ first_day (pos years.first)) (ends : end +ℤ pos 1 ≡ first_day (pos (years.last + 1)))
    (low : (first ≤ℤ from) × (begin ≤ℤ from) × ((from ≡ first) ⊎ (from ≡ begin)))
    (high : (to ≤ℤ last) × (to ≤ℤ end) × ((to ≡ last) ⊎ (to ≡ end))) where
  pub part_is : (k : ℤ) → ((from ≤ℤ k) × (k ≤ℤ to))
      ↔ (IsOfYears years.first years.last k × (first ≤ℤ k) × (k ≤ℤ last))
  part_is k = (
    (λ h.
        let a = h.0 in
        let b = h.1 in
        let p = low.0 in
        let q = low.1 in
        let r = high.0 in
        let s = high.1 in (
          (omega (arith, signed_arith, a, q, begins), omega (arith, signed_arith, b, s, ends)),
          omega (arith, signed_arith, a, p),
          omega (arith, signed_arith, b, r),
        )),
    (λ h.
        let a = h.0.0 in
        let b = h.0.1 in
        let p = h.1 in
        let q = h.2 in (
          elim (low.2) [
            | inl e ↦ omega (arith, signed_arith, e, p)
            | inr e ↦ omega (arith, signed_arith, e, a, begins)
          ],
          elim (high.2) [
            | inl e ↦ omega (arith, signed_arith, e, q)
            | inr e ↦ omega (arith, signed_arith, e, b, ends)
          ],
        )),
  )

  pub from_in : from ≤ℤ to → IsOfYears years.first years.last from
  from_in order =
      let q = low.1 in
      let s = high.1 in
      (omega (arith, signed_arith, q, begins), omega (arith, signed_arith, order, s, ends))

  pub to_in : from ≤ℤ to → IsOfYears years.first years.last to
  to_in order =
      let q = low.1 in
      let s = high.1 in
      (omega (arith, signed_arith, order, q, begins), omega (arith, signed_arith, s, ends))

  pub part_added : (IsNew IsOld : ℤ → Type 0) (d : ℤ)
      → ((n : ℤ) → IsNew n ↔ (IsOld n ⊎ ((from ≤ℤ (n -ℤ d)) × ((n -ℤ d) ≤ℤ to))))
      → (n : ℤ) → IsNew n
      ↔ (IsOld n ⊎ (IsOfYears years.first years.last (n -ℤ d) × (first ≤ℤ (n -ℤ d)) × ((n -ℤ d) ≤ℤ last)))
  part_added IsNew IsOld d added n =
      let same = part_is (n -ℤ d) in (
        (λ h. elim ((added n).0 h) [ inl old ↦ inl old | inr x ↦ inr (same.0 x) ]),
        (λ h. (added n).1 (elim h [ inl old ↦ inl old | inr x ↦ inr (same.1 x) ])),
      )

  pub part_none : (IsOld : ℤ → Type 0) (d : ℤ) → to <ℤ from
      → (n : ℤ) → IsOld n
      ↔ (IsOld n ⊎ (IsOfYears years.first years.last (n -ℤ d) × (first ≤ℤ (n -ℤ d)) × ((n -ℤ d) ≤ℤ last)))
  part_none IsOld d empty n = (
    (λ h. inl h),
    (λ h. elim h [
      | inl old ↦ old
      | inr x ↦ (let y = (part_is (n -ℤ d)).1 x in
          let a = y.0 in
          let b = y.1 in
          absurd (omega (arith, signed_arith, a, b, empty)))
    ]),
  )

-- ---- rows

pub row_more : (years : KnownYears) (kind : HolidayKind) (d : ℤ) (rows : List HolidayRow) (row : HolidayRow)
    (IsNew IsMid IsOld : ℤ → Type 0)
    → ((n : ℤ) → IsMid n ↔ (IsOld n ⊎ IsKnownHoliday rows years kind (n -ℤ d)))
    → ((n : ℤ) → IsNew n ↔ (IsMid n ⊎ (IsOfYears years.first years.last (n -ℤ d) × IsOfRow kind false (n -ℤ d) row)))
    → (n : ℤ) → IsNew n ↔ (IsOld n ⊎ IsKnownHoliday (rows ++ row ∷ []) years kind (n -ℤ d))
row_more years kind d rows row IsNew IsMid IsOld mid added n = (
  (λ h. elim ((added n).0 h) [
    | inl m ↦ elim ((mid n).0 m) [ inl old ↦ inl old | inr x ↦ inr (x.0, still rows x.1) ]
    | inr x ↦ inr (x.0, last rows x.1)
  ]),
  (λ h. (added n).1 (elim h [
    | inl old ↦ inl ((mid n).1 (inl old))
    | inr x ↦ elim (which rows x.1) [ inl y ↦ inl ((mid n).1 (inr (x.0, y))) | inr y ↦ inr (x.0, y) ]
  ])),
)
  where
    still : (rs : List HolidayRow) → IsOfRows kind false (n -ℤ d) rs → IsOfRows kind false (n -ℤ d) (rs ++ row ∷ [])
    still [] h = absurd h
    still (r ∷ rs) (inl h) = inl h
    still (r ∷ rs) (inr h) = inr (still rs h)

    last : (rs : List HolidayRow) → IsOfRow kind false (n -ℤ d) row → IsOfRows kind false (n -ℤ d) (rs ++ row ∷ [])
    last [] h = inl h
    last (r ∷ rs) h = inr (last rs h)

    which : (rs : List HolidayRow) → IsOfRows kind false (n -ℤ d) (rs ++ row ∷ [])
        → IsOfRows kind false (n -ℤ d) rs ⊎ IsOfRow kind false (n -ℤ d) row
    which [] (inl h) = inr h
    which [] (inr h) = absurd h
    which (r ∷ rs) (inl h) = inl (inl h)
    which (r ∷ rs) (inr h) = elim (which rs h) [ inl y ↦ inl (inr y) | inr y ↦ inr y ]

pub no_rows : (years : KnownYears) (kind : HolidayKind) (d : ℤ) (IsOld : ℤ → Type 0) (n : ℤ)
    → IsOld n ↔ (IsOld n ⊎ IsKnownHoliday [] years kind (n -ℤ d))
no_rows years kind d IsOld n = ((λ h. inl h), (λ h. elim h [ inl old ↦ old | inr x ↦ absurd x.1 ]))

-- ---- Easter

-- Easter Sunday of one of the years before this one
abbrev pub IsEasterBefore : ℕ → ℕ → ℤ → Type 0
IsEasterBefore first until n = (y : ℕ) × (first ≤ y) × (y < until) × IsEaster y n

pub easter_more : (years : KnownYears) (first until : ℕ) (d day : ℤ) (IsNew IsMid IsOld : ℤ → Type 0) → first ≤ until
    → IsEaster until (day -ℤ d)
    → ((n : ℤ) → IsMid n ↔ (IsOld n ⊎ (IsOfYears years.first years.last n × IsEasterBefore first until (n -ℤ d))))
    → ((n : ℤ) → IsNew n ↔ (IsMid n ⊎ (IsOfYears years.first years.last n × (n ≡ day))))
    → (n : ℤ) → IsNew n ↔ (IsOld n ⊎ (IsOfYears years.first years.last n × IsEasterBefore first (until + 1) (n -ℤ d)))
easter_more years first until d day IsNew IsMid IsOld order is mid added n = (
  (λ h. elim ((added n).0 h) [
    | inl m ↦ elim ((mid n).0 m) [
      | inl old ↦ inl old
      | inr x ↦ inr (x.0, (x.1.0, x.1.1, (let lt = x.1.2 in omega (arith, lt)), x.1.3))
    ]
    | inr x ↦ inr (x.0, (until, order, omega arith, subst (λ (m : ℤ). IsEaster until (m -ℤ d)) (sym x.1) is))
  ]),
  (λ h. (added n).1 (elim h [
    | inl old ↦ inl ((mid n).1 (inl old))
    | inr x ↦ let lt = x.1.2 in elim (cases_eq x.1.0 until) [
      | inl e ↦ inr (x.0, same (rw e at x.1.3))
      | inr other ↦ inl ((mid n).1 (inr (x.0, (x.1.0, x.1.1, omega (arith, lt, other), x.1.3))))
    ]
  ])),
)
  where
    same : IsEaster until (n -ℤ d) → n ≡ day
    same h = let e = h ∙ sym is in omega (arith, signed_arith, e)

pub easter_none : (years : KnownYears) (first : ℕ) (d : ℤ) (IsOld : ℤ → Type 0) (n : ℤ)
    → IsOld n ↔ (IsOld n ⊎ (IsOfYears years.first years.last n × IsEasterBefore first first (n -ℤ d)))
easter_none years first d IsOld n = (
  (λ h. inl h),
  (λ h. elim h [ inl old ↦ old | inr x ↦ (let a = x.1.1 in let b = x.1.2 in absurd (omega (arith, a, b))) ]),
)

-- Easter lies in its year
abbrev pub LiesBetween : Type 0
LiesBetween = (y : ℕ) (n : ℤ) → IsEaster y n → (day_number (pos y) 3 22 ≤ℤ n) × (n ≤ℤ day_number (pos y) 4 25)

in_its_year : LiesBetween → (y : ℕ) (n : ℤ) → IsEaster y n → (first_day (pos y) ≤ℤ n) × (n <ℤ first_day (pos y +ℤ pos 1))
in_its_year between y n is =
    let b = between y n is in
    let march : IsDate (pos y) 3 22 = ((omega arith, omega arith), (omega arith, omega arith)) in
    let april : IsDate (pos y) 4 25 = ((omega arith, omega arith), (omega arith, omega arith)) in
    let low = (day_number-in_year (pos y) 3 22 march).0 in
    let high = (day_number-in_year (pos y) 4 25 april).1 in
    chain n (day_number (pos y) 3 22) (day_number (pos y) 4 25) (first_day (pos y)) (first_day (pos y +ℤ pos 1))
    (year_length (pos y)) b.0 b.1 low high (first_day-next (pos y))
  where
    chain : (n p q a b : ℤ) (k : ℕ) → p ≤ℤ n → n ≤ℤ q → a ≤ℤ p → q <ℤ (a +ℤ pos k) → b ≡ a +ℤ pos k → (a ≤ℤ n) × (n <ℤ b)
    chain n p q a b k h i j l e = (omega (arith, signed_arith, h, j), omega (arith, signed_arith, i, l, e))

-- the years in which Easter is looked for are enough
pub easter_near : LiesBetween → (years : KnownYears) (offset : Offset) (n : ℤ) (y : ℕ) → IsOfYears years.first years.last n
    → IsEaster y (n -ℤ offset.days) → (years.first - 2 ≤ y) × (y < years.last + 3)
easter_near between years offset n y of is =
    let lies = in_its_year between y (n -ℤ offset.days) is in
    let low = of.0 in
    let high = of.1 in
    let r = offset.in_range.0 in
    let s = offset.in_range.1 in
    let known = years.in_range.0 in (
      elim (cases_of (years.first - 2) y) [
        | inl le ↦ le
        | inr lt ↦ (let f : ℤ = pos (years.first - 2) in
            let a = in_order (pos y +ℤ pos 1) f (omega (arith, signed_arith, lt)) in
            let b = two_years f in
            let at : f +ℤ pos 1 +ℤ pos 1 ≡ pos years.first = omega (arith, signed_arith, known) in
            absurd (early n offset.days (first_day (pos y +ℤ pos 1)) (first_day f) (first_day (pos years.first)) low s lies.1 a
            (rw at at b)))
      ],
      elim (cases_of (years.last + 3) y) [
        | inl le ↦ (let l : ℤ = pos (years.last + 1) in
            let a = in_order (l +ℤ pos 1 +ℤ pos 1) (pos y) (omega (arith, signed_arith, le)) in
            let b = two_years l in
            absurd (late n offset.days (first_day (pos y)) (first_day (l +ℤ pos 1 +ℤ pos 1)) (first_day l) high r lies.0 a b))
        | inr lt ↦ lt
      ],
    )
  where
    cases_of : (a b : ℕ) → (a ≤ b) ⊎ (b < a)
    cases_of a b = elim (cases_lt b a) [ inl lt ↦ inr lt | inr le ↦ inl le ]

    two_years : (y : ℤ) → (first_day y +ℤ pos 730) ≤ℤ first_day (y +ℤ pos 1 +ℤ pos 1)
    two_years y =
        chain (first_day y) (first_day (y +ℤ pos 1)) (first_day (y +ℤ pos 1 +ℤ pos 1)) (year_length y) (year_length (y +ℤ pos 1))
        (first_day-next y) (first_day-next (y +ℤ pos 1)) (long_year y).0 (long_year (y +ℤ pos 1)).0
      where
        chain : (a b c : ℤ) (k l : ℕ) → b ≡ a +ℤ pos k → c ≡ b +ℤ pos l → 365 ≤ k → 365 ≤ l → (a +ℤ pos 730) ≤ℤ c
        chain a b c k l e f p q = omega (arith, signed_arith, e, f, p, q)

    early : (n d a b c : ℤ) → c ≤ℤ n → d ≤ℤ pos 366 → (n -ℤ d) <ℤ a → a ≤ℤ b → (b +ℤ pos 730) ≤ℤ c → ⊥
    early n d a b c p q r s t = omega (arith, signed_arith, p, q, r, s, t)

    late : (n d a b c : ℤ) → n <ℤ c → neg_ℤ (pos 366) ≤ℤ d → a ≤ℤ (n -ℤ d) → b ≤ℤ a
        → (c +ℤ pos 730) ≤ℤ b → ⊥
    late n d a b c p q r s t = omega (arith, signed_arith, p, q, r, s, t)

pub easter_all : LiesBetween → (years : KnownYears) (offset : Offset) (until : ℕ) (IsNew IsOld : ℤ → Type 0)
    → years.last + 3 ≤ until
    → ((n : ℤ) → IsNew n
    ↔ (IsOld n ⊎ (IsOfYears years.first years.last n × IsEasterBefore (years.first - 2) until (n -ℤ offset.days))))
    → (n : ℤ) → IsNew n ↔ (IsOld n ⊎ (IsOfYears years.first years.last n × IsEasterSunday (n -ℤ offset.days)))
easter_all between years offset until IsNew IsOld done added n = (
  (λ h. elim ((added n).0 h) [ inl old ↦ inl old | inr x ↦ inr (x.0, (x.1.0, x.1.3)) ]),
  (λ h. (added n).1 (elim h [
    | inl old ↦ inl old
    | inr x ↦ let near = easter_near between years offset n x.1.0 x.0 x.1.1 in
        inr (x.0, (x.1.0, near.0, (let lt = near.1 in omega (arith, lt, done)), x.1.1))
  ])),
)

-- ---- selectors

-- no days after a day is the day itself
pub not_moved : (P : ℤ → Type 0) (IsNew IsOld : ℤ → Type 0) → ((n : ℤ) → IsNew n ↔ (IsOld n ⊎ P (n -ℤ pos 0)))
    → (n : ℤ) → IsNew n ↔ (IsOld n ⊎ P n)
not_moved P IsNew IsOld added n =
    let e : n -ℤ pos 0 ≡ n = omega (arith, signed_arith) in rw e at (added n)

-- a selector of which one before is like it adds no days
pub listed_again : (rows : List HolidayRow) (years : KnownYears) (so_far : List Listed) (listed : Listed)
    (IsMid : ℤ → Type 0) → ((n : ℤ) → IsMid n ↔ SomeListed rows years so_far n) → HasAlike so_far listed
    → (n : ℤ) → IsMid n ↔ SomeListed rows years (so_far ++ listed ∷ []) n
listed_again rows years so_far listed IsMid mid has n = (
  (λ h. still so_far ((mid n).0 h)),
  (λ h. (mid n).1 (elim (which so_far h) [ inl x ↦ x | inr x ↦ again so_far has x ])),
)
  where
    still : (xs : List Listed) → SomeListed rows years xs n → SomeListed rows years (xs ++ listed ∷ []) n
    still [] h = absurd h
    still (x ∷ xs) (inl h) = inl h
    still (x ∷ xs) (inr h) = inr (still xs h)

    again : (xs : List Listed) → HasAlike xs listed → IsListed rows years listed n → SomeListed rows years xs n
    again [] like h = absurd like
    again (x ∷ xs) (inl alike) h = inl (alike.days rows years n h)
    again (x ∷ xs) (inr more) h = inr (again xs more h)

    which : (xs : List Listed) → SomeListed rows years (xs ++ listed ∷ []) n
        → SomeListed rows years xs n ⊎ IsListed rows years listed n
    which [] (inl h) = inr h
    which [] (inr h) = absurd h
    which (x ∷ xs) (inl h) = inl (inl h)
    which (x ∷ xs) (inr h) = elim (which xs h) [ inl k ↦ inl (inr k) | inr k ↦ inr k ]

pub listed_more : (rows : List HolidayRow) (years : KnownYears) (so_far : List Listed) (listed : Listed)
    (IsNew IsMid : ℤ → Type 0) → ((n : ℤ) → IsMid n ↔ SomeListed rows years so_far n)
    → ((n : ℤ) → IsNew n ↔ (IsMid n ⊎ IsListed rows years listed n))
    → (n : ℤ) → IsNew n ↔ SomeListed rows years (so_far ++ listed ∷ []) n
listed_more rows years so_far listed IsNew IsMid mid added n = (
  (λ h. elim ((added n).0 h) [ inl m ↦ still so_far ((mid n).0 m) | inr x ↦ last so_far x ]),
  (λ h. (added n).1 (elim (which so_far h) [ inl x ↦ inl ((mid n).1 x) | inr x ↦ inr x ])),
)
  where
    still : (xs : List Listed) → SomeListed rows years xs n → SomeListed rows years (xs ++ listed ∷ []) n
    still [] h = absurd h
    still (x ∷ xs) (inl h) = inl h
    still (x ∷ xs) (inr h) = inr (still xs h)

    last : (xs : List Listed) → IsListed rows years listed n → SomeListed rows years (xs ++ listed ∷ []) n
    last [] h = inl h
    last (x ∷ xs) h = inr (last xs h)

    which : (xs : List Listed) → SomeListed rows years (xs ++ listed ∷ []) n
        → SomeListed rows years xs n ⊎ IsListed rows years listed n
    which [] (inl h) = inr h
    which [] (inr h) = absurd h
    which (x ∷ xs) (inl h) = inl (inl h)
    which (x ∷ xs) (inr h) = elim (which xs h) [ inl y ↦ inl (inr y) | inr y ↦ inr y ]

-- listed days are near the years
listed_near : (rows : List HolidayRow) (years : KnownYears) (listed : Listed) (n : ℤ) → IsListed rows years listed n
    → IsNear years n
listed_near rows years (Public offset) n h =
    let low = h.0.0 in
    let high = h.0.1 in
    let r = offset.in_range.0 in
    let s = offset.in_range.1 in
    (omega (arith, signed_arith, low, r), omega (arith, signed_arith, high, s))
listed_near rows years School n h =
    let low = h.0.0 in
    let high = h.0.1 in
    (omega (arith, signed_arith, low), omega (arith, signed_arith, high))
listed_near rows years (Easter days) n h =
    let low = h.0.0 in
    let high = h.0.1 in
    (omega (arith, signed_arith, low), omega (arith, signed_arith, high))

pub some_near : (rows : List HolidayRow) (years : KnownYears) (listed : List Listed) (n : ℤ) → SomeListed rows years listed n
    → IsNear years n
some_near rows years [] n h = absurd h
some_near rows years (x ∷ xs) n (inl h) = listed_near rows years x n h
some_near rows years (x ∷ xs) n (inr h) = some_near rows years xs n h

-- ---- single steps

pub of_calendar : (years : KnownYears) (n : ℤ) → IsOfYears years.first years.last n → IsCalendarDay n
of_calendar years n of =
    let a = years_in years in
    within n (first_day (pos years.first)) (first_day (pos (years.last + 1))) (rw first_day-1800 at a.0)
    (rw first_day-2800 at a.1) of.0 of.1
  where
    within : (n a b : ℤ) → neg_ℤ (pos 62_091) ≤ℤ (a -ℤ pos 730) → (b +ℤ pos 730) ≤ℤ pos 303_151 → a ≤ℤ n → n <ℤ b
        → IsCalendarDay n
    within n a b low high p q = (omega (arith, signed_arith, low, p), omega (arith, signed_arith, high, q))

pub row_none : (years : KnownYears) (kind : HolidayKind) (d : ℤ) (row : HolidayRow) (IsOld : ℤ → Type 0)
    → ((row.kind ≡ kind) × (row.covers ≡ false) → ⊥) → (n : ℤ)
    → IsOld n ↔ (IsOld n ⊎ (IsOfYears years.first years.last (n -ℤ d) × IsOfRow kind false (n -ℤ d) row))
row_none years kind d row IsOld not n = (
  (λ h. inl h),
  (λ h. elim h [ inl old ↦ old | inr x ↦ absurd (not (x.1.0, x.1.1)) ]),
)

pub row_added : (years : KnownYears) (kind : HolidayKind) (d : ℤ) (row : HolidayRow) (IsNew IsOld : ℤ → Type 0)
    → (row.kind ≡ kind) × (row.covers ≡ false)
    → ((n : ℤ) → IsNew n
    ↔ (IsOld n ⊎ (IsOfYears years.first years.last (n -ℤ d) × (row.first ≤ℤ (n -ℤ d)) × ((n -ℤ d) ≤ℤ row.last))))
    → (n : ℤ) → IsNew n ↔ (IsOld n ⊎ (IsOfYears years.first years.last (n -ℤ d) × IsOfRow kind false (n -ℤ d) row))
row_added years kind d row IsNew IsOld is added n = (
  (λ h. elim ((added n).0 h) [ inl old ↦ inl old | inr x ↦ inr (x.0, (is.0, is.1, x.1, x.2)) ]),
  (λ h. (added n).1 (elim h [ inl old ↦ inl old | inr x ↦ inr (x.0, x.1.2, x.1.3) ])),
)

pub day_none : (years : KnownYears) (day : ℤ) (IsOld : ℤ → Type 0) → (IsOfYears years.first years.last day → ⊥) → (n : ℤ)
    → IsOld n ↔ (IsOld n ⊎ (IsOfYears years.first years.last n × (n ≡ day)))
day_none years day IsOld not n = (
  (λ h. inl h),
  (λ h. elim h [ inl old ↦ old | inr x ↦ absurd (not (rw x.1 at x.0)) ]),
)

pub day_added : (years : KnownYears) (day : ℤ) (IsNew IsOld : ℤ → Type 0) → IsOfYears years.first years.last day
    → ((n : ℤ) → IsNew n ↔ (IsOld n ⊎ ((day ≤ℤ n) × (n ≤ℤ day))))
    → (n : ℤ) → IsNew n ↔ (IsOld n ⊎ (IsOfYears years.first years.last n × (n ≡ day)))
day_added years day IsNew IsOld of added n = (
  (λ h. elim ((added n).0 h) [
    | inl old ↦ inl old
    | inr x ↦ (let a = x.0 in
        let b = x.1 in
        let e : n ≡ day = omega (arith, signed_arith, a, b) in
        inr (rw e of, e))
  ]),
  (λ h. (added n).1 (elim h [
    | inl old ↦ inl old
    | inr x ↦ (let e = x.1 in inr (omega (arith, signed_arith, e), omega (arith, signed_arith, e)))
  ])),
)

pub between_years : (years : KnownYears) (day first last : ℤ) (b : Bool) → IsTrue b ↔ ((first ≤ℤ day) × (day ≤ℤ last))
    → first ≡ first_day (pos years.first) → last +ℤ pos 1 ≡ first_day (pos (years.last + 1))
    → IsTrue b ↔ IsOfYears years.first years.last day
between_years years day first last b is begins ends = (
  (λ yes. let h = is.0 yes in
      let low = h.0 in
      let high = h.1 in
      (omega (arith, signed_arith, begins, low), omega (arith, signed_arith, ends, high))),
  (λ h. let low = h.0 in
      let high = h.1 in
      is.1 (omega (arith, signed_arith, begins, low), omega (arith, signed_arith, ends, high))),
)

pub easter_moved : (y : ℕ) (n k d : ℤ) → IsEaster y n → k ≡ n +ℤ d → IsEaster y (k -ℤ d)
easter_moved y n k d is e =
    let same : k -ℤ d ≡ n = omega (arith, signed_arith, e) in same ∙ is

-- ---- rows that have the same holidays

one_same : (rows others : List HolidayRow) (years : KnownYears)
    → ((kind : HolidayKind) (n : ℤ) → IsHoliday rows kind n ↔ IsHoliday others kind n) → (x : Listed) (n : ℤ)
    → IsListed rows years x n ↔ IsListed others years x n
one_same rows others years same (Public offset) n =
    let day = same kind.Public (n -ℤ offset.days) in ((λ h. (h.0, day.0 h.1)), (λ h. (h.0, day.1 h.1)))
one_same rows others years same School n =
    let day = same kind.School n in ((λ h. (h.0, day.0 h.1)), (λ h. (h.0, day.1 h.1)))
one_same rows others years same (Easter days) n = ((λ h. h), (λ h. h))

pub some_same : (rows others : List HolidayRow) (years : KnownYears)
    → ((kind : HolidayKind) (n : ℤ) → IsHoliday rows kind n ↔ IsHoliday others kind n) → (listed : List Listed) (n : ℤ)
    → SomeListed rows years listed n ↔ SomeListed others years listed n
some_same rows others years same [] n = ((λ h. h), (λ h. h))
some_same rows others years same (x ∷ xs) n =
    let here = one_same rows others years same x n in
    let later = some_same rows others years same xs n in (
      (λ h. elim h [ inl a ↦ inl (here.0 a) | inr b ↦ inr (later.0 b) ]),
      (λ h. elim h [ inl a ↦ inl (here.1 a) | inr b ↦ inr (later.1 b) ]),
    )
