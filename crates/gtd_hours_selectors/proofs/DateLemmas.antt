-- Days of months, and ranges of months and dates.
use Rattle.std.proofs.Common.{◌≡◌, ◌≢◌, ◌↔◌, ◌⊎◌, ◌&&◌, nat_lt, ℕ, ◌+◌, ◌-◌, ◌<◌, ◌≤◌, min, Some, refl, sym, ◌∙◌, inl}
use Rattle.std.proofs.Common.{inr, arith, ◌==◌, cond}
use Rattle.std.proofs.Common.{ℤ, pos, ◌+ℤ◌, ◌-ℤ◌, ◌≤ℤ◌, unsigned_abs}
use Rattle.std.proofs.lemmas.Bool.{cases_eq, cases_lt}
use Rattle.gtd_calendar.specs.facts.Signed.{signed_arith, one_part}
use Rattle.gtd_core.specs.Ranges.{no_parts}
use Rattle.gtd_core.specs.declared.start.StartParts.{StartParts}
use Rattle.gtd_calendar.specs.Calendar.{IsDate, IsDateOf, day_number, first_day, days_of_months, month_length}
use Rattle.gtd_calendar.specs.ComputedDates.{year_of, month_of, day_of_month}
use Rattle.gtd_calendar.specs.ComputedFields.{day_fields}
use Rattle.gtd_calendar.specs.facts.DateLemmas.{date_of-is, date_of-only, month_length_bounds}
use Rattle.gtd_recur.specs.FieldMatches.{HoldsOnDay}
use Rattle.gtd_hours.specs.Opening.{IsRound, date_key}
use Rattle.gtd_hours.specs.Ranges.{IsMonth, IsMonthDay}
use Rattle.gtd_hours_selectors.specs.Days.{IsMonthBetween}

-- alternatives
pub or_none : (b q : Type 0) → (q → ⊥) → b ↔ (b ⊎ q)
or_none b q no_q = ((λ x. inl x), (λ h. elim h [ inl x ↦ x | inr y ↦ absurd (no_q y) ]))

pub or_same : (e b p q : Type 0) → (p ↔ q) → (e ↔ (b ⊎ p)) → e ↔ (b ⊎ q)
or_same e b p q same all = (
  (λ h. elim (all.0 h) [ inl x ↦ inl x | inr x ↦ inr (same.0 x) ]),
  (λ h. all.1 (elim h [ inl x ↦ inl x | inr x ↦ inr (same.1 x) ])),
)

pub one_after : (p q r : Type 0) → (p ↔ q) → (q ↔ r) → (p ↔ r)
one_after p q r f g = ((λ x. g.0 (f.0 x)), (λ x. f.1 (g.1 x)))

-- a later day of the same month, and an earlier one
pub date-later : (n y : ℤ) (m d k : ℕ) → IsDateOf n y m d → d + k ≤ month_length y m → IsDateOf (n +ℤ pos k) y m (d + k)
unfolding day_number
date-later n y m d k h le = (
  (h.0.0, (omega (arith, h.0.1.0), le)),
  moved n (first_day y) (days_of_months y (m - 1)) d k h.0.1.0 h.1,
)
  where
    moved : (n a : ℤ) (p d k : ℕ) → 1 ≤ d → n ≡ a +ℤ pos (p + (d - 1)) → n +ℤ pos k ≡ a +ℤ pos (p + ((d + k) - 1))
    moved n a p d k low e = omega (arith, signed_arith)

pub date-earlier : (n y : ℤ) (m d k : ℕ) → IsDateOf n y m d → k < d → IsDateOf (n -ℤ pos k) y m (d - k)
unfolding day_number
date-earlier n y m d k h lt = (
  (h.0.0, (omega (arith, lt), omega (arith, h.0.1.1))),
  moved n (first_day y) (days_of_months y (m - 1)) d k lt h.1,
)
  where
    moved : (n a : ℤ) (p d k : ℕ) → k < d → n ≡ a +ℤ pos (p + (d - 1)) → n -ℤ pos k ≡ a +ℤ pos (p + ((d - k) - 1))
    moved n a p d k low e = omega (arith, signed_arith)

-- so many days from one of a month on, none beyond its end
pub month-stretch : (mo a c : ℕ) → 1 ≤ a → ((y : ℤ) → a + c ≤ month_length y mo + 1) → (n : ℤ)
    → ((k : ℕ) × (k < c) × (month_of (n -ℤ pos k) ≡ mo) × (day_of_month (n -ℤ pos k) ≡ a))
    ↔ ((month_of n ≡ mo) × (a ≤ day_of_month n) × (day_of_month n < a + c))
month-stretch mo a c low long n = (
  (λ x.
      let k : ℕ = x.0 in
      let i = n -ℤ pos k in
      let date = rw (x.2, x.3) at (date_of-is i) in
      let fits : a + k ≤ month_length (year_of i) mo = (let l = long (year_of i) in omega (arith, x.1)) in
      let there = rw (on n k) at (date-later i (year_of i) mo a k date fits) in
      let only = date_of-only n (year_of i) mo (a + k) there in
      (sym only.1, omega (arith, only.2), omega (arith, only.2, x.1))),
  (λ y.
      let k : ℕ = day_of_month n - a in
      let date = date_of-is n in
      let there = date-earlier n (year_of n) (month_of n) (day_of_month n) k date (omega (arith, y.1, low)) in
      let only = date_of-only (n -ℤ pos k) (year_of n) (month_of n) (day_of_month n - k) there in
      let back : day_of_month n - k ≡ a = omega (arith, y.1) in
      (k, omega (arith, y.1, y.2), sym only.1 ∙ y.0, sym only.2 ∙ back)),
)
  where
    on : (n : ℤ) (k : ℕ) → (n -ℤ pos k) +ℤ pos k ≡ n
    on n k = omega (arith, signed_arith)

pub month-day-to : (mo a : ℕ) (n : ℤ) → HoldsOnDay (record no_parts { month = Some mo; day = Some a }) (day_fields n)
    → (month_of n ≡ mo) × (day_of_month n ≡ a)
month-day-to mo a n x = (sym x.month, sym x.day)

pub month-day-from : (mo a : ℕ) (n : ℤ) → (month_of n ≡ mo) × (day_of_month n ≡ a)
    → HoldsOnDay (record no_parts { month = Some mo; day = Some a }) (day_fields n)
month-day-from mo a n y =
    record { year = tt; month = sym y.0; week = tt; day = sym y.1; nth = tt; nth_back = tt; weekdays = inl refl }

-- the days of a stretch that each month of that number has
pub stretch-holds : (e : Type 0) (mo a c : ℕ) (n : ℤ) → 1 ≤ a → ((y : ℤ) → a + c ≤ month_length y mo + 1)
    → (e ↔ ((k : ℕ) × (k < c) × HoldsOnDay (record no_parts { month = Some mo; day = Some a }) (day_fields (n -ℤ pos k))))
    → e ↔ ((month_of n ≡ mo) × (a ≤ day_of_month n) × (day_of_month n < a + c))
stretch-holds e mo a c n low long all =
    let held = month-stretch mo a c low long n in (
      (λ h. let x = all.0 h in let y = month-day-to mo a (n -ℤ pos x.0) x.2 in held.0 (x.0, x.1, y.0, y.1)),
      (λ h. let x = held.1 h in all.1 (x.0, x.1, month-day-from mo a (n -ℤ pos x.0) (x.2, x.3))),
    )

-- a day's month and day are in their ranges
pub date-range : (n : ℤ)
    → (1 ≤ month_of n) × (month_of n ≤ 12) × (1 ≤ day_of_month n) × (day_of_month n ≤ month_length (year_of n) (month_of n))
date-range n = let d = date_of-is n in (d.0.0.0, d.0.0.1, d.0.1.0, d.0.1.1)

-- up to the last day that all months of that number have, there are all but 29 February
pub common-days : (mo low high short top : ℕ) (n : ℤ) → top ≡ min high short → ((y : ℤ) → short ≤ month_length y mo)
    → ((y : ℤ) → (month_length y mo ≡ short) ⊎ ((mo ≡ 2) × (month_length y mo ≤ 29))) → (mo ≡ 2 → short ≡ 28)
    → ((month_of n ≡ mo) × (low ≤ day_of_month n) × (day_of_month n < top + 1))
    ↔ ((month_of n ≡ mo) × (low ≤ day_of_month n) × (day_of_month n ≤ high) × ((month_of n ≡ 2) × (day_of_month n ≡ 29) → ⊥))
common-days mo low high short top n e all full february = (
  (λ x. (
    x.0,
    x.1,
    omega (arith, e, x.2),
    (λ leap. let two : mo ≡ 2 = sym x.0 ∙ leap.0 in let s = february two in omega (arith, e, x.2, leap.1, s)),
  )),
  (λ y.
      let long : day_of_month n ≤ month_length (year_of n) mo = rw y.0 at (date-range n).3 in (
        y.0,
        y.1,
        elim (full (year_of n)) [
          | inl same ↦ omega (arith, e, y.2, long, same)
          | inr two ↦ let s = february two.0 in let not : day_of_month n ≡ 29 → ⊥ = (λ k. y.3 (y.0 ∙ two.0, k)) in below
              (day_of_month n) top high short e y.2 s (omega (arith, long, two.1)) not
        ],
      )),
)
  where
    below : (d top high short : ℕ) → top ≡ min high short → d ≤ high → short ≡ 28 → d ≤ 29 → (d ≡ 29 → ⊥) → d < top + 1
    below d top high short e le s most not = omega (arith, not)

-- a day of the month that leap years have is one of 31
pub day-in : (mo d : ℕ) → IsMonthDay mo d → (1 ≤ mo) × (mo ≤ 12) × (1 ≤ d) × (d ≤ 31)
day-in mo d h =
    let long = month_length_bounds (pos 2000) mo in
    (h.0.0, h.0.1, h.1.0, omega (arith, h.1.1, long.0))

-- the months from one on are those of a range
pub round-months : (e : Type 0) (first last k m : ℕ) → IsMonth first → IsMonth last → IsMonth m
    → (k + first ≡ last + 1) ⊎ ((last < first) × (k + first ≡ last + 13)) → (1 ≤ k) × (k ≤ 12)
    → (e ↔ (((first ≤ m) × (m < first + k)) ⊎ (m + 12 < first + k))) → e ↔ IsRound first last m
round-months e first last k m f l r long range all = (
  (λ h. elim long [
    | inl x ↦ elim (all.0 h) [
      | inl y ↦ inl (y.0, omega (arith, y.1, x))
      | inr y ↦ absurd (none first last k m x y l r)
    ]
    | inr x ↦ elim (all.0 h) [
      | inl y ↦ inr (x.0, inl y.0)
      | inr y ↦ inr (x.0, inr (omega (arith, x.1, y)))
    ]
  ]),
  (λ h. all.1 (elim long [
    | inl x ↦ elim h [
      | inl y ↦ inl (y.0, omega (arith, y.1, x))
      | inr y ↦ absurd (omega (arith, y.0, x, range.0))
    ]
    | inr x ↦ elim h [
      | inl y ↦ absurd (omega (arith, y.0, y.1, x.0))
      | inr y ↦ elim (y.1) [
        | inl z ↦ inl (z, omega (arith, r.1, x.1, l.0))
        | inr z ↦ inr (omega (arith, z, x.1))
      ]
    ]
  ])),
)
  where
    none : (first last k m : ℕ) → k + first ≡ last + 1 → m + 12 < first + k → IsMonth last → IsMonth m → ⊥
    none first last k m e lt l r = omega (arith, l.1, r.0)

-- no month is between one and the next one
pub none-between : (first next m : ℕ) → (next ≡ cond (first == 12) 1 (first + 1)) → IsMonth first → IsMonth m
    → IsMonthBetween first next m → ⊥
none-between first next m is f r h = elim (cases_eq first 12) [
  | inl e ↦ let one : next ≡ 1 = rw e at is in elim h [
    | inl x ↦ omega (arith, x.0, r.1, e)
    | inr x ↦ elim (x.1) [ inl y ↦ omega (arith, y, r.1, e) | inr y ↦ omega (arith, y, r.0, one) ]
  ]
  | inr n ↦ let one : next ≡ first + 1 = step n is in elim h [
    | inl x ↦ omega (arith, x.0, x.1, one)
    | inr x ↦ omega (arith, x.0, one)
  ]
]
  where
    step : first ≢ 12 → next ≡ cond (first == 12) 1 (first + 1) → next ≡ first + 1
    step n e = grind arith

-- the months from the one after the first to the one before the last are between them
pub between-months : (e : Type 0) (first last next before m : ℕ) → (next ≡ cond (first == 12) 1 (first + 1))
    → (before + 1 ≡ last) ⊎ ((last ≡ 1) × (before ≡ 12)) → next ≢ last → IsMonth next → IsMonth first → IsMonth last → IsMonth m
    → (e ↔ IsRound next before m) → e ↔ IsMonthBetween first last m
between-months e first last next before m is was apart t f l r all = (
  (λ h. to (all.0 h)),
  (λ h. all.1 (from h)),
)
  where
    step : (next ≡ first + 1) ⊎ ((first ≡ 12) × (next ≡ 1))
    step = elim (cases_eq first 12) [ inl e ↦ inr (e, rw e at is) | inr n ↦ inl (grind arith) ]

    to : IsRound next before m → IsMonthBetween first last m
    to h = elim step [
      | inl up ↦ elim was [
        | inl down ↦ elim h [
          | inl x ↦ inl (omega (arith, x.0, up), omega (arith, x.1, down))
          | inr x ↦ elim (cases_lt first last) [
            | inl lt ↦ absurd (apart (omega (arith, lt, x.0, up, down)))
            | inr le ↦ elim (x.1) [
              | inl y ↦ inr (omega (arith, le), inl (omega (arith, y, up)))
              | inr y ↦ inr (omega (arith, le), inr (omega (arith, y, down)))
            ]
          ]
        ]
        | inr down ↦ elim h [
          | inl x ↦ inr (omega (arith, down.0, f.0), inl (omega (arith, x.0, up)))
          | inr x ↦ absurd (omega (arith, x.0, down.1, t.1))
        ]
      ]
      | inr up ↦ elim was [
        | inl down ↦ elim h [
          | inl x ↦ inr (omega (arith, up.0, l.1), inr (omega (arith, x.1, down)))
          | inr x ↦ absurd (low x.0 up.1 down)
        ]
        | inr down ↦ absurd (apart (up.1 ∙ sym down.0))
      ]
    ]
      where
        low : before < next → next ≡ 1 → before + 1 ≡ last → ⊥
        low lt one down = apart (omega (arith, lt, one, down))

    from : IsMonthBetween first last m → IsRound next before m
    from h = elim step [
      | inl up ↦ elim was [
        | inl down ↦ elim h [
          | inl x ↦ inl (omega (arith, x.0, up), omega (arith, x.1, down))
          | inr x ↦ elim (x.1) [
            | inl y ↦ inr (omega (arith, x.0, up, down), inl (omega (arith, y, up)))
            | inr y ↦ inr (omega (arith, x.0, up, down), inr (omega (arith, y, down)))
          ]
        ]
        | inr down ↦ elim h [
          | inl x ↦ absurd (omega (arith, x.0, x.1, down.0, r.0))
          | inr x ↦ elim (x.1) [
            | inl y ↦ inl (omega (arith, y, up), omega (arith, down.1, r.1))
            | inr y ↦ absurd (omega (arith, y, down.0, r.0))
          ]
        ]
      ]
      | inr up ↦ elim was [
        | inl down ↦ elim h [
          | inl x ↦ absurd (omega (arith, x.0, up.0, r.1))
          | inr x ↦ elim (x.1) [
            | inl y ↦ absurd (omega (arith, y, up.0, r.1))
            | inr y ↦ inl (omega (arith, up.1, r.0), omega (arith, y, down))
          ]
        ]
        | inr down ↦ absurd (apart (up.1 ∙ sym down.0))
      ]
    ]

-- a day of a month that each such month has not is 29 February
pub leap-alone : (month low high short top b : ℕ) → IsMonthDay month low → low ≤ high → top ≡ min high short
    → ((y : ℤ) → (month_length y month ≡ short) ⊎ ((month ≡ 2) × (month_length y month ≤ 29))) → (month ≡ 2 → short ≡ 28)
    → top < low → b ≡ b + cond ((month == 2) && nat_lt 28 low) 0 1
leap-alone month low high short top b date le e full february lt = elim (full (pos 2000)) [
  | inl same ↦ absurd (omega (arith, date.1.1, same, le, e, lt))
  | inr two ↦ let short_one = february two.0 in alone month low b two.0 (omega (arith, short_one, le, e, lt))
]
  where
    alone : (month low b : ℕ) → month ≡ 2 → 28 < low → b ≡ b + cond ((month == 2) && nat_lt 28 low) 0 1
    alone month low b two more = grind arith

-- a range within one month
pub one-month : (e : Type 0) (mo d1 d2 m d : ℕ) → d1 ≤ d2 → d2 ≤ 31 → 1 ≤ d → d ≤ 31
    → (e ↔ (⊥ ⊎ ((m ≡ mo) × (d1 ≤ d) × (d ≤ d2)))) → e ↔ IsRound (date_key mo d1) (date_key mo d2) (date_key m d)
one-month e mo d1 d2 m d le high low most all = (
  (λ h. elim (all.0 h) [ inl x ↦ absurd x | inr x ↦ inl (omega (arith, x.0, x.1), omega (arith, x.0, x.2)) ]),
  (λ h. all.1 (elim h [
    | inl x ↦ let same : m ≡ mo = omega (arith, x.0, x.1, le, high, low, most)
        in inr (same, omega (arith, same, x.0), omega (arith, same, x.1))
    | inr x ↦ absurd (omega (arith, x.0, le))
  ])),
)

-- a range over several months: the rest of the first one, the months between, and the beginning of the last one
pub several-months : (e a b : Type 0) (m1 d1 m2 d2 m d : ℕ) → (m1 ≡ m2 → d2 < d1) → (1 ≤ d1) × (d1 ≤ 31) → (1 ≤ d2) × (d2 ≤ 31)
    → (1 ≤ d) × (d ≤ 31)
    → (a ↔ (⊥ ⊎ ((m ≡ m1) × (d1 ≤ d) × (d ≤ 31)))) → (b ↔ (a ⊎ IsMonthBetween m1 m2 m))
    → (e ↔ (b ⊎ ((m ≡ m2) × (1 ≤ d) × (d ≤ d2)))) → e ↔ IsRound (date_key m1 d1) (date_key m2 d2) (date_key m d)
several-months e a b m1 d1 m2 d2 m d apart r1 r2 r rest between all = (
  (λ h. elim (all.0 h) [
    | inl x ↦ elim (between.0 x) [
      | inl y ↦ elim (rest.0 y) [ inl z ↦ absurd z | inr z ↦ first z.0 z.1 ]
      | inr y ↦ elim y [
        | inl z ↦ inl (omega (arith, z.0, r1.1, r.0), omega (arith, z.1, r.1, r2.0))
        | inr z ↦ inr (
          over z.0,
          elim (z.1)
              [ inl w ↦ inl (omega (arith, w, r1.1, r.0)) | inr w ↦ inr (omega (arith, w, r.1, r2.0)) ],
        )
      ]
    ]
    | inr x ↦ last x.0 x.2
  ]),
  (λ h. all.1 (elim (cases_eq m m1) [
    | inl same ↦ elim (cases_lt d d1) [
      | inl lt ↦ inr (early same lt h)
      | inr ge ↦ inl (between.1 (inl (rest.1 (inr (same, omega (arith, ge), r.1)))))
    ]
    | inr other ↦ elim (cases_eq m m2) [
      | inl same ↦ elim (cases_lt d2 d) [
        | inl lt ↦ absurd (late same other lt h)
        | inr ge ↦ inr (same, r.0, omega (arith, ge))
      ]
      | inr neither ↦ inl (between.1 (inr (within other neither h)))
    ]
  ])),
)
  where
    over : m2 ≤ m1 → date_key m2 d2 < date_key m1 d1
    over le =
        elim (cases_eq m1 m2) [ inl e ↦ let lt = apart e in omega (arith, e, lt) | inr n ↦ omega (arith, le, n, r2.1, r1.0) ]

    first : m ≡ m1 → d1 ≤ d → IsRound (date_key m1 d1) (date_key m2 d2) (date_key m d)
    first same le = elim (cases_lt m1 m2) [
      | inl lt ↦ inl (omega (arith, same, le), omega (arith, same, lt, r.1, r2.0))
      | inr ge ↦ inr (over (omega (arith, ge)), inl (omega (arith, same, le)))
    ]

    last : m ≡ m2 → d ≤ d2 → IsRound (date_key m1 d1) (date_key m2 d2) (date_key m d)
    last same le = elim (cases_lt m1 m2) [
      | inl lt ↦ inl (omega (arith, same, lt, r.0, r1.1), omega (arith, same, le))
      | inr ge ↦ inr (over (omega (arith, ge)), inr (omega (arith, same, le)))
    ]

    early : m ≡ m1 → d < d1 → IsRound (date_key m1 d1) (date_key m2 d2) (date_key m d) → (m ≡ m2) × (1 ≤ d) × (d ≤ d2)
    early same lt h = elim h [
      | inl x ↦ absurd (omega (arith, x.0, same, lt))
      | inr x ↦ elim (x.1) [
        | inl y ↦ absurd (omega (arith, y, same, lt))
        | inr y ↦ (omega (arith, x.0, y, same, r1, r2, r), r.0, omega (arith, x.0, y, same, r1, r2, r))
      ]
    ]

    late : m ≡ m2 → m ≢ m1 → d2 < d → IsRound (date_key m1 d1) (date_key m2 d2) (date_key m d) → ⊥
    late same other lt h = elim h [
      | inl x ↦ omega (arith, x.1, same, lt)
      | inr x ↦ elim (x.1) [
        | inl y ↦ other (omega (arith, x.0, y, same, r1, r2, r))
        | inr y ↦ omega (arith, y, same, lt)
      ]
    ]

    within : m ≢ m1 → m ≢ m2 → IsRound (date_key m1 d1) (date_key m2 d2) (date_key m d) → IsMonthBetween m1 m2 m
    within other neither h = elim h [
      | inl x ↦ inl (omega (arith, x.0, other, r1.0, r.1), omega (arith, x.1, neither, r2.1, r.0))
      | inr x ↦ inr (
        omega (arith, x.0, r2.0, r1.1),
        elim (x.1) [
          | inl y ↦ inl (omega (arith, y, other, r1.0, r.1))
          | inr y ↦ inr (omega (arith, y, neither, r2.1, r.0))
        ],
      )
    ]

-- the days from a date to another
abbrev pub on_date : ℕ → ℕ → ℕ → StartParts
on_date y mo d = record no_parts { year = Some y; month = Some mo; day = Some d }

dated-to : (y mo d : ℕ) (i : ℤ) → HoldsOnDay (on_date y mo d) (day_fields i) → i ≡ day_number (pos y) mo d
dated-to y mo d i x = rw (x.year, x.month, x.day) (date_of-is i).1

dated-from : (y mo d : ℕ) (i : ℤ) → IsDate (pos y) mo d → i ≡ day_number (pos y) mo d → HoldsOnDay (on_date y mo d) (day_fields i)
dated-from y mo d i is e =
    let only = date_of-only i (pos y) mo d (is, e) in
    record { year = only.0; month = only.1; week = tt; day = only.2; nth = tt; nth_back = tt; weekdays = inl refl }

pub dated-holds : (e : Type 0) (y mo d c : ℕ) (first last n : ℤ) → IsDate (pos y) mo d → first ≡ day_number (pos y) mo d
    → pos c ≡ (last -ℤ first) +ℤ pos 1
    → (e ↔ ((k : ℕ) × (k < c) × HoldsOnDay (on_date y mo d) (day_fields (n -ℤ pos k)))) → e ↔ ((first ≤ℤ n) × (n ≤ℤ last))
dated-holds e y mo d c first last n is a long all = (
  (λ h. let x = all.0 h in
      let at : n -ℤ pos x.0 ≡ first = dated-to y mo d (n -ℤ pos x.0) x.2 ∙ sym a in
      within n first last x.0 c at x.1 long),
  (λ h.
      let there = back n first last c h.0 h.1 long in
      all.1 (there.0, there.1, dated-from y mo d (n -ℤ pos there.0) is (there.2 ∙ a))),
)
  where
    within : (n first last : ℤ) (k c : ℕ) → n -ℤ pos k ≡ first → k < c → pos c ≡ (last -ℤ first) +ℤ pos 1
        → (first ≤ℤ n) × (n ≤ℤ last)
    within n first last k c at lt long = (omega (arith, signed_arith), omega (arith, signed_arith))

    back : (n first last : ℤ) (c : ℕ) → first ≤ℤ n → n ≤ℤ last → pos c ≡ (last -ℤ first) +ℤ pos 1
        → (k : ℕ) × (k < c) × (n -ℤ pos k ≡ first)
    back n first last c low high long =
        let part = one_part (n -ℤ first) in
        (unsigned_abs (n -ℤ first), omega (arith, signed_arith), omega (arith, signed_arith))

-- a day's place in its month
pub date-in : (n : ℤ) → (1 ≤ day_of_month n) × (day_of_month n ≤ 31)
date-in n =
    let d = date_of-is n in
    let long = month_length_bounds (year_of n) (month_of n) in
    (d.0.1.0, omega (arith, d.0.1.1, long.0))

pub same-after : (e b q : Type 0) → (b ↔ q) → (e ↔ b) → e ↔ q
same-after e b q f g = ((λ x. f.0 (g.0 x)), (λ x. g.1 (f.1 x)))
