-- Which days a given year or month excludes.
use Rattle.std.proofs.Common.{◌≡◌, ℕ, ◌+◌, ◌<◌, ◌≤◌, ◌⊎◌, inl, inr, Bool, true, false, Option, Some, None, refl, sym, arith, ℤ}
use Rattle.std.proofs.Common.{FitsSigned, to_z-of_z, w64}
use Rattle.std.proofs.Common.{pos, ◌+ℤ◌, ◌-ℤ◌, ◌<ℤ◌, ◌≤ℤ◌, is_some, IfSome, ◌||◌, ◌↔◌}
use Rattle.std.specs.Prelude.{IsTrue}
use Rattle.std.specs.Option.{unwrap_or}
use Rattle.std.specs.Int.{IsInRange}
use Rattle.std.proofs.lemmas.Bool.{and_parts, and_from, cases_lt, eqb-true, eq-eqb}
use Rattle.std.proofs.lemmas.Bool.Decides.{Decides-int_eq}
use Rattle.std.proofs.lemmas.Int.{by_lt_z}
use Rattle.gtd_core.specs.Limits.{horizons_end, first_calendar_day, first_window_day}
use Rattle.gtd_calendar.specs.facts.Signed.{signed_arith}
use Rattle.gtd_core.specs.declared.start.StartParts.{StartParts}
use Rattle.gtd_calendar.specs.facts.DateLemmas.{date_of-is, date_of-only, month_length_bounds}
use Rattle.gtd_calendar.specs.facts.OrderLemmas.{before_month, before_first, year_of-calendar}
use Rattle.gtd_calendar.specs.facts.YearLemmas.{guessed_year-near}
use Rattle.gtd_calendar.specs.Calendar.{day_number, first_day, days_of_months}
use Rattle.gtd_calendar.specs.ComputedDates.{year_of, month_of, guessed_year}
use Rattle.gtd_recur.specs.Begins.{month_and_year_fit, agrees, year_agrees_with}
use Rattle.gtd_recur.specs.Jumps.{IsNextRun, IsBefore, AreMonths, IsClipped, IsOf, IsOfMonth}
use Rattle.gtd_recur.specs.Stretches.{IsLater, IsEarlier}
use Rattle.gtd_recur.proofs.SmallLemmas.{IsSmall, word, year-small}

-- those of the days that are from one on and before an end
pub clipped : (first last day end a b : ℤ) → first <ℤ last → day <ℤ last → IsLater first day a → a <ℤ end → IsEarlier last end b
    → IsClipped first last day end a b
clipped first last day end a b some ahead later low earlier = record {
  low = later.1;
  order = elim (earlier.2) [
    | inl e ↦ elim (later.2) [
      | inl f ↦ omega (arith, signed_arith, e, f)
      | inr f ↦
          omega (arith, signed_arith, e, f)
    ]
    | inr e ↦ omega (arith, signed_arith, e)
  ];
  within = earlier.1;
  some = λ lt. elim (earlier.2) [
    | inl e ↦ elim (later.2) [
      | inl f ↦ omega (arith, signed_arith, e, f)
      | inr f ↦
          omega (arith, signed_arith, e, f)
    ]
    | inr e ↦ omega (arith, signed_arith, e)
  ];
  early = λ n ge lt. elim (later.2) [
    | inl f ↦ omega (arith, signed_arith, f, lt)
    | inr f ↦
        absurd (omega (arith, signed_arith, f, lt, ge))
  ];
  inside = λ n ge lt. (
    let p = later.0 in omega (arith, signed_arith, p, ge),
    let q = earlier.0 in
        omega (arith, signed_arith, q, lt),
  );
}

-- a day from the first of a month on is not of an earlier month
pub not_before_first : (n y : ℤ) (m : ℕ) → IsInRange 1 12 m → day_number y m 1 ≤ℤ n → ¬ (IsBefore (year_of n) (month_of n) y m)
not_before_first n y m h le before = apart n (day_number y m 1) le (before_first n y m h before)
  where
    apart : (n a : ℤ) → a ≤ℤ n → n <ℤ a → ⊥
    apart n a p q = omega (arith, signed_arith)

month_low : (n : ℤ) → 1 ≤ month_of n
month_low n = (date_of-is n).0.0.0

month_high : (n : ℤ) → month_of n ≤ 12
month_high n = (date_of-is n).0.0.1

-- the first of a month is of it
first_date : (y : ℤ) (m : ℕ) → IsInRange 1 12 m → (y ≡ year_of (day_number y m 1)) × (m ≡ month_of (day_number y m 1))
first_date y m h =
    let long = month_length_bounds y m in
    let only = date_of-only (day_number y m 1) y m 1 ((h, (omega arith, omega arith)), refl) in
    (only.0, only.1)

-- between the first of a month and that of a later one
on_months : (y z : ℤ) (low high : ℕ) (w : ℤ) (m : ℕ) → ¬ (IsBefore z m y low) → (z ≡ y) × (m ≤ high) ⊎ (z <ℤ y) → (z ≡ y)
    × (low ≤ m) × (m ≤ high)
on_months y z low high w m first last = elim last [
  | inl here ↦ elim (cases_lt m low) [ inl lt ↦ absurd (first (inr (here.0, lt))) | inr ge ↦ (here.0, ge, here.1) ]
  | inr early ↦ absurd (first (inl early))
]

pub months-then : (y : ℤ) (low high : ℕ) (a b : ℤ) → IsInRange 1 12 low → IsInRange low 12 high → high < 12 → a
    ≡ day_number y low 1 → b ≡ day_number y (high + 1) 1
    → AreMonths y low high a b
months-then y low high a b h g lt p q = record {
  order = rw (p, q) (let date = first_date y low h in before_first (day_number y low 1) y (high + 1)
      (omega (arith, g.0, h.0), omega arith) (inr (sym date.0, let d = date.1 in omega (arith, d, g.0))));
  before = λ n early. before_month n y low h (rw (← p) early);
  on = λ n from until. on_months y (year_of n) low high y (month_of n) (not_before_first n y low h (rw (← p) from))
      (elim (before_month n y (high + 1) (omega (arith, g.0, h.0), omega arith) (rw (← q) until))
      [ inl early ↦ inr early | inr here ↦ inl (here.0, let m = here.1 in omega (arith, m)) ]);
  after = λ n late. later (year_of n) (month_of n) (not_before_first n y (high + 1) (omega (arith, g.0, h.0), omega arith)
      (rw (← q) late));
}
  where
    later : (z : ℤ) (m : ℕ) → ¬ (IsBefore z m y (high + 1)) → IsBefore y high z m
    later z m none = by_lt_z y z (λ lt. inl lt) (λ le. by_lt_z z y (λ gt. absurd (none (inl gt)))
        (λ ge. let e : z ≡ y = omega (arith, signed_arith) in
        elim (cases_lt high m) [ inl over ↦ inr (sym e, over) | inr under ↦ absurd (none (inr (e, omega arith))) ]))

pub months-else : (y : ℤ) (low high : ℕ) (a b : ℤ) → IsInRange 1 12 low → IsInRange low 12 high → 12 ≤ high → a
    ≡ day_number y low 1 → b ≡ day_number (y +ℤ pos 1) 1 1
    → AreMonths y low high a b
months-else y low high a b h g ge p q = record {
  order = rw (p, q) (let date = first_date y low h in before_first (day_number y low 1) (y +ℤ pos 1) 1 (omega arith, omega arith)
      (inl (next (year_of (day_number y low 1)) (date.0))));
  before = λ n early. before_month n y low h (rw (← p) early);
  on = λ n from until. on_months y (year_of n) low high y (month_of n) (not_before_first n y low h (rw (← p) from))
      (elim (before_month n (y +ℤ pos 1) 1 (omega arith, omega arith) (rw (← q) until)) [
        | inl early ↦ within (year_of n) (month_of n) (month_high n) early
        | inr here ↦ absurd (let m = here.1 in let l = month_low n in omega (arith, m, l))
      ]);
  after = λ n late. later (year_of n) (month_of n) (not_before_first n (y +ℤ pos 1) 1 (omega arith, omega arith) (rw (← q) late));
}
  where
    next : (z : ℤ) → y ≡ z → z <ℤ (y +ℤ pos 1)
    next z e = omega (arith, signed_arith)

    within : (z : ℤ) (m : ℕ) → m ≤ 12 → z <ℤ (y +ℤ pos 1) → (z ≡ y) × (m ≤ high) ⊎ (z <ℤ y)
    within z m most lt = by_lt_z z y (λ early. inr early) (λ le. inl (omega (arith, signed_arith), omega arith))

    later : (z : ℤ) (m : ℕ) → ¬ (IsBefore z m (y +ℤ pos 1) 1) → IsBefore y high z m
    later z m none = by_lt_z y z (λ lt. inl lt) (λ le. absurd (none (inl (omega (arith, signed_arith)))))

-- the days of a year, or of one of its months
pub year-skipped : (year : ℤ) (month : Option ℕ) (low high : ℕ) (n : ℤ) → low ≡ unwrap_or month 1 → high ≡ unwrap_or month 12
    → IsBefore (year_of n) (month_of n) year low ⊎ IsBefore year high (year_of n) (month_of n) → ¬ (IsOf year month n)
year-skipped year None low high n e f outside is = elim outside [
  | inl before ↦ elim before [
    | inl lt ↦ (let y = is.0 in omega (arith, signed_arith, y, lt))
    | inr m ↦
        (let lt = m.1 in let l = month_low n in omega (arith, lt, l, e))
  ]
  | inr after ↦ elim after [
    | inl lt ↦ (let y = is.0 in omega (arith, signed_arith, y, lt))
    | inr m ↦
        (let lt = m.1 in let l = month_high n in omega (arith, lt, l, f))
  ]
]
year-skipped year (Some k) low high n e f outside is = elim outside [
  | inl before ↦ elim before [
    | inl lt ↦ (let y = is.0 in omega (arith, signed_arith, y, lt))
    | inr m ↦
        (let lt = m.1 in let l = is.1 in omega (arith, lt, l, e))
  ]
  | inr after ↦ elim after [
    | inl lt ↦ (let y = is.0 in omega (arith, signed_arith, y, lt))
    | inr m ↦
        (let lt = m.1 in let l = is.1 in omega (arith, lt, l, f))
  ]
]

pub year-on : (year : ℤ) (month : Option ℕ) (low high : ℕ) (n : ℤ) → low ≡ unwrap_or month 1 → high ≡ unwrap_or month 12
    → (year_of n ≡ year) × (low ≤ month_of n) × (month_of n ≤ high) → IsOf year month n
year-on year None low high n e f on = (on.0, tt)
year-on year (Some k) low high n e f on = (on.0, let a = on.1 in let b = on.2 in omega (arith, a, b, e, f))

pub year-run : (year : ℤ) (month : Option ℕ) (low high : ℕ) (first last day end from until : ℤ) → low ≡ unwrap_or month 1 → high
    ≡ unwrap_or month 12
    → AreMonths year low high first last → IsClipped first last day end from until
    → IsNextRun (IsOf year month) day end from until
year-run year month low high first last day end from until e f are clip = record {
  low = clip.low;
  order = clip.order;
  within = clip.within;
  some = clip.some;
  skipped = λ n ge lt. year-skipped year month low high n e f (inl (are.before n (clip.early n ge lt)));
  run = λ n ge lt. let in_run = clip.inside n ge lt in year-on year month low high n e f (are.on n in_run.0 in_run.1);
}

pub year-past : (year : ℤ) (month : Option ℕ) (low high : ℕ) (first last day end : ℤ) → low ≡ unwrap_or month 1 → high
    ≡ unwrap_or month 12
    → AreMonths year low high first last → day ≤ℤ end → last ≤ℤ day → IsNextRun (IsOf year month) day end end end
year-past year month low high first last day end e f are le past = record {
  low = le;
  order = omega (arith, signed_arith);
  within = omega (arith, signed_arith);
  some = λ lt. absurd (omega (arith, signed_arith));
  skipped = λ n ge lt. year-skipped year month low high n e f (inr (are.after n (omega (arith, signed_arith))));
  run = λ n ge lt. absurd (omega (arith, signed_arith));
}

first-2700 : day_number (pos 2700) 1 1 ≡ horizons_end
unfolding day_number first_day days_of_months
first-2700 = refl

first-1800 : day_number (pos 1800) 1 1 ≡ first_calendar_day
unfolding day_number first_day days_of_months
first-1800 = refl

-- the days that a window can have are of the years 1800 to 2699
pub window-year : (n : ℤ) → first_window_day ≤ℤ n → n <ℤ horizons_end → (pos 1800 ≤ℤ year_of n) × (year_of n ≤ℤ pos 2699)
window-year n low high =
    let calendar = year_of-calendar n (omega (arith, signed_arith), omega (arith, signed_arith)) in (
      calendar.0,
      elim (before_month n (pos 2700) 1 (omega arith, omega arith) (rw first-2700 high)) [
        | inl lt ↦ omega (arith, signed_arith, lt)
        | inr here ↦ absurd (let m = here.1 in let l = month_low n in omega (arith, m, l))
      ],
    )

pub year-never : (year : ℤ) (month : Option ℕ) (day end : ℤ) → first_window_day ≤ℤ day → day ≤ℤ end → end ≤ℤ horizons_end
    → (year <ℤ pos 1800) ⊎ (pos 2699 <ℤ year)
    → IsNextRun (IsOf year month) day end end end
year-never year month day end low le high outside = record {
  low = le;
  order = omega (arith, signed_arith);
  within = omega (arith, signed_arith);
  some = λ lt. absurd (omega (arith, signed_arith));
  skipped = λ n ge lt is. apart (year_of n) is.0 (window-year n (omega (arith, signed_arith)) (omega (arith, signed_arith)));
  run = λ n ge lt. absurd (omega (arith, signed_arith));
}
  where
    apart : (z : ℤ) → z ≡ year → (pos 1800 ≤ℤ z) × (z ≤ℤ pos 2699) → ⊥
    apart z e h = elim outside [
      | inl lt ↦ omega (arith, signed_arith, e, lt, h.0)
      | inr gt ↦
          omega (arith, signed_arith, e, gt, h.1)
    ]

-- a later day is not of an earlier year
pub not_earlier : (a n : ℤ) → a ≤ℤ n → ¬ (year_of n <ℤ year_of a)
not_earlier a n le lt =
    let first = first_date (year_of a) 1 (omega arith, omega arith) in
    apart a n (day_number (year_of a) 1 1) le (before_first n (year_of a) 1 (omega arith, omega arith) (inl lt)) (from_first a)
  where
    apart : (a n f : ℤ) → a ≤ℤ n → n <ℤ f → f ≤ℤ a → ⊥
    apart a n f p q r = omega (arith, signed_arith)

    from_first : (a : ℤ) → day_number (year_of a) 1 1 ≤ℤ a
    from_first a = by_lt_z a (day_number (year_of a) 1 1) (λ early.
        absurd (elim (before_month a (year_of a) 1 (omega arith, omega arith) early) [
          | inl lt ↦ omega (arith, signed_arith, lt)
          | inr here ↦ (let m = here.1 in let l = month_low a in omega (arith, m, l))
        ])) (λ ge. ge)

-- the days of a month, in this year
pub month-this_year : (year : ℤ) (month : ℕ) (first last day end from until : ℤ) → year ≡ year_of day → day <ℤ last
    → AreMonths year month month first last → IsClipped first last day end from until
    → IsNextRun (IsOfMonth month) day end from until
month-this_year year month first last day end from until e ahead are clip = record {
  low = clip.low;
  order = clip.order;
  within = clip.within;
  some = clip.some;
  skipped = λ n ge lt is. elim (are.before n (clip.early n ge lt)) [
    | inl early ↦ not_earlier day n ge (omega (arith, signed_arith, e, early))
    | inr here ↦ (let m = here.1 in omega (arith, m, is))
  ];
  run = λ n ge lt. let in_run = clip.inside n ge lt in let on = are.on n in_run.0 in_run.1 in
      (let a = on.1 in let b = on.2 in omega (arith, a, b));
}

-- or in the next one, where it is over in this
pub month-next_year : (year : ℤ) (month : ℕ) (first last here past day end from until : ℤ) → year ≡ year_of day → past ≤ℤ day
    → AreMonths year month month here past
    → AreMonths (year +ℤ pos 1) month month first last → IsClipped first last day end from until
    → IsNextRun (IsOfMonth month) day end from until
month-next_year year month first last here past day end from until e over before are clip = record {
  low = clip.low;
  order = clip.order;
  within = clip.within;
  some = clip.some;
  skipped = λ n ge lt is. elim (are.before n (clip.early n ge lt)) [
    | inl early ↦ elim (before.after n (omega (arith, signed_arith))) [
      | inl late ↦ absurd (omega (arith, signed_arith, early, late))
      | inr m ↦ (let lt = m.1 in omega (arith, lt, is))
    ]
    | inr m ↦ (let lt = m.1 in omega (arith, lt, is))
  ];
  run = λ n ge lt. let in_run = clip.inside n ge lt in let on = are.on n in_run.0 in_run.1 in
      (let a = on.1 in let b = on.2 in omega (arith, a, b));
}

-- the next year's month is still to come
pub next-open : (year : ℤ) (month : ℕ) (first last day : ℤ) → year ≡ year_of day
    → AreMonths (year +ℤ pos 1) month month first last → day <ℤ last
next-open year month first last day e are = by_lt_z day last (λ lt. lt) (λ ge. absurd (elim (are.after day ge) [
  | inl late ↦ omega (arith, signed_arith, e, late)
  | inr m ↦ (let y = m.0 in omega (arith, signed_arith, e, y))
]))

-- the year of a day, by a guess that is at most one off
year_begin : (y : ℤ) → day_number y 1 1 ≡ first_day y
unfolding day_number days_of_months
year_begin y = omega (arith, signed_arith)

year-before : (n y : ℤ) → n <ℤ day_number y 1 1 → year_of n <ℤ y
year-before n y lt = elim (before_month n y 1 (omega arith, omega arith) lt)
    [ inl early ↦ early | inr here ↦ absurd (let m = here.1 in let l = month_low n in omega (arith, m, l)) ]

year-from : (n y : ℤ) → day_number y 1 1 ≤ℤ n → y ≤ℤ year_of n
year-from n y le = by_lt_z (year_of n) y (λ lt. absurd (not_before_first n y 1 (omega arith, omega arith) le (inl lt))) (λ ge. ge)

near : (n g : ℤ) → g ≡ guessed_year n → ((g -ℤ pos 1) ≤ℤ year_of n) × (year_of n <ℤ (g +ℤ pos 2))
near n g e =
    let guess = guessed_year-near n g e in (
      year-from n (g -ℤ pos 1) (rw (year_begin (g -ℤ pos 1)) guess.0),
      year-before n (g +ℤ pos 2) (rw (year_begin (g +ℤ pos 2)) guess.1),
    )

pub year-early : (n g : ℤ) → g ≡ guessed_year n → n <ℤ day_number g 1 1 → (g -ℤ pos 1) ≡ year_of n
year-early n g e lt = let guess = near n g e in let low = guess.0 in let high = year-before n g lt in
    omega (arith, signed_arith, low, high)

pub year-here : (n g : ℤ) → day_number g 1 1 ≤ℤ n → n <ℤ day_number (g +ℤ pos 1) 1 1 → g ≡ year_of n
year-here n g le lt = let low = year-from n g le in let high = year-before n (g +ℤ pos 1) lt in
    omega (arith, signed_arith, low, high)

pub year-late : (n g : ℤ) → g ≡ guessed_year n → day_number (g +ℤ pos 1) 1 1 ≤ℤ n → (g +ℤ pos 1) ≡ year_of n
year-late n g e le = let guess = near n g e in let high = guess.1 in let low = year-from n (g +ℤ pos 1) le in
    omega (arith, signed_arith, low, high)

-- a guess, and the first day of the year that it gives
pub record IsGuess (day guess first : ℤ) : Type 0 where
  pub small : IsSmall guess
  pub high : guess ≤ℤ pos 2700
  pub value : guess ≡ guessed_year day
  pub first_is : first ≡ day_number guess 1 1

pub guess-is : (day guess first : ℤ) → FitsSigned w64 day → (pos 1800 ≤ℤ guess) × (guess ≤ℤ pos 2700)
    → guess ≡ guessed_year (word day) → first ≡ day_number (word guess) 1 1 → IsGuess day guess first
guess-is day guess first fits bound value number =
    let small = year-small guess (bound.0, omega (arith, signed_arith, bound.1)) in
    record { small = small; high = bound.1; value = rw (to_z-of_z fits) at value; first_is = rw (small.is) at number }

pub year-low : (n y : ℤ) → first_window_day ≤ℤ n → y ≡ year_of n → pos 1800 ≤ℤ y
year-low n y low e = rw e (year-from n (pos 1800) (chain (day_number (pos 1800) 1 1) n first-1800 low))
  where
    chain : (a n : ℤ) → a ≡ first_calendar_day → first_window_day ≤ℤ n → a ≤ℤ n
    chain a n e le = omega (arith, signed_arith)

fit-year : (p : StartParts) (n : ℤ) (y : ℕ) → p.week ≡ None → p.year ≡ Some y → IsOf (pos y) p.month n
    → IsTrue (month_and_year_fit p n)
fit-year p n y none is h = rw (none, is) (and_from _ _ (month p.month (month_of n) h.1)
    ((Decides-int_eq (pos y) (year_of n)).1 (sym h.0)))
  where
    month : (given : Option ℕ) (m : ℕ) → IfSome given (λ k. m ≡ k) → agrees given m ≡ true
    month None m h = refl
    month (Some k) m h = eq-eqb _ _ (sym h)

year-fit : (p : StartParts) (n : ℤ) (y : ℕ) → p.week ≡ None → p.year ≡ Some y → IsTrue (month_and_year_fit p n)
    → IsOf (pos y) p.month n
year-fit p n y none is h =
    let parts = and_parts _ _ (rw (none, is) at h) in
    (sym ((Decides-int_eq (pos y) (year_of n)).0 parts.1), month p.month (month_of n) parts.0)
  where
    month : (given : Option ℕ) (m : ℕ) → agrees given m ≡ true → IfSome given (λ k. m ≡ k)
    month None m h = tt
    month (Some k) m h = sym (eqb-true _ _ h)

-- where no year of the date is given, the month alone asks
fit-month : (p : StartParts) (n : ℤ) (m : ℕ) → ((is_some p.week ≡ true) ⊎ (p.year ≡ None)) → p.month ≡ Some m → IsOfMonth m n
    → IsTrue (month_and_year_fit p n)
fit-month p n m free is h = and_from _ _ (rw is (eq-eqb _ _ (sym h))) (no_year (is_some p.week) p.year (year_of n) free)
  where
    no_year : (week : Bool) (given : Option ℕ) (y : ℤ) → ((week ≡ true) ⊎ (given ≡ None)) → (week || year_agrees_with given y)
        ≡ true
    no_year true given y h = refl
    no_year false given y h = elim h [ inl e ↦ cc | inr e ↦ rw e refl ]

month-fit : (p : StartParts) (n : ℤ) (m : ℕ) → p.month ≡ Some m → IsTrue (month_and_year_fit p n) → IsOfMonth m n
month-fit p n m is h = let parts = and_parts (agrees p.month (month_of n))
    (is_some p.week || year_agrees_with p.year (year_of n)) h in sym (eqb-true m (month_of n) (rw is at parts.0))

none_given : (o : Option ℕ) → is_some o ≡ false → o ≡ None
none_given None e = refl
none_given (Some x) e = cc

-- two properties that the same days have
abbrev pub AreSameDays : (ℤ → Type 0) → (ℤ → Type 0) → Type 0
AreSameDays p q = (n : ℤ) → p n ↔ q n

pub same-year : (p : StartParts) (y : ℕ) → is_some p.week ≡ false → p.year ≡ Some y
    → AreSameDays (IsOf (pos y) p.month) (λ n. IsTrue (month_and_year_fit p n))
same-year p y none is n = let without = none_given p.week none in (fit-year p n y without is, year-fit p n y without is)

pub same-month : (p : StartParts) (m : ℕ) → ((is_some p.week ≡ true) ⊎ (p.year ≡ None)) → p.month ≡ Some m
    → AreSameDays (IsOfMonth m) (λ n. IsTrue (month_and_year_fit p n))
same-month p m free is n = (fit-month p n m free is, month-fit p n m is)

pub none-same : (p q : ℤ → Type 0) (a b : ℤ) → AreSameDays p q → ((n : ℤ) → a ≤ℤ n → n <ℤ b → p n → ⊥)
    → (n : ℤ) → a ≤ℤ n → n <ℤ b → q n → ⊥
none-same p q a b same none n ge lt k = none n ge lt ((same n).1 k)

pub all-same : (p q : ℤ → Type 0) (a b : ℤ) → AreSameDays p q → ((n : ℤ) → a ≤ℤ n → n <ℤ b → p n)
    → (n : ℤ) → a ≤ℤ n → n <ℤ b → q n
all-same p q a b same all n ge lt = (same n).0 (all n ge lt)

pub run-same : (p q : ℤ → Type 0) (day end from until : ℤ) → AreSameDays p q → IsNextRun p day end from until
    → IsNextRun q day end from until
run-same p q day end from until same h =
    assumption (h, none-same p q day from same h.skipped, all-same p q from until same h.run)
