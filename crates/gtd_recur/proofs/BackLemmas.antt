-- Which days a given year or month excludes, backwards.
use Rattle.std.proofs.Common.{◌≡◌, ℕ, ◌⊎◌, inl, inr, Option, arith, ℤ, pos, ◌-ℤ◌, ◌<ℤ◌, ◌≤ℤ◌}
use Rattle.std.proofs.Common.{FitsSigned, to_z-of_z, w64}
use Rattle.std.specs.Option.{unwrap_or}
use Rattle.std.proofs.lemmas.Int.{by_lt_z}
use Rattle.gtd_core.specs.Limits.{horizons_end, first_window_day}
use Rattle.gtd_calendar.specs.facts.Signed.{signed_arith}
use Rattle.gtd_calendar.specs.ComputedDates.{year_of}
use Rattle.gtd_recur.specs.Jumps.{IsLastRun, AreMonths, IsClippedBack, IsOf, IsOfMonth}
use Rattle.gtd_recur.specs.Stretches.{IsLater, IsEarlier}
use Rattle.gtd_recur.proofs.JumpLemmas.{AreSameDays, none-same, all-same, year-skipped, year-on, window-year, not_earlier}
use Rattle.gtd_recur.proofs.SmallLemmas.{word}

-- those of the days that are before an end and not before a day
clipped-back : (first last low end a b : ℤ) → first <ℤ last → first <ℤ end → IsEarlier last end b → low <ℤ b
    → IsLater first low a → IsClippedBack first last low end a b
clipped-back first last low end a b some ahead earlier far later = record {
  begin = later.1;
  order = elim (later.2) [
    | inl e ↦ elim (earlier.2) [ inl f ↦ omega (arith, signed_arith, e, f) | inr f ↦ omega (arith, signed_arith, e, f) ]
    | inr e ↦ omega (arith, signed_arith, e)
  ];
  within = earlier.1;
  some = λ lt. elim (later.2) [
    | inl e ↦ elim (earlier.2) [ inl f ↦ omega (arith, signed_arith, e, f) | inr f ↦ omega (arith, signed_arith, e, f) ]
    | inr e ↦ omega (arith, signed_arith, e)
  ];
  late = λ n ge from lt. elim (earlier.2) [
    | inl f ↦ omega (arith, signed_arith, f, ge)
    | inr f ↦ absurd (omega (arith, signed_arith, f, lt, ge))
  ];
  inside = λ n ge lt. (
    let p = later.0 in omega (arith, signed_arith, p, ge),
    let q = earlier.0 in omega (arith, signed_arith, q, lt),
  );
}

pub clipped-words : (first last low end a b : ℤ) → FitsSigned w64 first → FitsSigned w64 last → FitsSigned w64 low
    → FitsSigned w64 end → FitsSigned w64 a → FitsSigned w64 b → first <ℤ last → first <ℤ end
    → IsEarlier (word last) (word end) b → word low <ℤ word b → IsLater (word first) (word low) a
    → IsClippedBack first last low end (word a) (word b)
clipped-words first last low end a b f l d e p q some ahead earlier far later =
    let low_is = to_z-of_z d in let b_is = to_z-of_z q in
    rw (to_z-of_z p, b_is) (clipped-back first last low end a b some ahead (rw (to_z-of_z l, to_z-of_z e) at earlier)
    (rw (low_is, b_is) at far) (rw (to_z-of_z f, low_is) at later))

-- or none of them
pub clipped-none : (first last low end b : ℤ) → low ≤ℤ end → IsEarlier last end b → b ≤ℤ low
    → IsClippedBack first last low end low low
clipped-none first last low end b le earlier far = record {
  begin = omega (arith, signed_arith);
  order = omega (arith, signed_arith);
  within = le;
  some = λ lt. absurd (omega (arith, signed_arith, lt));
  late = λ n ge from lt. elim (earlier.2) [
    | inl f ↦ omega (arith, signed_arith, f, ge, far)
    | inr f ↦ absurd (omega (arith, signed_arith, f, lt, ge, far))
  ];
  inside = λ n ge lt. absurd (omega (arith, signed_arith, ge, lt));
}

-- no day has it
pub none-last : (has : ℤ → Type 0) (low end : ℤ) → low ≤ℤ end → ((n : ℤ) → low ≤ℤ n → n <ℤ end → ¬ (has n))
    → IsLastRun has low end low low
none-last has low end le none = record {
  begin = omega (arith, signed_arith);
  order = omega (arith, signed_arith);
  within = le;
  some = λ lt. absurd (omega (arith, signed_arith, lt));
  skipped = none;
  run = λ n ge lt. absurd (omega (arith, signed_arith, ge, lt));
}

pub last-same : (p q : ℤ → Type 0) (low end from until : ℤ) → AreSameDays p q → IsLastRun p low end from until
    → IsLastRun q low end from until
last-same p q low end from until same h =
    assumption (h, none-same p q until end same h.skipped, all-same p q from until same h.run)

-- a run of the days of some months, where no other day of them comes behind it
months-last : (has : ℤ → Type 0) (first last low end from until : ℤ) → IsClippedBack first last low end from until
    → ((n : ℤ) → last ≤ℤ n → n <ℤ end → ¬ (has n)) → ((n : ℤ) → first ≤ℤ n → n <ℤ last → has n)
    → IsLastRun has low end from until
months-last has first last low end from until clip after on =
    let a = clip.begin in let b = clip.order in
    record {
      begin = a;
      order = b;
      within = clip.within;
      some = clip.some;
      skipped = λ n ge lt. after n (clip.late n ge (omega (arith, signed_arith, a, b, ge)) lt) lt;
      run = λ n ge lt. let inside = clip.inside n ge lt in on n inside.0 inside.1;
    }

-- the days of a year, or of one of its months
pub year-last : (year : ℤ) (month : Option ℕ) (low high : ℕ) (first last begin end from until : ℤ) → low ≡ unwrap_or month 1
    → high ≡ unwrap_or month 12 → AreMonths year low high first last → IsClippedBack first last begin end from until
    → IsLastRun (IsOf year month) begin end from until
year-last year month low high first last begin end from until e f are clip =
    months-last (IsOf year month) first last begin end from until clip
    (λ n ge lt. year-skipped year month low high n e f (inr (are.after n ge)))
    (λ n ge lt. year-on year month low high n e f (are.on n ge lt))

pub year-ahead : (year : ℤ) (month : Option ℕ) (low high : ℕ) (first last begin end : ℤ) → low ≡ unwrap_or month 1
    → high ≡ unwrap_or month 12 → AreMonths year low high first last → begin ≤ℤ end → end ≤ℤ first
    → IsLastRun (IsOf year month) begin end begin begin
year-ahead year month low high first last begin end e f are le past = none-last (IsOf year month) begin end le
    (λ n ge lt. year-skipped year month low high n e f (inl (are.before n (omega (arith, signed_arith, lt, past)))))

pub year-nowhere : (year : ℤ) (month : Option ℕ) (begin end : ℤ) → first_window_day ≤ℤ begin → begin ≤ℤ end
    → end ≤ℤ horizons_end → (year <ℤ pos 1800) ⊎ (pos 2699 <ℤ year) → IsLastRun (IsOf year month) begin end begin begin
year-nowhere year month begin end low le high outside = none-last (IsOf year month) begin end le
    (λ n ge lt is. apart (year_of n) is.0 (window-year n (omega (arith, signed_arith)) (omega (arith, signed_arith))))
  where
    apart : (z : ℤ) → z ≡ year → (pos 1800 ≤ℤ z) × (z ≤ℤ pos 2699) → ⊥
    apart z e h = elim outside [
      | inl lt ↦ omega (arith, signed_arith, e, lt, h.0)
      | inr gt ↦ omega (arith, signed_arith, e, gt, h.1)
    ]

-- the days of a month, in the last year
pub month-last_year : (year : ℤ) (month : ℕ) (first last low end from until : ℤ) → year ≡ year_of (end -ℤ pos 1)
    → AreMonths year month month first last → IsClippedBack first last low end from until
    → IsLastRun (IsOfMonth month) low end from until
month-last_year year month first last low end from until e are clip =
    months-last (IsOfMonth month) first last low end from until clip (λ n ge lt is. elim (are.after n ge) [
      | inl late ↦ not_earlier n (end -ℤ pos 1) (omega (arith, signed_arith, lt)) (omega (arith, signed_arith, e, late))
      | inr here ↦ (let m = here.1 in omega (arith, m, is))
    ]) (λ n ge lt. let on = are.on n ge lt in (let a = on.1 in let b = on.2 in omega (arith, a, b)))

-- or in the one before, where it is still to come in that one
pub month-year_before : (year : ℤ) (month : ℕ) (first last here past low end from until : ℤ) → end ≤ℤ here
    → AreMonths year month month here past → AreMonths (year -ℤ pos 1) month month first last
    → IsClippedBack first last low end from until → IsLastRun (IsOfMonth month) low end from until
month-year_before year month first last here past low end from until over this are clip =
    months-last (IsOfMonth month) first last low end from until clip (λ n ge lt is. elim (are.after n ge) [
      | inl late ↦ elim (this.before n (omega (arith, signed_arith, lt, over))) [
        | inl early ↦ absurd (omega (arith, signed_arith, early, late))
        | inr m ↦ (let less = m.1 in omega (arith, less, is))
      ]
      | inr m ↦ (let less = m.1 in omega (arith, less, is))
    ]) (λ n ge lt. let on = are.on n ge lt in (let a = on.1 in let b = on.2 in omega (arith, a, b)))

-- there is no year before 1800
pub month-no_year : (month : ℕ) (here past low end : ℤ) → first_window_day ≤ℤ low → low ≤ℤ end → end ≤ℤ horizons_end
    → end ≤ℤ here → AreMonths (pos 1800) month month here past → IsLastRun (IsOfMonth month) low end low low
month-no_year month here past low end begin le high over this = none-last (IsOfMonth month) low end le (λ n ge lt is.
    elim (this.before n (omega (arith, signed_arith, lt, over))) [
      | inl early ↦ (let w = window-year n (omega (arith, signed_arith)) (omega (arith, signed_arith)) in let a = w.0 in
          omega (arith, signed_arith, early, a))
      | inr m ↦ (let less = m.1 in omega (arith, less, is))
    ])

-- the month of the year before is over
pub year_before-open : (year : ℤ) (month : ℕ) (first last end : ℤ) → year ≡ year_of (end -ℤ pos 1)
    → AreMonths (year -ℤ pos 1) month month first last → first <ℤ end
year_before-open year month first last end e are = by_lt_z first end (λ lt. lt) (λ ge. absurd (elim
    (are.before (end -ℤ pos 1) (omega (arith, signed_arith))) [
      | inl early ↦ omega (arith, signed_arith, e, early)
      | inr m ↦ (let y = m.0 in omega (arith, signed_arith, e, y))
    ]))
