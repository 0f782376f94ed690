-- A search for a day on which a start begins, as it goes on from day to day.
use Rattle.std.proofs.Common.{◌≡◌, Bool, false, true, inl, inr, Some, sym, ◌∙◌, arith, ℤ, pos, ◌+ℤ◌, ◌-ℤ◌, ◌<ℤ◌, ◌≤ℤ◌}
use Rattle.std.proofs.Common.{FitsSigned, to_z-of_z, w64}
use Rattle.std.proofs.lemmas.Int.{by_lt_z}
use Rattle.gtd_core.specs.declared.start.StartParts.{StartParts}
use Rattle.gtd_calendar.specs.facts.Signed.{signed_arith}
use Rattle.gtd_calendar.specs.ComputedFields.{day_fields}
use Rattle.gtd_recur.specs.Begins.{begins_on}
use Rattle.gtd_recur.specs.Jumps.{IsFirstBegun, IsLastBegun, IsMissed, IsMissedBack}
use Rattle.gtd_recur.specs.Stretches.{IsEarlier, IsLater}
use Rattle.gtd_recur.proofs.FindLemmas.{missed-from, missed-back}
use Rattle.gtd_recur.proofs.SmallLemmas.{IsSmall, word}

-- A test is made of what was computed of a day. What it says holds of the day itself.
pub tested : {A : Type 0} (of : ℤ → A) (test : A → Bool) (n : ℤ) (x : A) (got value : Bool) → FitsSigned w64 n → x ≡ of (word n)
    → got ≡ test x → got ≡ value → test (of n) ≡ value
tested of test n x got value fits is by same = let plain = rw (to_z-of_z fits) at is in rw plain at (sym by ∙ same)

-- the start begins on no day from one on up to the day found
pub record IsFirstSoFar (p : StartParts) (day end found : ℤ) : Type 0 where
  pub low : day ≤ℤ found
  pub high : found ≤ℤ end
  pub none : (n : ℤ) → day ≤ℤ n → n <ℤ found → begins_on p (day_fields n) ≡ false

pub first-found : (p : StartParts) (day end found : ℤ) → FitsSigned w64 day → FitsSigned w64 end
    → IsFirstSoFar p (word day) (word end) found → (found <ℤ end → begins_on p (day_fields found) ≡ true)
    → IsFirstBegun p day end found
first-found p day end found fits_day fits_end given some =
    let h = rw (to_z-of_z fits_day, to_z-of_z fits_end) at given in
    record { low = h.low; high = h.high; none = h.none; some = some }

-- the search goes on with the next day
pub first-next : (p : StartParts) (day end found : ℤ) → IsFirstSoFar p day end found → found <ℤ end
    → begins_on p (day_fields found) ≡ false → IsFirstSoFar p day end (found +ℤ pos 1)
first-next p day end found h less off =
    let low = h.low in
    record {
      low = omega (arith, signed_arith, low);
      high = omega (arith, signed_arith, less);
      none = λ n ge lt. by_lt_z n found (λ before. h.none n ge before)
          (λ more. let same : n ≡ found = omega (arith, signed_arith, more, lt) in rw same off);
    }

-- or with the next one that is not excluded at once
pub first-on : (p : StartParts) (day end found next r : ℤ) → FitsSigned w64 next → FitsSigned w64 r
    → IsFirstSoFar p day end found → IsMissed p found end (Some next) → IsEarlier (word next) end r
    → IsFirstSoFar p day end (word r)
first-on p day end found next r fits_next fits h missed given =
    let earlier = rw (to_z-of_z fits_next) at given in
    let low = h.low in let high = h.high in let m0 = missed.0 in let e0 = earlier.0 in let e1 = earlier.1 in
    rw (to_z-of_z fits) (record {
      low = elim (earlier.2) [
        | inl e ↦ omega (arith, signed_arith, e, m0, low)
        | inr e ↦ omega (arith, signed_arith, e, low, high)
      ];
      high = e1;
      none = λ n ge lt. by_lt_z n found (λ less. h.none n ge less)
          (λ more. missed.1 n more (omega (arith, signed_arith, lt, e0)) (omega (arith, signed_arith, lt, e1)));
    })

-- backwards: it begins on no day behind the day found
pub record IsLastSoFar (p : StartParts) (low end found : ℤ) : Type 0 where
  pub begin : low ≤ℤ (found +ℤ pos 1)
  pub before : found <ℤ end
  pub none : (n : ℤ) → found <ℤ n → n <ℤ end → begins_on p (day_fields n) ≡ false

pub last-found : (p : StartParts) (low end found : ℤ) → FitsSigned w64 low → FitsSigned w64 end
    → IsLastSoFar p (word low) (word end) found → (low ≤ℤ found → begins_on p (day_fields found) ≡ true)
    → IsLastBegun p low end found
last-found p low end found fits_low fits_end given some =
    let h = rw (to_z-of_z fits_low, to_z-of_z fits_end) at given in
    record { begin = h.begin; before = h.before; none = h.none; some = some }

pub last-on : (p : StartParts) (low end found before r : ℤ) → IsSmall low → FitsSigned w64 before → FitsSigned w64 r
    → IsLastSoFar p (word low) end found → IsMissedBack p (word low) found (Some before)
    → IsLater (word before) (word (word low -ℤ pos 1)) r → IsLastSoFar p (word low) end (word r)
last-on p low end found before r small fits_before fits given missed_back rest =
    let h = rw (small.is) at given in
    let missed = rw (small.is) at missed_back in
    let later = rw (to_z-of_z fits_before, small.is, small.before) at rest in
    let i0 = h.begin in let i1 = h.before in let m0 = missed.0 in let e0 = later.0 in let e1 = later.1 in
    rw (small.is, to_z-of_z fits) (record {
      begin = omega (arith, signed_arith, e1);
      before = elim (later.2) [ inl e ↦ omega (arith, signed_arith, e, m0, i1) | inr e ↦ omega (arith, signed_arith, e, i0, i1) ];
      none = λ n gt lt. by_lt_z found n (λ less. h.none n less lt)
          (λ more. missed.1 n (omega (arith, signed_arith, gt, e1)) (omega (arith, signed_arith, gt, e0)) more);
    })

-- it does not begin on the day itself, and the next one is to be asked, or a later one where those between are excluded
pub missed-next : (p : StartParts) (day end : ℤ) → begins_on p (day_fields day) ≡ false → IsMissed p day end (Some (day +ℤ pos 1))
missed-next p day end off = missed-from p day end (day +ℤ pos 1) off (omega (arith, signed_arith))
    (λ n gt lt less. absurd (omega (arith, signed_arith, gt, lt)))

pub missed-up_to : (p : StartParts) (day end next : ℤ) → FitsSigned w64 day → FitsSigned w64 next
    → begins_on p (day_fields day) ≡ false → word day <ℤ next
    → ((n : ℤ) → word day <ℤ n → n <ℤ next → n <ℤ end → begins_on p (day_fields n) ≡ false)
    → IsMissed p day end (Some (word next))
missed-up_to p day end next fits_day fits off later none =
    rw (to_z-of_z fits) (missed-from p day end next off (rw (to_z-of_z fits_day) at later) (rw (to_z-of_z fits_day) at none))

-- the same backwards
pub missed-before : (p : StartParts) (low day : ℤ) → begins_on p (day_fields day) ≡ false
    → IsMissedBack p low day (Some (day -ℤ pos 1))
missed-before p low day off = missed-back p low day (day -ℤ pos 1) off (omega (arith, signed_arith))
    (λ n from gt lt. absurd (omega (arith, signed_arith, gt, lt)))

pub missed-down_to : (p : StartParts) (low day before : ℤ) → FitsSigned w64 day → FitsSigned w64 before
    → begins_on p (day_fields day) ≡ false → before <ℤ word day
    → ((n : ℤ) → low ≤ℤ n → before <ℤ n → n <ℤ word day → begins_on p (day_fields n) ≡ false)
    → IsMissedBack p low day (Some (word before))
missed-down_to p low day before fits_day fits off earlier none =
    let plain = to_z-of_z fits_day in
    rw (to_z-of_z fits) (missed-back p low day before off (rw plain at earlier) (rw plain at none))
