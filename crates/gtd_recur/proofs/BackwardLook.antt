-- A look backwards for the last day before another on which the start begins.
use Rattle.std.proofs.Common.{◌≡◌, ℕ, ◌+◌, ◌<◌, inl, refl, arith, ℤ, pos, ◌+ℤ◌, ◌-ℤ◌, ◌<ℤ◌, ◌≤ℤ◌, unsigned_abs}
use Rattle.std.proofs.Common.{FitsSigned, to_z-of_z, w64, neg_ℤ}
use Rattle.std.specs.Prelude.{IsTrue}
use Rattle.gtd_calendar.specs.facts.Signed.{signed_arith}
use Rattle.gtd_core.specs.declared.start.StartParts.{StartParts}
use Rattle.gtd_core.specs.Limits.{horizons_end, first_window_day}
use Rattle.gtd_recur.specs.Begins.{month_and_year_fit}
use Rattle.gtd_recur.specs.Jumps.{IsLastBegun, IsLastRun}
use Rattle.gtd_recur.specs.Look.{IsLookBack}
use Rattle.gtd_recur.specs.facts.StartsLemmas.{later_by}
use Rattle.gtd_recur.proofs.OpenLemmas.{IsLookingBack, back-run, back-small}
use Rattle.gtd_recur.proofs.SmallLemmas.{word, IsSmall, small-day}
use Rattle.gtd_recur.proofs.WalkLemmas.{back-many, back-rest}

-- a look that is under way, and its days as the code has them
pub record IsUnderWay (p : StartParts) (low n from until : ℤ) (looked : ℕ) : Type 0 where
  pub low_is : word low ≡ low
  pub n_is : word n ≡ n
  pub low_in : first_window_day ≤ℤ low
  pub begins : IsSmall from
  pub ends : IsSmall until
  pub few : looked < 400_000
  pub looking : IsLookingBack p low n from until looked

pub under-way : (p : StartParts) (low n from until : ℤ) (looked : ℕ) → FitsSigned w64 low → FitsSigned w64 n
    → first_window_day ≤ℤ low → n ≤ℤ horizons_end → IsLookingBack p (word low) (word n) from until looked
    → IsUnderWay p low n from until looked
under-way p low n from until looked fits_low fits_n a b given =
    let low_is : word low ≡ low = to_z-of_z fits_low in
    let n_is : word n ≡ n = to_z-of_z fits_n in
    let h = rw (low_is, n_is) at given in
    let h1 = h.begin in let h2 = h.order in let h3 = h.within in
    record {
      low_is = low_is;
      n_is = n_is;
      low_in = a;
      begins = small-day from (omega (arith, signed_arith, a, h1)) (omega (arith, signed_arith, b, h2, h3));
      ends = small-day until (omega (arith, signed_arith, a, h1, h2)) (omega (arith, signed_arith, b, h3));
      few = back-small p low n from until looked h a b;
      looking = h;
    }

-- the last day of the run on which the start begins, or the day before the run
pub record IsLookedAt (p : StartParts) (from until day : ℤ) : Type 0 where
  pub small : IsSmall day
  pub last : IsLastBegun p from until day

pub looked-at : (p : StartParts) (low n from until day : ℤ) (looked : ℕ) → IsUnderWay p low n from until looked
    → IsLastBegun p (word from) (word until) day → IsLookedAt p from until day
looked-at p low n from until day looked k given =
    let last = rw (k.begins.is, k.ends.is) at given in
    let a = k.low_in in let h1 = k.looking.begin in let high = k.ends.high in
    let l0 = last.begin in let l1 = last.before in
    record {
      small = small-day day (omega (arith, signed_arith, a, h1, l0)) (omega (arith, signed_arith, high, l1));
      last = last;
    }

-- the days from one on up to the end of the run are counted
pub record AreCounted (until day : ℤ) (looked : ℕ) : Type 0 where
  pub is : word (word until -ℤ word day) ≡ until -ℤ day
  pub long : until ≡ day +ℤ pos (unsigned_abs (until -ℤ day))
  pub few : looked + unsigned_abs (until -ℤ day) < 800_000

pub are-counted : (p : StartParts) (low n from until day : ℤ) (looked : ℕ) → IsUnderWay p low n from until looked
    → from ≤ℤ day → day ≤ℤ until → AreCounted until day looked
are-counted p low n from until day looked k ge le =
    let low = k.begins.low in let high = k.ends.high in let some = k.few in
    let small = small-day day (omega (arith, signed_arith, low, ge)) (omega (arith, signed_arith, high, le)) in
    let long = later_by day until le in
    record {
      is = rw (k.ends.is, small.is) (omega (arith, signed_arith, low, high, ge, le));
      long = long;
      few = within _ until day looked (unsigned_abs (until -ℤ day)) long low ge high some;
    }
  where
    within : (from until day : ℤ) (looked k : ℕ) → until ≡ day +ℤ pos k → neg_ℤ (pos 62_050) ≤ℤ from → from ≤ℤ day
        → until ≤ℤ pos 303_100 → looked < 400_000 → looked + k < 800_000
    within from until day looked k e low ge high few = omega (arith, signed_arith)

-- the start begins on a day of the run
pub look-found : (p : StartParts) (low n from until day : ℤ) (looked : ℕ) → IsUnderWay p low n from until looked
    → IsLastBegun p from until day → from ≤ℤ day
    → IsLookBack p low n day day 0 (looked + unsigned_abs (until -ℤ day))
look-found p low n from until day looked k last ge =
    let h = k.looking in
    let a2 = h.begin in let a4 = h.within in let l1 = last.before in
    let before : day <ℤ n = omega (arith, signed_arith, l1, a4) in
    let long = later_by day until (omega (arith, signed_arith, l1)) in
    let on = last.some ge in
    record {
      at = record {
        begin = omega (arith, signed_arith, a2, ge);
        within = omega (arith, signed_arith, before);
        counted = back-many p day until n looked _ long a4 (λ m from lt. h.run m (omega (arith, signed_arith, ge, from)) lt)
            h.counted;
        none = λ m gt lt. back-rest p (day +ℤ pos 1) until n (λ i from less. last.none i (omega (arith, signed_arith, from)) less)
            h.none m (omega (arith, signed_arith, gt)) lt;
        reason = inl (before, on);
      };
      opened = inl (before, on, refl, refl);
    }

-- it begins on no day of the run, and the look goes on with the run before that
pub look-on : (p : StartParts) (low n from until day before after : ℤ) (looked : ℕ) → IsUnderWay p low n from until looked
    → IsLastBegun p from until day → day <ℤ from → IsLastRun (λ m. IsTrue (month_and_year_fit p m)) low from before after
    → IsLookingBack p low n before after (looked + unsigned_abs (until -ℤ from))
look-on p low n from until day before after looked k last less run =
    let h = k.looking in
    let a3 = h.order in let a4 = h.within in
    back-run p low n from before after _ (omega (arith, signed_arith, a3, a4)) run
    (back-many p from until n looked _ (later_by from until a3) a4 h.run h.counted)
    (back-rest p from until n (λ m ge lt. last.none m (omega (arith, signed_arith, less, ge)) lt) h.none)
