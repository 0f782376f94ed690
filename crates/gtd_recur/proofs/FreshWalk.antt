-- A walk before its first start is taken.
use Rattle.std.proofs.Common.{◌≡◌, ℕ, ◌≤◌, refl, arith, ℤ, pos, ◌-ℤ◌, ◌≤ℤ◌}
use Rattle.std.specs.Prelude.{IsTrue}
use Rattle.gtd_calendar.specs.facts.Signed.{signed_arith}
use Rattle.gtd_core.specs.declared.domain.Basic.{Basic}
use Rattle.gtd_core.specs.declared.horizon.Horizon.{Horizon}
use Rattle.gtd_core.specs.declared.start.StartParts.{StartParts}
use Rattle.gtd_core.specs.Limits.{first_window_day}
use Rattle.gtd_core.specs.Parts.{start_parts, duration_parts}
use Rattle.gtd_core.specs.Ranges.{lookback_of}
use Rattle.gtd_core.specs.Whole.{from_day, to_day}
use Rattle.gtd_recur.specs.Begins.{month_and_year_fit}
use Rattle.gtd_recur.specs.Jumps.{IsNextRun}
use Rattle.gtd_recur.specs.Look.{IsLookBack}
use Rattle.gtd_recur.specs.Starts.{AreFitting, AreLeft, IsInWindow, IsLookedCount, starts_left}
use Rattle.gtd_recur.specs.Work.{days_between, starts_of, window_begin}
use Rattle.gtd_recur.specs.facts.StartsLemmas.{begun-are, days_between-nil, window_begin-is}
use Rattle.gtd_recur.proofs.OpenLemmas.{found-are, found-count, found-open, found-window}
use Rattle.gtd_recur.proofs.SmallLemmas.{word, small-day, run-ahead}

-- what holds of such a walk: none of its starts is handed out, and the days that were looked at are counted
pub record IsFresh (d : Basic) (h : Horizon) (first seen day from until : ℤ) (clock looked : ℕ) : Type 0 where
  pub first_in : window_begin d h ≤ℤ first
  pub seen_in : seen ≤ℤ from_day h
  pub clock_in : clock ≤ 86400
  pub in_window : IsInWindow first day from (to_day h)
  pub fitting : AreFitting (start_parts d.start) from until (to_day h)
  pub left : AreLeft 0 (starts_of (start_parts d.start) (days_between first (to_day h)))
      (starts_left (start_parts d.start) day clock from (to_day h))
  pub counted : IsLookedCount (start_parts d.start) first seen day from looked

-- the first day of the window as it is computed, from the first day of the horizon and the lookback
pub record IsWindowBegin (d : Basic) (h : Horizon) (seen back : ℤ) : Type 0 where
  pub seen_is : word seen ≡ from_day h
  pub begin : word (word seen -ℤ word back) ≡ window_begin d h
  pub last : word (to_day h) ≡ to_day h
  pub low : first_window_day ≤ℤ window_begin d h
  pub order : window_begin d h ≤ℤ from_day h
  pub high : from_day h ≤ℤ pos 303_000

pub window-computed : (d : Basic) (h : Horizon) (seen back : ℤ) (lookback : ℕ) → seen ≡ from_day h → back ≡ pos lookback
    → lookback ≤ 36600 → lookback ≡ lookback_of (duration_parts d.duration) → IsWindowBegin d h seen back
window-computed d h seen back lookback from is bound value =
    let a = h.not_early in let b = h.not_late in let c = h.not_empty in
    let begins : window_begin d h ≡ from_day h -ℤ pos lookback = rw value (window_begin-is d h) in
    record {
      seen_is = omega (arith, signed_arith, a, b, c, from);
      begin = rw begins (omega (arith, signed_arith, a, b, c, from, is, bound));
      last = omega (arith, signed_arith, a, b, c);
      low = rw begins (omega (arith, signed_arith, a, bound));
      order = rw begins (omega (arith, signed_arith));
      high = omega (arith, signed_arith, b, c);
    }

-- a walk over the whole window
pub fresh-whole : (d : Basic) (h : Horizon) (p : StartParts) (seen back end from until : ℤ) → IsWindowBegin d h seen back
    → p ≡ start_parts d.start → end ≡ to_day h
    → IsNextRun (λ n. IsTrue (month_and_year_fit p n)) (word (word seen -ℤ word back)) (word end) from until
    → IsFresh d h (word (word seen -ℤ word back)) (word (word seen -ℤ word back)) (word (word (word seen -ℤ word back) -ℤ pos 1))
    (word from) (word until) 86400 0
fresh-whole d h p seen back end from until w same to given =
    let run = rw (same, to, w.begin, w.last) at given in
    let first = window_begin d h in
    let q = start_parts d.start in
    let low = w.low in let a = h.not_late in
    let ahead = run-ahead q first (to_day h) from until (omega (arith, signed_arith, low)) a run in
    let b = ahead.low in let c = ahead.high in
    let small = small-day first (omega (arith, signed_arith, low)) (omega (arith, signed_arith, a, b, c)) in
    rw (w.begin, small.before, ahead.from_is, ahead.until_is) (record {
      first_in = omega (arith, signed_arith);
      seen_in = w.order;
      clock_in = omega arith;
      in_window = record {
        first_in = low;
        day_in = omega (arith, signed_arith);
        next_in = omega (arith, signed_arith, b);
        end_in = c;
        last_in = a;
      };
      fitting = ahead.fitting;
      left = begun-are q (first -ℤ pos 1) first from (to_day h) b c ahead.skipped;
      counted = found-count q first first (first -ℤ pos 1) from 0 (omega (arith, signed_arith)) b (omega (arith, signed_arith))
          (rw (days_between-nil first) refl) ahead.skipped;
    })

-- a walk that begins where a look backwards ended
pub record IsFreshBehind (d : Basic) (h : Horizon) (first seen day from until : ℤ) (clock looked : ℕ) : Type 0 where
  pub first_is : word first ≡ first
  pub look : IsLookBack (start_parts d.start) (window_begin d h) (from_day h) first day clock looked
  pub fresh : IsFresh d h (word first) (word seen) (word day) (word from) (word until) clock looked

pub fresh-behind : (d : Basic) (h : Horizon) (p : StartParts) (seen back end first day from until : ℤ) (clock looked : ℕ)
    → IsWindowBegin d h seen back → p ≡ start_parts d.start → end ≡ to_day h
    → IsLookBack p (word (word seen -ℤ word back)) (word seen) first day clock looked
    → IsNextRun (λ n. IsTrue (month_and_year_fit p n)) (word seen) (word end) from until
    → IsFreshBehind d h first seen day from until clock looked
fresh-behind d h p seen back end first day from until clock looked w same to looks given =
    let run = rw (same, to, w.seen_is, w.last) at given in
    let look = rw (same, w.begin, w.seen_is) at looks in
    let q = start_parts d.start in
    let n = from_day h in
    let low = w.low in let early = h.not_early in let late = h.not_late in
    let ahead = run-ahead q n (to_day h) from until (omega (arith, signed_arith, early)) late run in
    let b = ahead.low in let c = ahead.high in
    let a1 = look.at.begin in let a2 = look.at.within in
    let opens = found-open q (window_begin d h) n first day clock looked look in
    let o1 = opens.1 in let o2 = opens.2 in
    let begins = small-day first (omega (arith, signed_arith, low, a1)) (omega (arith, signed_arith, a2, b, c, late)) in
    let last = small-day day (omega (arith, signed_arith, low, a1, o1)) (omega (arith, signed_arith, a2, o2, b, c, late)) in
    record {
      first_is = begins.is;
      look = look;
      fresh = rw (begins.is, w.seen_is, last.is, ahead.from_is, ahead.until_is) (record {
        first_in = a1;
        seen_in = omega (arith, signed_arith);
        clock_in = opens.3;
        in_window = found-window q (window_begin d h) n first day from (to_day h) clock looked look low b c late;
        fitting = ahead.fitting;
        left = found-are q (window_begin d h) n first day from (to_day h) clock looked look b c ahead.skipped;
        counted = found-count q first n day from looked a2 b opens.0 look.at.counted ahead.skipped;
      });
    }
