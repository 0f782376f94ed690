-- When a stretch begins next, and how long stretches go on without a gap.
use Rattle.std.proofs.Common.{◌≡◌, ◌⊎◌, ℕ, ◌+◌, ◌<◌, ◌≤◌, Bool, true, false, None, Some, refl, arith, ℤ, pos, ◌+ℤ◌, ◌-ℤ◌}
use Rattle.std.proofs.Common.{◌*ℤ◌, ◌<ℤ◌, ◌≤ℤ◌, unsigned_abs, inl, inr}
use Rattle.std.specs.Prelude.{IsTrue}
use Rattle.std.proofs.lemmas.Bool.{both_ways, false_from_ne_true}
use Rattle.std.proofs.lemmas.Int.{by_lt_z}
use Rattle.gtd_calendar.specs.facts.Signed.{signed_arith}
use Rattle.gtd_calendar.specs.facts.ClockLemmas.{second-parts, second-only}
use Rattle.gtd_calendar.specs.Clock.{second_of_day}
use Rattle.gtd_calendar.specs.ComputedFields.{day_fields}
use Rattle.gtd_core.specs.Seconds.{day_of_second}
use Rattle.gtd_core.specs.declared.start.StartParts.{StartParts}
use Rattle.gtd_core.specs.declared.duration.DurationParts.{DurationParts}
use Rattle.gtd_recur.specs.Begins.{begins_at, begins_on, month_and_year_fit}
use Rattle.gtd_recur.specs.Changes.{IsFirstFree, IsNextStart, IsStretchEnd, NoneStarts}
use Rattle.gtd_recur.specs.ClockSearch.{IsLastPassing, IsNextPassing}
use Rattle.gtd_recur.specs.Jumps.{IsFirstBegun, IsNextRun}
use Rattle.gtd_recur.specs.Membership.{InStretches}
use Rattle.gtd_recur.specs.Stepping.{AreClocks}
use Rattle.gtd_recur.specs.facts.MembershipLemmas.{from_computed}
use Rattle.gtd_recur.specs.facts.StartsLemmas.{later_by}
use Rattle.gtd_recur.specs.facts.WorkLemmas.{begins_on-fits}
use Rattle.gtd_recur.proofs.CoverLemmas.{begins-from, begins-parts}
use Rattle.gtd_recur.proofs.GivenLemmas.{day-mono}

-- ---- the clock

-- the start of a day after one that is followed by the last, or by others
pub clock-step : (test : ℕ → Bool) (first last step clock latest : ℕ) → AreClocks test first last step
    → IsLastPassing test clock (Some latest) → latest < last → IsNextPassing test (clock + 1) (Some (latest + step))
clock-step test first last step clock latest c l less =
    let e = c.apart in
    let end = c.end.0 in
    let some : 0 < step = elim (e.known) [ inl k ↦ omega (arith, k) | inr k ↦ omega (arith, k) ] in
    let on : test (latest + step) ≡ true = e.next latest last l.1 c.end.1 less (omega (arith, end)) in
    let past : ¬ (last < latest + step) = λ lt. both_ways _ (e.between latest last l.1 less lt) c.end.1 in
    let far : ¬ (latest + step ≤ clock) = λ le. both_ways _ (l.2 (latest + step) (omega (arith, some)) le) on in
    let low = l.0 in (
      omega (arith, far),
      omega (arith, past, end),
      on,
      λ j ge lt. e.between latest j l.1 (omega (arith, ge, low)) lt,
    )

-- ---- the second's own day

-- a second after another on its day is later on the clock
on-day : (s b : ℤ) → s <ℤ b → day_of_second b <ℤ (day_of_second s +ℤ pos 1) → (day_of_second b ≡ day_of_second s)
    × (second_of_day s + 1 ≤ second_of_day b)
on-day s b after before =
    let here = second-parts s in
    let there = second-parts b in
    within s b (day_of_second s) (day_of_second b) (second_of_day s) (second_of_day b) here.0 there.0 there.1 after before
  where
    within : (s b n m : ℤ) (i j : ℕ) → s ≡ pos 86400 *ℤ n +ℤ pos i → b ≡ pos 86400 *ℤ m +ℤ pos j → j < 86400 → s <ℤ b
        → m <ℤ (n +ℤ pos 1) → (m ≡ n) × (i + 1 ≤ j)
    within s b n m i j e f low after before =
        let same : m ≡ n = omega (arith, signed_arith) in (same, omega (arith, signed_arith, same))

pub none-on-day : (p : StartParts) (s : ℤ) → begins_on p (day_fields (day_of_second s)) ≡ false
    → NoneStarts p s (day_of_second s +ℤ pos 1)
none-on-day p s off = λ b begun after before.
    let on = on-day s b after before in both_ways _ off (rw (on.0) at (begins-parts p b begun).0)

pub none-at-clock : (p : StartParts) (s : ℤ) → IsNextPassing (begins_at p) (second_of_day s + 1) None
    → NoneStarts p s (day_of_second s +ℤ pos 1)
none-at-clock p s none = λ b begun after before.
    let on = on-day s b after before in
    let parts = second-parts b in both_ways _ (none (second_of_day b) on.1 parts.1) (begins-parts p b begun).1

-- the next start on the day
pub next-on-day : (p : StartParts) (s : ℤ) (k : ℕ) → begins_on p (day_fields (day_of_second s)) ≡ true
    → IsNextPassing (begins_at p) (second_of_day s + 1) (Some k) → IsNextStart p s (pos 86400 *ℤ day_of_second s +ℤ pos k)
next-on-day p s k on next =
    let parts = second-parts s in
    let is = second-only (pos 86400 *ℤ day_of_second s +ℤ pos k) (day_of_second s) k next.1 refl in
    record {
      later = after s (day_of_second s) (second_of_day s) k parts.0 next.0;
      begun = begins-from p (day_of_second s) k next.1 on next.2;
      none = λ c begun later before.
          let there = second-parts c in
          let to = day-mono c (pos 86400 *ℤ day_of_second s +ℤ pos k) (omega (arith, signed_arith, before)) in
          let here = on-day s c later (omega (arith, signed_arith, to, is.0)) in
          both_ways _ (next.3 (second_of_day c) here.1
          (early c (day_of_second c) (day_of_second s) (second_of_day c) k there.0 here.0 before)) (begins-parts p c begun).1;
    }
  where
    after : (s n : ℤ) (i k : ℕ) → s ≡ pos 86400 *ℤ n +ℤ pos i → i + 1 ≤ k → s <ℤ (pos 86400 *ℤ n +ℤ pos k)
    after s n i k e le = omega (arith, signed_arith)

    early : (c m n : ℤ) (j k : ℕ) → c ≡ pos 86400 *ℤ m +ℤ pos j → m ≡ n → c <ℤ (pos 86400 *ℤ n +ℤ pos k) → j < k
    early c m n j k e f lt = omega (arith, signed_arith)

-- ---- later days

-- on the days up to a run of days that are still to be searched, the start does not begin
pub record IsSearched (p : StartParts) (day end from until : ℤ) : Type 0 where
  pub low : day ≤ℤ from
  pub order : from ≤ℤ until
  pub within : until ≤ℤ end
  pub some : from <ℤ end → from <ℤ until
  pub none : (n : ℤ) → day ≤ℤ n → n <ℤ from → begins_on p (day_fields n) ≡ false

not-fit : (p : StartParts) (n : ℤ) → (IsTrue (month_and_year_fit p n) → ⊥) → begins_on p (day_fields n) ≡ false
not-fit p n never = false_from_ne_true (begins_on p (day_fields n)) (λ on. never (begins_on-fits p n on))

pub searched-first : (p : StartParts) (day end from until : ℤ)
    → IsNextRun (λ n. IsTrue (month_and_year_fit p n)) day end from until → IsSearched p day end from until
searched-first p day end from until run = record {
  low = run.low;
  order = run.order;
  within = run.within;
  some = run.some;
  none = λ n ge lt. not-fit p n (run.skipped n ge lt);
}

pub searched-on : (p : StartParts) (day end from until found next last : ℤ) → IsSearched p day end from until
    → IsFirstBegun p from until found → until ≤ℤ found
    → IsNextRun (λ n. IsTrue (month_and_year_fit p n)) until end next last → IsSearched p day end next last
searched-on p day end from until found next last i first past run =
    let a = i.low in let b = i.order in let c = run.low in
    record {
      low = omega (arith, signed_arith, a, b, c);
      order = run.order;
      within = run.within;
      some = run.some;
      none = λ n ge lt. by_lt_z n from (λ early. i.none n ge early)
          (λ late. by_lt_z n until (λ before. first.none n late (omega (arith, signed_arith, before, past)))
          (λ after. not-fit p n (run.skipped n after lt)));
    }

pub searched-to : (p : StartParts) (day end from until found : ℤ) → IsSearched p day end from until
    → IsFirstBegun p from until found → found <ℤ until → IsFirstBegun p day end found
searched-to p day end from until found i first lt =
    let a = i.low in let b = first.low in let c = first.high in let d = i.within in
    record {
      low = omega (arith, signed_arith, a, b);
      high = omega (arith, signed_arith, c, d);
      none = λ n ge less. by_lt_z n from (λ early. i.none n ge early) (λ late. first.none n late less);
      some = λ before. first.some lt;
    }

pub searched-end : (p : StartParts) (day end from until : ℤ) → IsSearched p day end from until → end ≤ℤ from
    → IsFirstBegun p day end end
searched-end p day end from until i past =
    let a = i.low in let b = i.order in let c = i.within in
    record {
      low = omega (arith, signed_arith, a, b, c);
      high = omega (arith, signed_arith);
      none = λ n ge lt. i.none n ge (omega (arith, signed_arith, lt, past));
      some = λ before. absurd (omega (arith, signed_arith, before));
    }

pub less-ahead : (end from next : ℤ) → from <ℤ next → next ≤ℤ end → unsigned_abs (end -ℤ next) < unsigned_abs (end -ℤ from)
less-ahead end from next lt le =
    let a = later_by from end (omega (arith, signed_arith, lt, le)) in
    let b = later_by next end le in
    closer end from next (unsigned_abs (end -ℤ next)) (unsigned_abs (end -ℤ from)) lt a b
  where
    closer : (end from next : ℤ) (j k : ℕ) → from <ℤ next → end ≡ from +ℤ pos k → end ≡ next +ℤ pos j → j < k
    closer end from next j k lt a b = omega (arith, signed_arith)

-- no start before a day, or the first one
pub none-later : (p : StartParts) (s end : ℤ) → NoneStarts p s (day_of_second s +ℤ pos 1)
    → IsFirstBegun p (day_of_second s +ℤ pos 1) end end → NoneStarts p s end
none-later p s end today first = λ b begun after before.
    by_lt_z (day_of_second b) (day_of_second s +ℤ pos 1) (λ lt. today b begun after lt)
    (λ ge. both_ways _ (first.none (day_of_second b) ge before) (begins-parts p b begun).0)

pub next-later : (p : StartParts) (s end n : ℤ) (k : ℕ) → NoneStarts p s (day_of_second s +ℤ pos 1)
    → IsFirstBegun p (day_of_second s +ℤ pos 1) end n → n <ℤ end → IsNextPassing (begins_at p) 0 (Some k)
    → IsNextStart p s (pos 86400 *ℤ n +ℤ pos k)
next-later p s end n k today first lt next =
    let parts = second-parts s in
    let low = first.low in
    let is = second-only (pos 86400 *ℤ n +ℤ pos k) n k next.1 refl in
    record {
      later = after s (day_of_second s) n (second_of_day s) k parts.0 parts.1 low;
      begun = begins-from p n k next.1 (first.some lt) next.2;
      none = λ c begun later before.
          let there = second-parts c in
          let to = day-mono c (pos 86400 *ℤ n +ℤ pos k) (omega (arith, signed_arith, before)) in
          by_lt_z (day_of_second c) (day_of_second s +ℤ pos 1) (λ near. today c begun later near)
          (λ far. by_lt_z (day_of_second c) n
          (λ less. both_ways _ (first.none (day_of_second c) far less) (begins-parts p c begun).0)
          (λ more. both_ways _ (next.3 (second_of_day c) (omega arith)
          (early c (day_of_second c) n (second_of_day c) k there.0 (omega (arith, signed_arith, more, to, is.0)) before))
          (begins-parts p c begun).1));
    }
  where
    after : (s m n : ℤ) (i k : ℕ) → s ≡ pos 86400 *ℤ m +ℤ pos i → i < 86400 → (m +ℤ pos 1) ≤ℤ n → s <ℤ (pos 86400 *ℤ n +ℤ pos k)
    after s m n i k e low le = omega (arith, signed_arith)

    early : (c m n : ℤ) (j k : ℕ) → c ≡ pos 86400 *ℤ m +ℤ pos j → m ≡ n → c <ℤ (pos 86400 *ℤ n +ℤ pos k) → j < k
    early c m n j k e f lt = omega (arith, signed_arith)

-- ---- stretches without a gap

-- each second so far is in the set
pub record IsHeldSoFar (set : ℤ → Type 0) (s until at : ℤ) : Type 0 where
  pub low : s ≤ℤ at
  pub high : at ≤ℤ until
  pub held : (t : ℤ) → s ≤ℤ t → t <ℤ at → set t

pub held-first : (set : ℤ → Type 0) (s until : ℤ) → s ≤ℤ until → IsHeldSoFar set s until s
held-first set s until order = record {
  low = omega (arith, signed_arith);
  high = order;
  held = λ t ge lt. absurd (omega (arith, signed_arith, ge, lt));
}

pub held-on : (p : StartParts) (q : DurationParts) (s until at e r : ℤ) → IsHeldSoFar (InStretches p q) s until at
    → IsStretchEnd p q at e → at <ℤ until → (r ≤ℤ e) × (r ≤ℤ until) → ((r ≡ e) ⊎ (r ≡ until))
    → (at <ℤ r) × IsHeldSoFar (InStretches p q) s until r
held-on p q s until at e r i h before most either =
    let low = i.low in
    let is = h.2 in
    let from = h.1.1 in
    let to = h.1.2 in
    let end = most.0 in
    let up : at <ℤ r = elim either [
      | inl a ↦ omega (arith, signed_arith, a, is, to)
      | inr a ↦ omega (arith, signed_arith, a, before)
    ] in (
      up,
      record {
        low = omega (arith, signed_arith, low, up);
        high = most.1;
        held = λ t ge lt. by_lt_z t at (λ less. i.held t ge less)
            (λ more. from_computed p q t (
              h.0,
              (h.1.0, omega (arith, signed_arith, from, more), omega (arith, signed_arith, lt, end, is)),
            ));
      },
    )

pub free-at : (set : ℤ → Type 0) (s until at : ℤ) → IsHeldSoFar set s until at → (set at → ⊥) → IsFirstFree set s until at
free-at set s until at i never = record { low = i.low; high = i.high; held = i.held; free = λ lt. never }

pub free-end : (set : ℤ → Type 0) (s until at : ℤ) → IsHeldSoFar set s until at → until ≤ℤ at → IsFirstFree set s until at
free-end set s until at i past = record {
  low = i.low;
  high = i.high;
  held = i.held;
  free = λ lt. absurd (omega (arith, signed_arith, lt, past));
}
