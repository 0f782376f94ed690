-- If the open day has no start left and no day is left to look at, all is handed out, and the count is the whole work.
use Rattle.std.proofs.Common.{◌≡◌, ◌+◌, ◌<◌, ◌<ℤ◌, ◌≤ℤ◌, ◌-ℤ◌, ℤ, arith, ◌∙◌, sym, refl, rules, length, unsigned_abs}
use Rattle.std.specs.Prelude.{count_by}
use Rattle.std.proofs.lemmas.Int.{ints}
use Rattle.gtd_calendar.specs.facts.Signed.{signed_arith}
use Rattle.gtd_core.specs.Parts.{start_parts}
use Rattle.gtd_core.specs.Whole.{to_day}
use Rattle.gtd_recur.specs.Begins.{month_and_year_fit}
use Rattle.gtd_recur.specs.Walking.{walk_all, walk_days, walk_ticks}
use Rattle.gtd_recur.proofs.ExactLemmas.{exact-end}
use Rattle.gtd_recur.specs.facts.StartsLemmas.{ended-left}
use Rattle.gtd_recur.proofs.walk.Walk.next.Goals as goal

pub returns-then-self-to_day : goal.returns-then-self-to_day
returns-then-self-to_day c =
    let s = c.next_of_day.new.self in
    let p = start_parts s.basic.start in
    let w = s.in_window in
    let end_in = w.end_in in
    let none = c.in_default.ensures.none refl in
    let past : to_day s.horizon ≤ℤ s.next_day = omega (
      arith,
      signed_arith,
      c.if-self-to_day.true,
      c.to_day.ensures.value,
      w.first_in,
      w.day_in,
      w.next_in,
      w.end_in,
      w.last_in,
    ) in
    let last : s.next_day ≡ to_day s.horizon = omega (arith, signed_arith, past, end_in) in
    let ended = ended-left p s.day s.next_day (to_day s.horizon) s.clock past end_in none.1 in
    let same = c.in_default.ensures.same in
    let before = c.loop-start.invariant.same in
    let all : walk_ticks s ≡ count_by (month_and_year_fit p) (walk_days s) + length (walk_all s) =
    exact-end p s.first s.seen s.day s.next_day (to_day s.horizon) s.looked s.handed last s.counted (rw ended at s.left) in
    record {
      takes = (c.loop-start.invariant.left ∙ sym none.0 ∙ ended, ended);
      same = search rules;
      at_most = tt;
      at_least = tt;
      exact = tt;
      begun = tt;
      ended = rw (← before.basic, ← before.horizon, ← before.first, ← same.basic, ← same.horizon, ← same.first) all;
      rises = tt;
      grows = search rules;
      calendar = tt;
      «open» = tt;
    }

pub returns-in-Some-clause-at_most : goal.returns-in-Some-clause-at_most
returns-in-Some-clause-at_most c = λ t le last.
    let same = c.loop-start.invariant.same in
    rw (← same.basic, ← same.horizon, ← same.first) (c.in-Some.ensures.at_most t le (rw same.seen last))

pub loop-start-smaller : goal.loop-start-smaller
loop-start-smaller c =
    let l = c.loop-start.self in
    let t = c.look.new.self in
    let horizon : t.horizon ≡ l.horizon = c.look.ensures.same.horizon ∙ c.in_default.ensures.same.horizon in
    let before = c.in_default.ensures.next_day in
    let later = c.look.ensures.later in
    let within : t.next_day ≤ℤ to_day l.horizon = rw horizon at t.in_window.end_in in
    let less : unsigned_abs (to_day t.horizon -ℤ t.next_day) < unsigned_abs (to_day l.horizon -ℤ l.next_day) =
    rw horizon (closer l.next_day t.next_day (to_day l.horizon) (omega (arith, signed_arith, before, later)) within) in
    less
  where
    closer : (a b e : ℤ) → a <ℤ b → b ≤ℤ e → unsigned_abs (e -ℤ b) < unsigned_abs (e -ℤ a)
    closer a b e lt le = grind (arith, ints)
