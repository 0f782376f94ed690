use Rattle.std.proofs.Common.{◌≤ℤ◌, ◌<ℤ◌, inl, inr, refl, arith, rules, pos, ◌-ℤ◌}
use Rattle.gtd_calendar.specs.facts.Signed.{signed_arith}
use Rattle.gtd_recur.proofs.SmallLemmas.{walk-day}
use Rattle.gtd_recur.proofs.walk.Walk.look.Goals as goal

pub open-requires : goal.open-requires
open-requires c =
    let s = c.args.self.now in
    let h = c.next_found-found.ensures.found in
    let more = s.fitting.some c.requires.more in let end = s.fitting.within in let high = h.high in
    let until = walk-day s s.fits_until (omega (arith, signed_arith, more)) end in
    let found = walk-day s c.next_found-found.result h.low (omega (arith, signed_arith, high, end)) in
    let lt : c.next_found-found.result <ℤ s.fits_until = omega (arith, signed_arith, c.if-found-self.true, found, until) in
    rw (found.is) (record { done = search rules; low = h.low; high = lt; none = h.none; opened = inl (h.some lt, refl) })

-- no day was found, and the last one that is not excluded is opened
pub open-requires-else-found-self : goal.open-requires-else-found-self
open-requires-else-found-self c =
    let s = c.args.self.now in
    let h = c.next_found-found.ensures.found in
    let more = s.fitting.some c.requires.more in let end = s.fitting.within in let high = h.high in
    let until = walk-day s s.fits_until (omega (arith, signed_arith, more)) end in
    let found = walk-day s c.next_found-found.result h.low (omega (arith, signed_arith, high, end)) in
    let past : s.fits_until ≤ℤ c.next_found-found.result = omega (arith, signed_arith, c.if-found-self.false, found, until) in
    let low : s.next_day ≤ℤ (c.next_found-found.result -ℤ pos 1) = omega (arith, signed_arith, past, more) in
    rw (found.is, found.before) (record {
      done = search rules;
      low = low;
      high = omega (arith, signed_arith, high);
      none = λ n ge lt. h.none n ge (omega (arith, signed_arith, lt));
      opened = inr (h.none (c.next_found-found.result -ℤ pos 1) low (omega (arith, signed_arith)), refl);
    })
