-- The part of the days from the given one on and before the end; it is empty and at the end if the days begin there.
use Rattle.std.proofs.Common.{rules, arith, ◌≡◌, ◌<ℤ◌, FitsSigned, to_z, of_z, to_z-of_z, w64}
use Rattle.gtd_calendar.specs.facts.Signed.{signed_arith}
use Rattle.gtd_recur.proofs.JumpLemmas.{clipped}
use Rattle.gtd_recur.proofs.jump.clip.Goals as goal

pub returns : goal.returns
returns c =
    let fits_from : FitsSigned w64 c.later-from.result = search rules in
    let fits_until : FitsSigned w64 c.earlier.result = search rules in
    let from : to_z w64 (of_z w64 c.later-from.result) ≡ c.later-from.result = to_z-of_z fits_from in
    let until : to_z w64 (of_z w64 c.earlier.result) ≡ c.earlier.result = to_z-of_z fits_until in
    let fits_first : FitsSigned w64 c.args.days.from = search rules in
    let fits_last : FitsSigned w64 c.args.days.until = search rules in
    let first : to_z w64 (of_z w64 c.args.days.from) ≡ c.args.days.from = to_z-of_z fits_first in
    let last : to_z w64 (of_z w64 c.args.days.until) ≡ c.args.days.until = to_z-of_z fits_last in
    let day : to_z w64 (of_z w64 c.args.day) ≡ c.args.day = to_z-of_z c.ranges.day in
    let end : to_z w64 (of_z w64 c.args.end) ≡ c.args.end = to_z-of_z c.ranges.end in
    let low : c.later-from.result <ℤ c.args.end = omega (arith, signed_arith, c.if-from-end.false) in
    record {
      clipped = rw (from, until) (clipped c.args.days.from c.args.days.until c.args.day c.args.end c.later-from.result
          c.earlier.result c.requires.some c.requires.open (rw (first, day) at c.later-from.ensures) low
          (rw (last, end) at c.earlier.ensures));
    }
