-- The part of the days before the end and from the lowest on; it is empty and at the lowest if the days end there.
use Rattle.std.proofs.Common.{rules, arith, ◌≡◌, ◌≤ℤ◌, FitsSigned, to_z, of_z, to_z-of_z, w64}
use Rattle.gtd_calendar.specs.facts.Signed.{signed_arith}
use Rattle.gtd_recur.proofs.BackLemmas.{clipped-words, clipped-none}
use Rattle.gtd_recur.proofs.jump.clip_back.Goals as goal

pub returns-then-until-low : goal.returns-then-until-low
returns-then-until-low c =
    let fits_until : FitsSigned w64 c.earlier-until.result = search rules in
    let fits_last : FitsSigned w64 c.args.days.until = search rules in
    let last : to_z w64 (of_z w64 c.args.days.until) ≡ c.args.days.until = to_z-of_z fits_last in
    let low : to_z w64 (of_z w64 c.args.low) ≡ c.args.low = to_z-of_z c.ranges.low in
    let end : to_z w64 (of_z w64 c.args.end) ≡ c.args.end = to_z-of_z c.ranges.end in
    let far : c.earlier-until.result ≤ℤ c.args.low = omega (arith, signed_arith, c.if-until-low.true) in
    record {
      clipped = rw low (clipped-none c.args.days.from c.args.days.until c.args.low c.args.end c.earlier-until.result
          c.requires.order (rw (last, end) at c.earlier-until.ensures) far);
    }

pub returns : goal.returns
returns c = record {
  clipped = clipped-words c.args.days.from c.args.days.until c.args.low c.args.end c.later.result c.earlier-until.result
      (search rules) (search rules) c.ranges.low c.ranges.end (search rules) (search rules) c.requires.some c.requires.open
      c.earlier-until.ensures (omega (arith, signed_arith, c.if-until-low.false)) c.later.ensures;
}
