-- The months end where the next month begins, which after December is January of the next year.
use Rattle.std.proofs.Common.{rules, arith, ◌≡◌, pos, FitsSigned, to_z, of_z, to_z-of_z, w64, ◌+ℤ◌}
use Rattle.gtd_calendar.specs.facts.Signed.{signed_arith}
use Rattle.gtd_recur.proofs.JumpLemmas.{months-then, months-else}
use Rattle.gtd_recur.proofs.jump.months.Goals as goal

pub returns-then-high-lt12 : goal.returns-then-high-lt12
returns-then-high-lt12 c =
    let year : to_z w64 (of_z w64 c.args.year) ≡ c.args.year = to_z-of_z c.ranges.year in
    let fits_from : FitsSigned w64 c.first_of-from.result = search rules in
    let fits_until : FitsSigned w64 c.first_of.result = search rules in
    let from : to_z w64 (of_z w64 c.first_of-from.result) ≡ c.first_of-from.result = to_z-of_z fits_from in
    let until : to_z w64 (of_z w64 c.first_of.result) ≡ c.first_of.result = to_z-of_z fits_until in
    record {
      months = rw (from, until) (months-then c.args.year c.args.low c.args.high c.first_of-from.result c.first_of.result
          c.requires.low_in c.requires.high_in c.if-high-lt12.true (rw year at c.first_of-from.ensures.value)
          (rw year at c.first_of.ensures.value));
    }

pub returns-else-high-lt12 : goal.returns-else-high-lt12
returns-else-high-lt12 c =
    let year : to_z w64 (of_z w64 c.args.year) ≡ c.args.year = to_z-of_z c.ranges.year in
    let next : to_z w64 (of_z w64 (c.args.year +ℤ pos 1)) ≡ c.args.year +ℤ pos 1 =
    omega (arith, signed_arith, c.requires.year_in.0, c.requires.year_in.1) in
    let fits_from : FitsSigned w64 c.first_of-from.result = search rules in
    let fits_until : FitsSigned w64 c.first_of-else-high-lt12.result = search rules in
    let from : to_z w64 (of_z w64 c.first_of-from.result) ≡ c.first_of-from.result = to_z-of_z fits_from in
    let until : to_z w64 (of_z w64 c.first_of-else-high-lt12.result) ≡ c.first_of-else-high-lt12.result = to_z-of_z fits_until in
    record {
      months = rw (from, until) (months-else c.args.year c.args.low c.args.high c.first_of-from.result
          c.first_of-else-high-lt12.result c.requires.low_in c.requires.high_in c.if-high-lt12.false
          (rw year at c.first_of-from.ensures.value) (rw (year, next) at c.first_of-else-high-lt12.ensures.value));
    }
