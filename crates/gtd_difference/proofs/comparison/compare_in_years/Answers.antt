-- The days up to the middle and those after it are searched in turn, and together they reach up to 2700.
use Rattle.std.proofs.Common.{◌≡◌, Some, None, arith}
use Rattle.std.proofs.lemmas.Int.{ints}
use Rattle.gtd_core.specs.Whole.{whole}
use Rattle.gtd_eval.specs.Membership.{InDomain}
use Rattle.gtd_difference.specs.Difference.{last_end}
use Rattle.gtd_difference.proofs.Parts.{agree-on, apart-early, apart-late, found-none, found-some}
use Rattle.gtd_difference.proofs.comparison.compare_in_years.Goals as goal

pub returns-in-Some : goal.returns-in-Some
returns-in-Some c =
    let early = c.days_between-early.result in
    let first = InDomain c.args.first.now in
    let second = InDomain c.args.second.now in
    let is = c.in-Some.is in
    let found : c.in_ok-apart.field-0 ≡ Some c.in-Some.apart = cc in
    record {
      compared = apart-early first second c.args.from.0 (whole early).until last_end c.in-Some.apart
          (omega (arith, ints, early.not_late))
          (found-some first second c.args.from.0 (whole early).until c.in_ok-apart.field-0 c.in-Some.apart found
          c.in_ok-apart.ensures.apart);
    }

pub returns-in-Some-2 : goal.returns-in-Some-2
returns-in-Some-2 c =
    let early = c.days_between-early.result in
    let late = c.days_between-late.result in
    let first = InDomain c.args.first.now in
    let second = InDomain c.args.second.now in
    let is = c.in-None.is in
    let none : c.in_ok-apart.field-0 ≡ None = cc in
    let is-2 = c.in-Some-2.is in
    let found : c.in_ok-apart-in-None.field-0 ≡ Some c.in-Some-2.apart = cc in
    record {
      compared = apart-late first second c.args.from.0 (whole early).until c.from.result.0 (whole late).until last_end
          c.in-Some-2.apart
          (omega (arith, ints, c.from.ensures.value, c.days_between-late.ensures.first, c.day-day.ensures.on_day))
          (omega (arith, ints, c.from.ensures.value, c.days_between-late.ensures.first, c.days_between-early.ensures.last))
          (omega (arith, ints, late.not_late))
          (found-none first second c.args.from.0 (whole early).until c.in_ok-apart.field-0 none c.in_ok-apart.ensures.apart)
          (found-some first second c.from.result.0 (whole late).until c.in_ok-apart-in-None.field-0 c.in-Some-2.apart found
          c.in_ok-apart-in-None.ensures.apart);
    }

pub returns-in-None-2 : goal.returns-in-None-2
returns-in-None-2 c =
    let early = c.days_between-early.result in
    let late = c.days_between-late.result in
    let first = InDomain c.args.first.now in
    let second = InDomain c.args.second.now in
    let is = c.in-None.is in
    let none : c.in_ok-apart.field-0 ≡ None = cc in
    let is-2 = c.in-None-2.is in
    let found : c.in_ok-apart-in-None.field-0 ≡ None = cc in
    record {
      compared = (
        c.requires.year,
        agree-on first second c.args.from.0 (whole early).until c.from.result.0 (whole late).until last_end
            (omega (arith, ints, c.from.ensures.value, c.days_between-late.ensures.first, c.days_between-early.ensures.last))
            (omega (arith, ints, c.days_between-late.ensures.last))
            (found-none first second c.args.from.0 (whole early).until c.in_ok-apart.field-0 none c.in_ok-apart.ensures.apart)
            (found-none first second c.from.result.0 (whole late).until c.in_ok-apart-in-None.field-0 found
            c.in_ok-apart-in-None.ensures.apart),
      );
    }
