-- A second apart in the days searched is the first one; with none in a whole period the domains agree for all time.
use Rattle.std.proofs.Common.{◌≡◌, Some, None, arith}
use Rattle.std.proofs.lemmas.Int.{ints}
use Rattle.gtd_core.specs.Whole.{whole}
use Rattle.gtd_eval.specs.Membership.{InDomain}
use Rattle.gtd_difference.specs.Difference.{last_end}
use Rattle.gtd_difference.proofs.Ever.{agree-ever}
use Rattle.gtd_difference.proofs.Parts.{apart-early, found-none, found-some}
use Rattle.gtd_difference.proofs.comparison.compare_ever.Goals as goal

pub returns-in-Some : goal.returns-in-Some
returns-in-Some c =
    let days = c.days_between-days.result in
    let first = InDomain c.args.first.now in
    let second = InDomain c.args.second.now in
    let is = c.in-Some.is in
    let found : c.in_ok-apart.field-0 ≡ Some c.in-Some.apart = cc in
    record {
      compared = apart-early first second c.args.from.0 (whole days).until last_end c.in-Some.apart
          (omega (arith, ints, days.not_late))
          (found-some first second c.args.from.0 (whole days).until c.in_ok-apart.field-0 c.in-Some.apart found
          c.in_ok-apart.ensures.apart);
    }

pub returns-in-None : goal.returns-in-None
returns-in-None c =
    let days = c.days_between-days.result in
    let first = InDomain c.args.first.now in
    let second = InDomain c.args.second.now in
    let is = c.in-None.is in
    let found : c.in_ok-apart.field-0 ≡ None = cc in
    record {
      compared = (
        c.requires.no_year,
        agree-ever c.args.first.now c.args.second.now c.args.from.0 (whole days).until c.days_to_repeat.result c.requires.no_year
            (omega (arith, ints, c.days_between-days.ensures.last, c.day-day.ensures.on_day)) c.days_to_repeat.ensures.days
            (found-none first second c.args.from.0 (whole days).until c.in_ok-apart.field-0 found c.in_ok-apart.ensures.apart),
      );
    }
