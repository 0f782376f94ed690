-- A second of the domain alone in the four years near its first span is one in the whole horizon too.
use Rattle.gtd_core.specs.Whole.{whole}
use Rattle.gtd_eval.specs.Membership.{InDomain}
use Rattle.std.proofs.Common.{arith}
use Rattle.std.proofs.lemmas.Int.{ints}
use Rattle.gtd_difference.specs.Difference.{first_begin, last_end}
use Rattle.gtd_difference.proofs.Inclusion.{narrowed, not-both}
use Rattle.gtd_difference.proofs.within.is_alone_near.Goals as goal

pub returns : goal.returns
returns c =
    let days = c.days_between-near.result in
    let early = days.not_early in
    let late = days.not_late in
    record {
      alone = λ denied all.
          not-both c.in_ok-within.within denied
          (c.in_ok-within.ensures.within.1
          (narrowed (InDomain c.args.domain.now) (InDomain c.args.other.now) first_begin (whole days).from (whole days).until
          last_end (omega (arith, ints, early)) (omega (arith, ints, late)) all));
    }
