-- The earlier of the first second of each alone is the first at which the two differ.
use Rattle.gtd_core.specs.Whole.{whole}
use Rattle.gtd_eval.specs.Membership.{InDomain}
use Rattle.gtd_difference.proofs.Alone.{apart-by}
use Rattle.gtd_difference.proofs.comparison.first_apart.Goals as goal

pub returns : goal.returns
returns c = record {
  apart = rw c.earlier.ensures.value
      (apart-by (InDomain c.args.first.now) (InDomain c.args.second.now) c.args.from.0 (whole c.args.days).until
      c.in_ok-of_first.of_first c.in_ok-of_second.of_second c.in_ok-of_first.ensures.alone c.in_ok-of_second.ensures.alone);
}
