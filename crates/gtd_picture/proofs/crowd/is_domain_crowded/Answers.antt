-- The spans counted are those of the domain's seconds in the year, which are its stretches there.
use Rattle.gtd_eval.specs.Cursors.{cursor_list}
use Rattle.gtd_eval.specs.Membership.{InDomain}
use Rattle.gtd_picture.proofs.CrowdFacts.{crowded_answer}
use Rattle.gtd_picture.proofs.crowd.is_domain_crowded.Goals as goal

pub returns : goal.returns
returns c = record {
  crowded = crowded_answer (InDomain c.args.domain.now) c.days_of_year.result (cursor_list c.in_ok-seconds.seconds) c.args.year
      c.in_ok-seconds.ensures.normal c.days_of_year.ensures.first c.days_of_year.ensures.next c.has_too_many.result
      c.has_too_many.ensures.many;
}
