-- What the domain has less what the other has is held by the difference of their cursors within the days.
use Rattle.gtd_core.specs.Parts.{domain_tree}
use Rattle.gtd_core.specs.Whole.{whole}
use Rattle.gtd_eval.specs.Cursors.{cursor_list}
use Rattle.gtd_eval.specs.Membership.{InDomain}
use Rattle.gtd_eval.specs.facts.TreeDecisions.{in_tree}
use Rattle.gtd_difference.proofs.Alone.{alone-by}
use Rattle.gtd_difference.proofs.first.first_by_spans.Goals as goal

pub returns : goal.returns
returns c = record {
  alone = alone-by (InDomain c.args.domain.now) (InDomain c.args.other.now) (in_tree (domain_tree c.args.other.now))
      (whole c.args.days).from (whole c.args.days).until c.args.from.0 (cursor_list c.in_ok-held.held)
      (cursor_list c.in_ok-taken.taken) _ c.in_ok-held.ensures.normal c.in_ok-taken.ensures.normal c.new-alone.ensures.seconds
      c.requires.begun c.first_held.result c.first_held.ensures.first;
}
