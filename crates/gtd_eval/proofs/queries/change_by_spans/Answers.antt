-- The next change in the list of spans is that of the domain, whose seconds in the horizon the list has.
use Rattle.gtd_core.specs.Whole.{whole}
use Rattle.gtd_eval.specs.Cursors.{cursor_list}
use Rattle.gtd_eval.specs.Membership.{InDomain}
use Rattle.gtd_eval.specs.facts.Repeats.{changes-in}
use Rattle.gtd_eval.proofs.queries.change_by_spans.Goals as goal

pub returns : goal.returns
returns c = record {
  change = changes-in (InDomain c.args.domain.now) (whole c.args.horizon).from (whole c.args.horizon).until
      c.args.second.0 (cursor_list c.in_ok-cursor.cursor) c.in_ok-cursor.ensures.normal c.requires.inside.0
      c.next_change.result (rw (← c.until.ensures.value) c.next_change.ensures.change);
}
