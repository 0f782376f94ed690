-- The spans open by the old file without those open by the new one are those in which it was closed.
use Rattle.std.proofs.Common.{sym, subst, List}
use Rattle.gtd_core.specs.Seconds.{Interval}
use Rattle.gtd_eval.specs.Cursors.{cursor_list}
use Rattle.gtd_eval.specs.Membership.{IsNormalOver}
use Rattle.gtd_changes.specs.Changes.{WasClosed}
use Rattle.gtd_changes.specs.facts.ChangesFacts.{closed_of_open}
use Rattle.gtd_changes.proofs.place.Place.closed.Goals as goal

pub returns : goal.returns
returns c =
    let p = c.args.self.now in
    record {
      closed = subst (λ (xs : List Interval). IsNormalOver (WasClosed p.old.now p.new.now p.at.element p.at.direction p.vehicle)
          p.horizon xs) (sym c.new.ensures.list)
          (closed_of_open p.old.now p.new.now p.at.element p.at.direction p.vehicle p.horizon
          (cursor_list c.in_ok-is_open.is_open) (cursor_list c.in_ok-was_open.was_open) c.in_ok-is_open.ensures.seconds
          c.in_ok-was_open.ensures.seconds);
    }
