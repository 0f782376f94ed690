-- A first span that was opened, or one that was closed, holds a second at which the two files differ.
use Rattle.std.proofs.Common.{◌∙◌, sym}
use Rattle.gtd_changes.proofs.SummaryFacts.{told_by_closed, told_by_opened}
use Rattle.gtd_changes.proofs.summary.differs.Goals as goal

pub returns-then-is_some : goal.returns-then-is_some
returns-then-is_some c =
    let p = c.args.place.now in
    record {
      differs = told_by_opened p.old.now p.new.now p.vehicle p.horizon p.at.element p.at.direction _ _ c.next.result
          c.next.ensures.takes (sym c.is_some.ensures ∙ c.if-is_some.true) c.in_ok-opened.ensures.opened;
    }

pub returns : goal.returns
returns c =
    let p = c.args.place.now in
    record {
      differs = told_by_closed p.old.now p.new.now p.vehicle p.horizon p.at.element p.at.direction _ _ _ _ c.next.result
          c.next-2.result c.is_some-2.result c.next.ensures.takes (sym c.is_some.ensures ∙ c.if-is_some.false)
          c.next-2.ensures.takes c.is_some-2.ensures c.in_ok-opened.ensures.opened c.in_ok-closed.ensures.closed;
    }
