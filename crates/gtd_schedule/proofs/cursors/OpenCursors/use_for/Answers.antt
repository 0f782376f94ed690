-- A kept cursor of an element that is closed alike begins again as one of this element.
use Rattle.std.proofs.Common.{rules}
use Rattle.gtd_schedule.proofs.CursorFacts.{of_within}
use Rattle.gtd_schedule.proofs.cursors.OpenCursors.use_for.Goals as goal

pub begin_again-requires : goal.begin_again-requires
begin_again-requires c = record {
  within = of_within c.args.text.found.now c.args.text.lines.now.schedule c.args.at c.args.self.now.list.items
      c.in-Some.number (c.is_shared.ensures.of (search rules));
}

pub returns-then-is_shared-clause-right : goal.returns-then-is_shared-clause-right
returns-then-is_shared-clause-right c = rw (c.begin_again.ensures.wholes) c.requires.right

pub returns-then-is_shared-clause-of : goal.returns-then-is_shared-clause-of
returns-then-is_shared-clause-of c =
    rw (c.begin_again.ensures.wholes, c.begin_again.ensures.used) (c.is_shared.ensures.of (search rules))
