-- An element that is closed alike in both directions has one cursor for both.
use Rattle.std.proofs.Common.{rules}
use Rattle.std.specs.Prelude.{OnOk, Result, Ok, Err}
use Rattle.gtd_report.specs.declared.output.Stop.{Stop}
use Rattle.gtd_schedule.proofs.CursorFacts.{of_too, of_within}
use Rattle.gtd_schedule.specs.OpenCursors.{wholes}
use Rattle.gtd_schedule.proofs.text.put_negative.Goals as goal

on_ok : (P : Type 0) (r : Result (Unit {0}) Stop) → P → OnOk r P
on_ok P (Ok x) p = p
on_ok P (Err x) p = tt

pub begin_again-requires : goal.begin_again-requires
begin_again-requires g c = record {
  within = of_within c.args.text.found.now c.args.text.lines.now.schedule c.args.asked.positive.at
      c.args.cursors.now.list.items c.args.cursors.now.used
      (c.requires.of (c.are_alike.ensures.by_domains (search rules)));
}

pub put_from_used-requires-clause-of : goal.put_from_used-requires-clause-of
put_from_used-requires-clause-of g c =
    let before = c.args.cursors.now in
    rw (c.begin_again.ensures.wholes, c.begin_again.ensures.used)
    (of_too c.args.text.found.now c.args.text.lines.now.schedule c.args.asked.positive.at c.args.asked.negative.at
    (wholes before) before.used (c.are_alike.ensures.alike (search rules))
    (c.requires.of (c.are_alike.ensures.by_domains (search rules))))

pub returns-then-are_alike-clause-right : goal.returns-then-are_alike-clause-right
returns-then-are_alike-clause-right g c =
    on_ok _ c.put_from_used.result
    (rw (c.put_from_used.ensures.wholes, c.begin_again.ensures.wholes) c.requires.right)
