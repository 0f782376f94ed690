-- The cursor in use hands out the seconds at which the element is open, and its whole list stays.
use Rattle.std.proofs.Common.{ap, arith, List}
use Rattle.gtd_core.specs.Seconds.{Interval}
use Rattle.gtd_schedule.proofs.CursorFacts.{of_within, seconds_of, wholes_set}
use Rattle.gtd_schedule.specs.OpenCursors.{WholeList}
use Rattle.gtd_schedule.specs.declared.cursors.OpenCursor.{OpenCursor}
use Rattle.gtd_schedule.proofs.text.put_from_used.Goals as goal

abbrev whole_at : OpenCursor → List Interval → WholeList
whole_at x spans = record { at = x.at; spans = spans }

pub index_mut-known-requires : goal.index_mut-known-requires
index_mut-known-requires g c =
    let within = of_within c.args.text.found.now c.args.text.lines.now.schedule c.args.at c.args.cursors.now.list.items
    c.args.cursors.now.used c.requires.of in
    omega (arith, within)

pub put_direction_spans-requires-clause-seconds : goal.put_direction_spans-requires-clause-seconds
put_direction_spans-requires-clause-seconds g c =
    seconds_of c.args.text.found.now c.args.text.lines.now.schedule c.args.at c.args.cursors.now.list.items
    c.args.cursors.now.used c.index_mut-known.result.now c.index_mut-known.ensures.value c.requires.of c.requires.start

pub returns-clause-wholes : goal.returns-clause-wholes
returns-clause-wholes g c =
    let x = c.index_mut-known.result.now in
    let items = c.args.cursors.now.list.items in
    let used = c.args.cursors.now.used in
    wholes_set items used x (record { at = x.at; cursor = c.put_direction_spans.new.spans })
    (of_within c.args.text.found.now c.args.text.lines.now.schedule c.args.at items used c.requires.of)
    c.index_mut-known.ensures.value (ap (whole_at x) c.put_direction_spans.ensures.whole)
