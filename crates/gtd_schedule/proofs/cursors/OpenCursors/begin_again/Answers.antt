-- The cursor that begins again has the same whole list, which is all to come.
use Rattle.std.proofs.Common.{◌∙◌, ap, sym}
use Rattle.std.specs.Prelude.{List}
use Rattle.gtd_core.specs.Seconds.{Interval}
use Rattle.gtd_schedule.proofs.CursorFacts.{started_set, wholes_set}
use Rattle.gtd_schedule.specs.OpenCursors.{WholeList}
use Rattle.gtd_schedule.specs.declared.cursors.OpenCursor.{OpenCursor}
use Rattle.gtd_schedule.proofs.cursors.OpenCursors.begin_again.Goals as goal

abbrev whole_at : OpenCursor → List Interval → WholeList
whole_at x spans = record { at = x.at; spans = spans }

pub returns-clause-wholes : goal.returns-clause-wholes
returns-clause-wholes c =
    let x = c.index_mut-known.result.now in
    wholes_set c.args.self.now.list.items c.args.self.now.used x (record { at = x.at; cursor = c.begin_again.new.self })
    c.requires.within c.index_mut-known.ensures.value (ap (whole_at x) c.begin_again.ensures.whole)

pub returns-clause-start : goal.returns-clause-start
returns-clause-start c =
    let x = c.index_mut-known.result.now in
    started_set c.args.self.now.list.items c.args.self.now.used (record { at = x.at; cursor = c.begin_again.new.self })
    c.requires.within (c.begin_again.ensures.list ∙ sym c.begin_again.ensures.whole)
