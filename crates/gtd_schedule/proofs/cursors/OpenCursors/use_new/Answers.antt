-- The new cursor is at its start, and its whole list is that of the element's open seconds.
use Rattle.std.proofs.Common.{subst, List}
use Rattle.gtd_core.specs.Seconds.{Interval}
use Rattle.gtd_schedule.proofs.CursorFacts.{of_stored, right_stored, started_stored}
use Rattle.gtd_schedule.specs.OpenCursors.{AreOpenSeconds}
use Rattle.gtd_schedule.specs.declared.cursors.OpenCursor.{OpenCursor}
use Rattle.gtd_schedule.proofs.cursors.OpenCursors.use_new.Goals as goal

pub returns-then-is_kept-2-clause-right : goal.returns-then-is_kept-2-clause-right
returns-then-is_kept-2-clause-right c =
    let found = c.args.text.found.now in
    let schedule = c.args.text.lines.now.schedule in
    let opened : OpenCursor = record { at = c.args.at; cursor = c.in_ok-cursor.cursor } in
    let seconds = c.in_ok-cursor.ensures in
    right_stored found schedule c.args.self.now.list.items opened c.store.new.self.used c.store.new.self.list.items
    c.in_ok-store.ensures.stored
    (subst (λ (l : List Interval). AreOpenSeconds found schedule c.args.at l) seconds.start seconds.seconds)
    c.requires.right

pub returns-then-is_kept-2-clause-of : goal.returns-then-is_kept-2-clause-of
returns-then-is_kept-2-clause-of c =
    let found = c.args.text.found.now in
    let schedule = c.args.text.lines.now.schedule in
    let opened : OpenCursor = record { at = c.args.at; cursor = c.in_ok-cursor.cursor } in
    let seconds = c.in_ok-cursor.ensures in
    of_stored found schedule c.args.at c.args.self.now.list.items opened c.store.new.self.used c.store.new.self.list.items
    c.in_ok-store.ensures.stored
    (subst (λ (l : List Interval). AreOpenSeconds found schedule c.args.at l) seconds.start seconds.seconds)

pub returns-then-is_kept-2-clause-start : goal.returns-then-is_kept-2-clause-start
returns-then-is_kept-2-clause-start c =
    let opened : OpenCursor = record { at = c.args.at; cursor = c.in_ok-cursor.cursor } in
    started_stored c.args.self.now.list.items opened c.store.new.self.used c.store.new.self.list.items
    c.in_ok-store.ensures.stored c.in_ok-cursor.ensures.start

pub returns-else-is_kept-2-clause-right : goal.returns-else-is_kept-2-clause-right
returns-else-is_kept-2-clause-right c =
    let found = c.args.text.found.now in
    let schedule = c.args.text.lines.now.schedule in
    let opened : OpenCursor = record { at = c.args.at; cursor = c.in_ok-cursor.cursor } in
    let seconds = c.in_ok-cursor.ensures in
    right_stored found schedule c.args.self.now.list.items opened c.store.new.self.used c.store.new.self.list.items
    c.in_ok-store.ensures.stored
    (subst (λ (l : List Interval). AreOpenSeconds found schedule c.args.at l) seconds.start seconds.seconds)
    c.requires.right

pub returns-else-is_kept-2-clause-of : goal.returns-else-is_kept-2-clause-of
returns-else-is_kept-2-clause-of c =
    let found = c.args.text.found.now in
    let schedule = c.args.text.lines.now.schedule in
    let opened : OpenCursor = record { at = c.args.at; cursor = c.in_ok-cursor.cursor } in
    let seconds = c.in_ok-cursor.ensures in
    of_stored found schedule c.args.at c.args.self.now.list.items opened c.store.new.self.used c.store.new.self.list.items
    c.in_ok-store.ensures.stored
    (subst (λ (l : List Interval). AreOpenSeconds found schedule c.args.at l) seconds.start seconds.seconds)

pub returns-else-is_kept-2-clause-start : goal.returns-else-is_kept-2-clause-start
returns-else-is_kept-2-clause-start c =
    let opened : OpenCursor = record { at = c.args.at; cursor = c.in_ok-cursor.cursor } in
    started_stored c.args.self.now.list.items opened c.store.new.self.used c.store.new.self.list.items
    c.in_ok-store.ensures.stored c.in_ok-cursor.ensures.start
