-- A cursor of an element is one of each that is closed alike.
use Rattle.std.proofs.Common.{◌≡◌, ◌<◌, subst, get_or, length, List}
use Rattle.gtd_schedule.proofs.CursorFacts.{of_known}
use Rattle.gtd_schedule.specs.declared.cursors.OpenCursor.{OpenCursor}
use Rattle.gtd_schedule.proofs.cursors.OpenCursors.is_shared.Goals as goal

pub returns : goal.returns
returns c =
    let known = c.in-Some.known.now in
    let look = c.in-Some.ensures.lookup in
    let same = c.deref.ensures.value in
    let n = c.args.number in
    record {
      of = λ alike. of_known c.args.text.found.now c.args.text.lines.now.schedule c.args.at c.args.self.now.list.items
          n known (subst (λ (l : List OpenCursor). n < length l) same look.3.0)
          (subst (λ (l : List OpenCursor). known ≡ get_or l n known) same look.1)
          (c.are_closed_alike.ensures.alike alike) c.requires.right;
    }
