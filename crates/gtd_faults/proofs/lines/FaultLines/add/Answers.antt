-- One fault more is one line more, behind those that the list had.
use Rattle.std.proofs.Common.{refl}
use Rattle.gtd_faults.proofs.ListFacts.{lines_more}
use Rattle.gtd_faults.proofs.lines.FaultLines.add.Goals as goal

pub returns : goal.returns
returns c = λ bytes on snippet. record {
  path = refl;
  faults = c.in_ok-push.ensures.items;
  lines = λ lines.
      rw (c.in_ok-push.ensures.items, c.in_ok-push_fault.ensures)
      (lines_more c.args.self.now.path.now bytes _ _ _ _ _ on snippet lines);
}
