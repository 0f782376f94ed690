-- One class more: it is among the classes that lead on exactly if it does.
use Rattle.std.proofs.Common.{sym, arith}
use Rattle.gtd_hours_grammar2.specs.declared.machine.TheConstants.{CLASSES}
use Rattle.gtd_hours_grammar2.proofs.Accepting.{one_more}
use Rattle.gtd_hours_grammar2.proofs.machine.accepted.Goals as goal

pub loop-class-preserved : goal.loop-class-preserved
loop-class-preserved c =
    rw c.in_ok-push_if.ensures (rw c.loop-class.invariant (rw c.leads_on-holds.ensures
    (sym (one_more c.args.state CLASSES c.loop-class.class-index (omega (arith, c.loop-class-test.true))))))
