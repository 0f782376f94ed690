-- Nothing is shown below the fault that says that there is a row too many.
use Rattle.std.proofs.Common.{refl}
use Rattle.gtd_faults.proofs.lines.FaultLines.add_too_many.Goals as goal

pub returns : goal.returns
returns c = λ bytes on. c.add.ensures bytes on refl
