-- With nothing taken ahead, the runs to come are all of the domain's seconds in the horizon.
use Rattle.gtd_core.specs.Whole.{whole}
use Rattle.gtd_eval.proofs.OnwardFacts.{basic-is}
use Rattle.gtd_eval.proofs.basic_stays.BasicStays.new.Goals as goal

pub invariant_of-result : goal.invariant_of-result
invariant_of-result c =
    let all = whole c.args.horizon in
    record { is = rw c.from.ensures.value (basic-is c.args.basic all.from all.until _ c.new.ensures.normal) }
