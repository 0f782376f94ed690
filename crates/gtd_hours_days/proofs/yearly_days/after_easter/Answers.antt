-- The day found lies the offset behind Easter Sunday, so moved back by it, it is Easter Sunday.
use Rattle.std.proofs.Common.{rules, FitsSigned, w64, to_z-of_z}
use Rattle.gtd_hours_days.proofs.AdditionFacts.{easter_moved}
use Rattle.gtd_hours_days.proofs.yearly_days.after_easter.Goals as goal

pub returns : goal.returns
returns c =
    let fits : FitsSigned w64 c.easter.result = search rules in
    let moved : FitsSigned w64 c.plus.result = search rules in
    rw (to_z-of_z moved) (easter_moved c.args.year c.easter.result c.plus.result c.args.offset.days c.easter.ensures.day
    (rw (to_z-of_z fits) at c.plus.ensures))
