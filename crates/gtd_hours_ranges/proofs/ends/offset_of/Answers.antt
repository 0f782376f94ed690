use Rattle.std.proofs.Common.{arith}
use Rattle.gtd_hours_ranges.proofs.DayLemmas.{no_offset}
use Rattle.gtd_hours_ranges.proofs.ends.offset_of.Goals as goal

pub returns-else-days-le366-clause-none : goal.returns-else-days-le366-clause-none
returns-else-days-le366-clause-none c =
    no_offset c.args.is_before c.args.days (let far = c.if-days-le366.false in omega (arith, far))
