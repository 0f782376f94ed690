-- The later begin and the earlier end of two spans bound their common part, if there is one.
use Rattle.gtd_recur.proofs.StretchLemmas.{cut-is}
use Rattle.gtd_recur.proofs.runs.cut.Goals as goal

pub returns : goal.returns
returns c = cut-is c.args.from.0 c.args.until.0 c.args.first.0 c.args.end.0 c.later.result.0 c.earlier.result.0 c.new.result
    c.later.ensures c.earlier.ensures c.new.ensures.span
