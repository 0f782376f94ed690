-- A kind put behind others has its selectors behind theirs.
use Rattle.std.proofs.Common.{◌∙◌, ap}
use Rattle.gtd_hours.specs.Writable.{selectors}
use Rattle.gtd_hours_dated.specs.facts.KindFacts.{kind_more}
use Rattle.gtd_hours_dated.proofs.kinds.with_one.Goals as goal

pub returns : goal.returns
returns c = ap selectors c.in_ok-push.ensures.items ∙ kind_more c.args.list.items c.args.kind
