-- A value whose hours need too many basic domains is read all the same.
use Rattle.std.proofs.Common.{refl, rules}
use Rattle.gtd_conditional_elements.proofs.tag.read_tag.Goals as goal

pub returns-then-needs_too_many : goal.returns-then-needs_too_many
returns-then-needs_too_many c = (
  refl,
  c.in-Ok.value,
  c.in-Ok.ensures.value,
  c.needs_too_many.ensures.many.0 (search rules),
)
