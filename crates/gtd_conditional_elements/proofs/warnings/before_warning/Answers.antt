-- The pieces that are written are the words in their order.
use Rattle.gtd_conditional_elements.proofs.warnings.before_warning.Goals as goal

pub returns : goal.returns
returns c = rw (c.new-text.ensures.bytes, c.as_bytes.ensures.value) at c.in_ok-write.ensures.bytes
