-- The pieces of a text are in range and few, so hours can be built of them where memory has room.
use Rattle.gtd_hours_text.proofs.EachText.{each_text}
use Rattle.gtd_hours_text.proofs.laws.each_text.Goals as goal

pub returns : goal.returns
returns c = record {
  some = each_text c.each_text.ensures.some c.each_text.ensures.in_range c.each_text.ensures.few;
}
