-- The key is three pieces in a row: the colours, the words for inside and the words for outside.
use Rattle.gtd_picture.specs.Picture.{inside_key, outside_key, weekend_key}
use Rattle.gtd_picture.specs.Words.{label_text}
use Rattle.gtd_picture.proofs.Made.{three}
use Rattle.gtd_picture.proofs.head.write_key.Goals as goal

pub returns : goal.returns
returns c = record {
  key = three c.args.line.now.items c.extend_from_slice.new.self.items c.write_label.new.line.items c.write_label-2.new.line.items
      inside_key (label_text c.args.inside.now outside_key) (label_text c.args.outside.now weekend_key)
      c.in_ok-extend_from_slice.ensures.items c.in_ok-write_label.ensures.label c.in_ok-write_label-2.ensures.label;
}
