-- The shown part and the three dots behind it make one label.
use Rattle.std.specs.Prelude.{codes, flat_map}
use Rattle.gtd_picture.specs.Words.{escape}
use Rattle.gtd_picture.proofs.Made.{cut_piece}
use Rattle.gtd_picture.proofs.words.write_cut.Goals as goal

pub returns : goal.returns
returns c = record {
  label = cut_piece c.args.line.now.items c.write_label.new.line.items c.extend_from_slice.new.self.items
      (flat_map escape c.args.part.now) (codes "...") c.args.after.now c.in_ok-write_label.ensures.label
      c.in_ok-extend_from_slice.ensures.items;
}
