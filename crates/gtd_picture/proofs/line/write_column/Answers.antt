-- The whole column is a rectangle between the texts that close the tooltip and open the next path.
use Rattle.std.specs.Prelude.{codes}
use Rattle.gtd_picture.specs.Picture.{rect_text, whole_column}
use Rattle.gtd_picture.proofs.Made.{three}
use Rattle.gtd_picture.proofs.line.write_column.Goals as goal

pub returns : goal.returns
returns c = record {
  column = three c.args.line.now.items c.extend_from_slice.new.self.items c.write_rect.new.line.items
      c.extend_from_slice-2.new.self.items
      (codes "</title><path class='out' d='") (rect_text (whole_column c.args.place)) (codes "'/><path class='in' d='")
      c.in_ok-extend_from_slice.ensures.items (rw c.from.ensures at c.in_ok-write_rect.ensures.rect)
      c.in_ok-extend_from_slice-2.ensures.items;
}
