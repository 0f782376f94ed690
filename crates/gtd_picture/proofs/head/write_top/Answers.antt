-- The top is three pieces in a row: the opening, the whole title, and the title as it is shown.
use Rattle.std.specs.Prelude.{codes}
use Rattle.gtd_picture.specs.Picture.{opening_text, style_text}
use Rattle.gtd_picture.specs.Words.{label_text, title_text}
use Rattle.gtd_picture.proofs.Made.{three}
use Rattle.gtd_picture.proofs.head.write_top.Goals as goal

pub returns : goal.returns
returns c = record {
  top = three c.args.line.now.items c.extend_from_slice.new.self.items c.write_label.new.line.items c.write_title.new.line.items
      opening_text (label_text c.args.title.now style_text) (title_text c.args.title.now (codes "</text><g text-anchor='end'>"))
      c.in_ok-extend_from_slice.ensures.items c.in_ok-write_label.ensures.label c.in_ok-write_title.ensures.title;
}
