-- The frame is five pieces in a row: its width and its columns in between three fixed texts.
use Rattle.std.proofs.Common.{◌*◌}
use Rattle.std.specs.Prelude.{codes, decimal}
use Rattle.gtd_picture.proofs.Made.{five}
use Rattle.gtd_picture.proofs.head.write_plot.Goals as goal

pub returns : goal.returns
returns c = record {
  plot = five c.args.line.now.items c.extend_from_slice.new.self.items c.write_number.new.line.items
      c.extend_from_slice-2.new.self.items c.write_number-2.new.line.items c.extend_from_slice-3.new.self.items
      (codes "<svg x='72' y='96' width='") (decimal (3 * c.args.days)) (codes "' height='432' viewBox='0 0 ") (decimal
      c.args.days)
      (codes " 86400' preserveAspectRatio='none' shape-rendering='crispEdges'>\n")
      c.in_ok-extend_from_slice.ensures.items
      (rw c.from.ensures at c.in_ok-write_number.ensures.number)
      c.in_ok-extend_from_slice-2.ensures.items
      (rw c.from-2.ensures at c.in_ok-write_number-2.ensures.number)
      c.in_ok-extend_from_slice-3.ensures.items;
}
