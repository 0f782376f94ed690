-- The label is five pieces in a row: its place and its day in between three fixed texts.
use Rattle.std.proofs.Common.{◌*◌, ◌-◌}
use Rattle.std.specs.Prelude.{codes, decimal}
use Rattle.gtd_picture.proofs.Made.{five}
use Rattle.gtd_picture.proofs.head.write_tick.Goals as goal

pub returns : goal.returns
returns c = record {
  tick = five c.args.line.now.items c.extend_from_slice.new.self.items c.write_number.new.line.items
      c.extend_from_slice-2.new.self.items c.write_number-2.new.line.items c.extend_from_slice-3.new.self.items
      (codes "<text class='tick' x='") (decimal (3 * (c.args.day - 1))) (codes "' y='542'>") (decimal c.args.day) (codes
      "</text>")
      c.in_ok-extend_from_slice.ensures.items
      (rw c.from.ensures at c.in_ok-write_number.ensures.number)
      c.in_ok-extend_from_slice-2.ensures.items
      (rw c.from-2.ensures at c.in_ok-write_number-2.ensures.number)
      c.in_ok-extend_from_slice-3.ensures.items;
}
