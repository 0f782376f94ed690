-- The label is five pieces in a row: its place and its hour in between three fixed texts.
use Rattle.std.proofs.Common.{◌+◌, ◌*◌}
use Rattle.std.specs.Prelude.{codes, decimal}
use Rattle.gtd_calendar.specs.Stamp.{two_digits}
use Rattle.gtd_picture.proofs.Made.{five}
use Rattle.gtd_picture.proofs.head.write_hour.Goals as goal

pub returns : goal.returns
returns c = record {
  hour = five c.args.line.now.items c.extend_from_slice.new.self.items c.write_number.new.line.items
      c.extend_from_slice-2.new.self.items c.write_two_digits.new.line.items c.extend_from_slice-3.new.self.items
      (codes "<text x='64' y='") (decimal (101 + 18 * c.args.hour)) (codes "'>") (two_digits c.args.hour) (codes ":00</text>")
      c.in_ok-extend_from_slice.ensures.items
      (rw c.from.ensures at c.in_ok-write_number.ensures.number)
      c.in_ok-extend_from_slice-2.ensures.items
      c.in_ok-write_two_digits.ensures.digits
      c.in_ok-extend_from_slice-3.ensures.items;
}
