-- The labels of the days 1, 10 and 20 stand in a row between the end of the name and the end of the month.
use Rattle.std.specs.Prelude.{codes}
use Rattle.gtd_picture.specs.Picture.{tick_text}
use Rattle.gtd_picture.proofs.Made.{five}
use Rattle.gtd_picture.proofs.head.write_ticks.Goals as goal

pub returns : goal.returns
returns c = record {
  ticks = five c.args.line.now.items c.extend_from_slice.new.self.items c.write_tick.new.line.items
      c.write_tick-2.new.line.items c.write_tick-3.new.line.items c.extend_from_slice-2.new.self.items
      (codes "</text>") (tick_text 1) (tick_text 10) (tick_text 20) (codes "</g>")
      c.in_ok-extend_from_slice.ensures.items c.in_ok-write_tick.ensures.tick c.in_ok-write_tick-2.ensures.tick
      c.in_ok-write_tick-3.ensures.tick c.in_ok-extend_from_slice-2.ensures.items;
}
