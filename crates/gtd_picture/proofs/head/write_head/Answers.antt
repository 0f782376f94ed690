-- The line is the top, the hours, the key and the plot, written one after the other into an empty buffer.
use Rattle.gtd_picture.specs.Picture.{hours_text, key_text, plot_text, top_text}
use Rattle.gtd_picture.proofs.Made.{four_alone}
use Rattle.gtd_picture.proofs.head.write_head.Goals as goal

pub returns : goal.returns
returns c = record {
  head = four_alone c.clear.new.self.items c.write_top.new.line.items c.write_hours.new.line.items c.write_key.new.line.items
      c.write_plot.new.line.items (top_text c.args.title.now) (hours_text 5) (key_text c.args.inside.now c.args.outside.now)
      (plot_text c.args.days) c.clear.ensures.items c.in_ok-write_top.ensures.top c.in_ok-write_hours.ensures.hours
      c.in_ok-write_key.ensures.key c.in_ok-write_plot.ensures.plot;
}
