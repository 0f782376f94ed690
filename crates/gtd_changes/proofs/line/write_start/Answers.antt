-- Each part that is appended up to the last moment is the next one of the line, by both moments that it shows.
use Rattle.std.proofs.Common.{◌≡◌, ◌++◌}
use Rattle.gtd_changes.proofs.ChangeFacts.{on_ok, start_of}
use Rattle.gtd_changes.specs.Rows.{change_start}
use Rattle.gtd_changes.proofs.line.write_start.Goals as goal

pub returns : goal.returns
returns c = record {
  start = on_ok c.push_moment-2.result _
      (c.push_moment-2.new.line.items ≡ change_start c.args.at.element c.args.at.direction c.args.vehicle c.args.change.now
      ++ c.args.end.now)
      (λ e. start_of c.args.at.element c.args.at.direction c.args.vehicle c.args.change.now c.span-span.result c.from.result.0
      c.until.result.0 c.write_head.new.line.items c.push_word.new.line.items c.push_moment.new.line.items
      c.push_moment-2.new.line.items c.args.end.now c.span-span.ensures.value c.from.ensures.value c.until.ensures.value
      c.in_ok-write_head.ensures.head c.in_ok-push_word.ensures.word c.in_ok-push_moment.ensures.moment e)
      c.push_moment-2.ensures.moment;
}
