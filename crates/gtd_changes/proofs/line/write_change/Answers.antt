-- The start of the line and its end, written one behind the other, are the line of the change.
use Rattle.std.proofs.Common.{◌≡◌, ◌∙◌}
use Rattle.gtd_changes.proofs.ChangeFacts.{line_of, on_ok}
use Rattle.gtd_changes.specs.Changes.{change_line}
use Rattle.gtd_changes.proofs.line.write_change.Goals as goal

pub returns : goal.returns
returns c = record {
  line = on_ok c.write_start.result _
      (c.write_start.new.line.items ≡ change_line c.args.at.element c.args.at.direction c.args.vehicle c.args.change.now)
      (λ e. e ∙ line_of c.args.at.element c.args.at.direction c.args.vehicle c.args.change.now)
      c.write_start.ensures.start;
}
