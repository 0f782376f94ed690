-- A question, its state and its change take at most 100 bytes, since each part is appended and each is short.
use Rattle.std.proofs.Common.{◌≤◌, length}
use Rattle.gtd_states.specs.States.{second_of}
use Rattle.gtd_ask.proofs.LineFacts.{on_ok, short_line}
use Rattle.gtd_ask.proofs.answer.write_line.Goals as goal

pub returns-clause-short : goal.returns-clause-short
returns-clause-short c =
    on_ok c.push_change.result _ (length c.push_change.new.line.items ≤ 100)
    (λ e. short_line c.args.question.now.second.0 c.args.is_open (second_of c.args.change)
    c.write_head.new.line.items c.push_moment.new.line.items c.push_state.new.line.items c.push_change.new.line.items
    c.in_ok-write_head.ensures.short c.in_ok-push_moment.ensures.moment c.in_ok-push_state.ensures.state e)
    c.push_change.ensures.change
