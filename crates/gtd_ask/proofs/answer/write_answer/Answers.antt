-- A line says what is known at the question's second and of its change, both of which the calendar shows.
use Rattle.std.proofs.Common.{subst}
use Rattle.gtd_ask.proofs.LineFacts.{change_day, day_shown, in_horizon, line_is, on_ok}
use Rattle.gtd_ask.specs.Answers.{IsAnswer}
use Rattle.gtd_ask.specs.Known.{IsGroupOpen, IsKnown}
use Rattle.gtd_ask.specs.declared.asked.Group.{Group}
use Rattle.gtd_ask.proofs.answer.write_answer.Goals as goal

pub write_line-requires : goal.write_line-requires
write_line-requires c =
    let q = c.args.question.now in
    let range = in_horizon q.second.0 c.requires.in_range in
    let known = c.in_ok-known.ensures.known in
    record {
      moment = day_shown q.second.0 range;
      day = change_day (IsGroupOpen c.args.found.now c.group_of.result) q.second.0 known.last c.in_ok-known.known.change range
          known.ends known.until;
    }

pub returns-clause-line : goal.returns-clause-line
returns-clause-line c =
    let q = c.args.question.now in
    let found = c.args.found.now in
    let k = c.in_ok-known.known in
    on_ok c.write_line.result _ (IsAnswer found q c.write_line.new.line.items)
    (λ e. line_is found q c.write_line.new.line.items k
    (subst (λ (g : Group). IsKnown found g q.second.0 k) c.group_of.ensures.group c.in_ok-known.ensures.known) e)
    c.write_line.ensures.line
