-- What is told of each row and the end of their list are the tokens of the whole list of reasons.
use Rattle.gtd_now.proofs.Appending.{both, on_ok}
use Rattle.gtd_now.proofs.ObjectFacts.{reasons_tokens}
use Rattle.gtd_now.proofs.object.write_reason_list.Goals as goal

pub returns-clause-tokens : goal.returns-clause-tokens
returns-clause-tokens c = rw (reasons_tokens c.args.rows.now.lines.now c.args.rows.now.records.now c.args.closing.now)
    (on_ok c.end_array.result _ _ (λ e. both _ _ _ _ _ c.in_ok-write_reasons.ensures.tokens e) c.end_array.ensures.ok)
