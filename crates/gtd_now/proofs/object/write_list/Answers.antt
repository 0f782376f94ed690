-- The numbers of rows and the end of their list are the tokens of the whole list.
use Rattle.gtd_now.proofs.Appending.{both, on_ok}
use Rattle.gtd_now.proofs.ObjectFacts.{rows_tokens}
use Rattle.gtd_now.proofs.object.write_list.Goals as goal

pub returns-clause-tokens : goal.returns-clause-tokens
returns-clause-tokens c = rw (rows_tokens c.args.rows.now)
    (on_ok c.end_array.result _ _ (λ e. both _ _ _ _ _ c.in_ok-write_numbers.ensures.tokens e) c.end_array.ensures.ok)
