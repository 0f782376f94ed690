-- One space, and then as many as are left, are as many as were asked for.
use Rattle.std.proofs.Common.{rules}
use Rattle.gtd_now.proofs.Appending.{both, on_ok, spaces_more}
use Rattle.gtd_now.proofs.table.+push_spaces.Goals as goal

pub returns : goal.returns
returns t c = rw (spaces_more c.args.count (search rules))
    (on_ok c.push_spaces.result _ _ (λ e. both _ _ _ _ _ c.in_ok-push.ensures.items e) c.push_spaces.ensures)
