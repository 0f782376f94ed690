-- Few cursors are united, so that their complement has few nodes.
use Rattle.std.specs.Prelude.{vec_len}
use Rattle.gtd_core.specs.Limits.{most_nodes}
use Rattle.gtd_eval.specs.Cursors.{cursor_nodes, total_nodes}
use Rattle.std.proofs.Common.{arith}
use Rattle.gtd_records.proofs.OpenFacts.{few-united}
use Rattle.gtd_records.proofs.closing_cursors.ClosingCursors.outside.Goals as goal

pub outside-requires : goal.outside-requires
outside-requires c = record {
  few = few-united (vec_len c.args.self.others) (total_nodes c.args.self.others.items) (cursor_nodes c.in_ok-closed.closed)
      most_nodes c.in_ok-closed.ensures.none c.in_ok-closed.ensures.nodes (omega (arith, c.requires.few)) (omega arith);
}
