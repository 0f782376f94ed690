-- None of the entries passed so far is like the row; the first one that is gives its own first row.
use Rattle.std.proofs.Common.{arith, rules, length}
use Rattle.gtd_repeats.proofs.FirstFacts.{none_at_all, none_first, none_more}
use Rattle.gtd_repeats.proofs.firsts.first_alike.Goals as goal

pub loop-entry-init : goal.loop-entry-init
loop-entry-init g c =
    none_first (g.L.Likeness.alike c.args.rows.now) c.args.asked.number c.args.asked.row (length c.args.firsts.now)
    c.args.entries.now

pub loop-entry-preserved : goal.loop-entry-preserved
loop-entry-preserved g c =
    none_more (g.L.Likeness.alike c.args.rows.now) c.args.asked.number c.args.asked.row (length c.args.firsts.now)
    c.args.entries.now c.loop-entry.entry-index (record { number = 0; row = 0 }) (omega arith) (search rules)
    c.loop-entry.invariant

pub returns : goal.returns
returns g c = record {
  first = none_at_all (g.L.Likeness.alike c.args.rows.now) c.args.asked.number c.args.asked.row (length c.args.firsts.now)
      c.args.entries.now (search rules);
}
