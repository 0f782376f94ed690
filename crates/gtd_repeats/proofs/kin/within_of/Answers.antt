-- The first entry that is found is of the first row, and where none is found none of the first rows is left.
use Rattle.std.proofs.Common.{arith, rules}
use Rattle.gtd_repeats.proofs.EarlyFacts.{first_within, none_within, none_yet}
use Rattle.gtd_repeats.proofs.kin.within_of.Goals as goal

pub returns-then-branch-clause-within : goal.returns-then-branch-clause-within
returns-then-branch-clause-within c =
    let is = c.in_ok-is_within_entry.ensures.within.0 (search rules) in
    first_within c.args.all.now.rows.now c.args.row c.args.entries.now c.requires.kin c.loop-entry.entry-index
    (record { number = 0; row = 0 }) (omega arith) is.0 is.1 c.loop-entry.invariant.none

pub loop-entry-preserved : goal.loop-entry-preserved
loop-entry-preserved c = record {
  right = c.in_ok-is_within_entry.ensures.right;
  none = none_yet c.args.all.now.rows.now c.args.row c.args.entries.now c.loop-entry.entry-index
      (record { number = 0; row = 0 }) (omega arith) (λ named within.
      let told = c.in_ok-is_within_entry.ensures.within.1 (named, within) in absurd (search (rules, told)))
      c.loop-entry.invariant.none;
}

pub returns-clause-within : goal.returns-clause-within
returns-clause-within c =
    none_within c.args.all.now.rows.now c.args.row c.args.entries.now c.requires.kin (λ k x before at named within.
    c.loop-entry.invariant.none k x (omega (arith, before)) at named within)
