-- After each turn the union holds the numbers of the pieces so far, and after the last turn those of the whole range.
use Rattle.std.proofs.Common.{arith}
use Rattle.gtd_hours_leaves.specs.Leaves.{HasNumber, minutes_of, moved_day}
use Rattle.gtd_hours_leaves.proofs.PieceLemmas.{all-pieces, along, one_more-piece}
use Rattle.gtd_hours_leaves.proofs.numbers.pieces.Goals as goal

pub loop-piece-preserved : goal.loop-piece-preserved
loop-piece-preserved c = (
  (λ s. one_more-piece _ _ (λ k. HasNumber c.args.level k (moved_day (minutes_of c.args.clock) s)) c.args.first c.args.last
      c.args.stride c.args.width c.loop-piece.piece c.begin_of-begin.result c.requires.some.0 c.requires.some.1
      c.begin_of-begin.ensures.value (c.loop-piece.invariant.0 s)
      (rw c.lesser.ensures at (along _ _ _ _ (c.run-days.ensures.days s) (c.in_ok-union.ensures.seconds s)))),
  omega (arith, c.loop-piece.invariant.1, c.in_ok-union.ensures.leaves, c.run-days.ensures.leaves),
)

pub returns-clause-days : goal.returns-clause-days
returns-clause-days c s =
    all-pieces _ _ (λ k. HasNumber c.args.level k (moved_day (minutes_of c.args.clock) s)) c.args.first c.args.last c.args.stride
    c.args.width c.loop-piece.piece (omega (arith, c.requires.some)) (omega (arith, c.loop-piece-test.false))
    (c.loop-piece.invariant.0 s) (c.or_nothing.ensures.seconds s)
