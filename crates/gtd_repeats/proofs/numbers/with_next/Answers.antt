-- Each span that is taken goes into the number; with none left it is the number with all.
use Rattle.std.proofs.Common.{◌∙◌, arith}
use Rattle.gtd_eval.specs.Cursors.{cursor_list}
use Rattle.gtd_repeats.proofs.NumberFacts.{with_next}
use Rattle.gtd_repeats.proofs.numbers.with_next.Goals as goal

pub loop-preserved : goal.loop-preserved
loop-preserved c =
    let left = c.loop-test.true in
    record {
      small = c.with_span-joined.ensures.small;
      value =
          c.loop.invariant.value
          ∙ rw c.with_span-joined.ensures.value
          (with_next c.args.count c.loop.counter c.loop.joined c.in-Some.span (cursor_list c.next.new.self) (cursor_list c.loop.cursor)
          (omega (arith, left)) c.in-Some.ensures.takes);
    }
