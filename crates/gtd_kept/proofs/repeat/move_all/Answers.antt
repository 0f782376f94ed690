-- The next span is the one that was there, and it ends by the second, so that what it is moved to can be counted.
use Rattle.std.proofs.Common.{rules, arith, ◌<◌, ◌∙◌, length}
use Rattle.std.proofs.lemmas.Int.{ints}
use Rattle.gtd_spans.specs.facts.OneList.{same-interval}
use Rattle.gtd_kept.proofs.RoundLemmas.{done-next, moved-next}
use Rattle.gtd_kept.proofs.repeat.move_all.Goals as goal

pub overflow_add-from : goal.overflow_add-from
overflow_add-from c =
    let so_far = c.loop-at.invariant in
    let span = c.index-spans-at.result in
    let lt : c.loop-at.at < length c.loop-at.spans = search rules in
    let ends = done-next c.args.last.0 c.loop-at.at c.loop-at.spans c.args.spans.now span so_far.others lt c.index-spans-at.is
    c.requires.done in
    omega (arith, ints, ends)

pub overflow_add-until : goal.overflow_add-until
overflow_add-until c =
    let so_far = c.loop-at.invariant in
    let span = c.index-spans-at.result in
    let lt : c.loop-at.at < length c.loop-at.spans = search rules in
    let ends = done-next c.args.last.0 c.loop-at.at c.loop-at.spans c.args.spans.now span so_far.others lt c.index-spans-at.is
    c.requires.done in
    omega (arith, ints, ends)

pub between-requires : goal.between-requires
between-requires c =
    let so_far = c.loop-at.invariant in
    let span = c.index-spans-at.result in
    let lt : c.loop-at.at < length c.loop-at.spans = search rules in
    let ends = done-next c.args.last.0 c.loop-at.at c.loop-at.spans c.args.spans.now span so_far.others lt c.index-spans-at.is
    c.requires.done in
    record {
      not_empty = omega (arith, ints, ends);
    }

pub loop-at-preserved : goal.loop-at-preserved
loop-at-preserved c =
    let so_far = c.loop-at.invariant in
    let span = c.index-spans-at.result in
    let lt : c.loop-at.at < length c.loop-at.spans = search rules in
    let ends = done-next c.args.last.0 c.loop-at.at c.loop-at.spans c.args.spans.now span so_far.others lt c.index-spans-at.is
    c.requires.done in
    let next = moved-next _ c.loop-at.at c.loop-at.spans c.args.spans.now span c.between.result so_far.moved so_far.others
    so_far.count lt c.index-spans-at.is
    (c.between.ensures.value ∙ same-interval _ _ (omega (arith, ints, ends)) (omega (arith, ints, ends))) in record {
      moved = next.0;
      others = next.1;
      count = next.2;
    }
