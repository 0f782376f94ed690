-- At each turn the first row is known of each row passed, and each first row stands in the bucket of its number.
use Rattle.std.proofs.Common.{◌≡◌, ◌∙◌, ◌<◌, sym, arith, rules, get_or, length, length-append, [], ◌∷◌}
use Rattle.gtd_repeats.proofs.FirstFacts.{so_far_more}
use Rattle.gtd_repeats.proofs.ListFacts.{any_default}
use Rattle.gtd_repeats.proofs.firsts.firsts_of.Goals as goal

pub loop-row-preserved : goal.loop-row-preserved
loop-row-preserved g c =
    let inv = c.loop-row.invariant in
    let row = c.loop-row.row in
    let like = g.L.Likeness.alike c.args.rows.now in
    let firsts = c.loop-row.firsts.items in
    let first = c.in_ok-first.first in
    let inside : row < length c.args.numbers.now = omega arith in
    let k = c.requires.known row inside in
    let placed = c.in_ok-indices.ensures.buckets in
    let indices = c.in_ok-indices.indices.items in
    let many = placed.many in
    let at : get_or indices row 0 ≡ c.index.result.now =
    sym (c.index.ensures ∙ any_default indices row c.index.result.now 0 (omega (arith, inside, many))) in
    let found = c.in_ok-first.ensures.first c.args.numbers.now indices c.requires.likeness c.requires.numbers placed inside
    (rw c.as_slice.ensures.value inv.so_far) (search rules) at k.0 k.1 in
    let l = length-append firsts (first ∷ []) in
    record {
      many = rw c.in_ok-push.ensures.items (omega (arith, l, inv.many));
      buckets = let many = c.in_ok-first.ensures.many in omega (arith, many, inv.buckets);
      so_far = rw c.in_ok-push.ensures.items
          (so_far_more like c.requires.likeness c.args.numbers.now indices firsts c.first_of.new.buckets.items first row
          (omega (arith, inv.many)) (found.0, found.2) (rw c.as_slice.ensures.value at found.1));
    }
