-- One bucket more has no entry, either.
use Rattle.std.proofs.Common.{◌∷◌, [], ap, arith, length, length-append, List}
use Rattle.gtd_repeats.proofs.BucketFacts.{none_more}
use Rattle.gtd_repeats.proofs.buckets.empty_buckets.Goals as goal

pub loop-preserved : goal.loop-preserved
loop-preserved c =
    let grown = c.in_ok-push.ensures.items in
    let n = ap (λ (l : List _). length l) grown in
    let l = length-append c.loop.buckets.items (c.new.result ∷ []) in
    record {
      many = omega (arith, n, l, c.loop.invariant.many);
      empty = rw grown (none_more c.loop.buckets.items c.new.result c.loop.invariant.empty c.new.ensures.items);
    }
