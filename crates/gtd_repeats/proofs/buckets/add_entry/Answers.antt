-- The bucket has the entry after those that it had, and the others are as before.
use Rattle.gtd_repeats.proofs.BucketFacts.{now_entries}
use Rattle.gtd_repeats.proofs.buckets.add_entry.Goals as goal

pub returns-clause-added : goal.returns-clause-added
returns-clause-added c =
    now_entries c.args.buckets.now.items c.args.bucket c.index_mut.result.now c.push.new.self c.args.entry c.requires.inside
    c.index_mut.ensures.value c.in_ok-push.ensures.items
