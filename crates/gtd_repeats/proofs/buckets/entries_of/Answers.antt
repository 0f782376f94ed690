-- The entries are those of the bucket.
use Rattle.std.proofs.Common.{◌∙◌, ap, sym}
use Rattle.std.specs.Global.{Vec}
use Rattle.gtd_repeats.specs.declared.buckets.Entry.{Entry}
use Rattle.gtd_repeats.proofs.BucketFacts.{entries_is}
use Rattle.gtd_repeats.proofs.buckets.entries_of.Goals as goal

pub returns : goal.returns
returns c = record {
  entries =
      c.as_slice.ensures.value ∙ ap (λ (w : Vec Entry). w.items) c.index-buckets-bucket.is
      ∙ sym (entries_is c.args.buckets.now c.args.bucket c.index-buckets-bucket.result c.requires.inside);
}
