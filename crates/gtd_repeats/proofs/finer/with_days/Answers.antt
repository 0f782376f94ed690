-- Like rows have one number and so one bucket, of which one mark is made; so they have one finer number.
use Rattle.std.proofs.Common.{length, get_or}
use Rattle.gtd_core.specs.Whole.{whole}
use Rattle.gtd_repeats.proofs.FinerFacts.{share_finer}
use Rattle.gtd_repeats.proofs.finer.with_days.Goals as goal

pub returns-clause-shares : goal.returns-clause-shares
returns-clause-shares c =
    let days = whole c.args.days in
    share_finer c.args.texts.rows.now c.as_slice-6.result.now c.as_slice-5.result.now c.as_slice-4.result.now
    (rw (c.as_slice-5.ensures.value, c.as_slice-4.ensures.value) (rw c.as_slice.ensures.value at c.in_ok-indices.ensures.buckets))
    (rw c.as_slice-4.ensures.value c.requires.many) (rw c.as_slice-4.ensures.value c.requires.shares) days.from days.until
    c.in_ok-numbers.numbers.items c.requires.within.0 c.requires.within.1 c.in_ok-numbers.ensures.finer
