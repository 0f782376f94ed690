-- If a row in the bucket is like it, its first row is that one's; if none is, the row is a first one itself.
use Rattle.std.proofs.Common.{◌≡◌, refl, Some, None}
use Rattle.std.proofs.lemmas.Option.{MatchOption-at_some, MatchOption-at_none}
use Rattle.gtd_repeats.proofs.BucketFacts.{now_listed, still_listed}
use Rattle.gtd_repeats.proofs.FirstFacts.{alone, joined, later}
use Rattle.gtd_repeats.proofs.firsts.first_new.Goals as goal

pub returns-in-Some-clause-first : goal.returns-in-Some-clause-first
returns-in-Some-clause-first g c = λ numbers indices likeness shared placed inside so_far is at self.
    let alike = g.L.Likeness.alike c.args.rows.now in
    let firsts = c.args.firsts.now in
    let was = c.in-Some.is in
    let e : c.in_ok-first.field-0 ≡ Some c.in-Some.first = cc in
    let h = MatchOption-at_some _ _ c.in-Some.first e c.in_ok-first.ensures.first in
    let found = joined alike likeness numbers indices firsts c.args.buckets.now.items so_far c.args.asked.entry.row h.0 c.requires.next
    h.1 h.2 in
    rw h.3 (found.0, so_far, found.1)

pub returns-in_ok-add_entry-in-None-clause-first : goal.returns-in_ok-add_entry-in-None-clause-first
returns-in_ok-add_entry-in-None-clause-first g c = λ numbers indices likeness shared placed inside so_far is at self.
    let alike = g.L.Likeness.alike c.args.rows.now in
    let firsts = c.args.firsts.now in
    let asked = c.args.asked.entry in
    let bucket = c.args.asked.bucket in
    let old = c.args.buckets.now.items in
    let new = c.add_entry.new.buckets.items in
    let added = c.in_ok-add_entry-in-None.ensures.added in
    let was = c.in-None.is in
    let e : c.in_ok-first.field-0 ≡ None = cc in
    let none = MatchOption-at_none _ _ e c.in_ok-first.ensures.first in (
      alone alike likeness numbers indices firsts old so_far shared placed asked.row asked.number bucket
          c.entries_of-entries.result.now inside c.requires.next is at
          (rw c.as_slice.ensures.value at c.entries_of-entries.ensures.entries) none self,
      later alike likeness numbers indices firsts old new (still_listed old new bucket asked added) so_far,
      rw (is, at) (now_listed old new bucket asked added asked.number asked.row refl),
    )
