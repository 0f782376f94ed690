-- What the other output took is the front of what was gathered.
use Rattle.std.proofs.Common.{rules, ◌∙◌, ◌≤◌, ◌-◌}
use Rattle.std.proofs.KnownBytes.{Keeps-trans, append_known-kept}
use Rattle.gtd_gathered.specs.Gathering.{between}
use Rattle.gtd_gathered.proofs.GatheringLemmas.{handed_on}
use Rattle.gtd_gathered.proofs.gathered.Gathered.hand_on.Goals as goal

pub loop-self-preserved : goal.loop-self-preserved
loop-self-preserved g c =
    let self = c.loop-self.self in
    let n = c.in-Took.n in
    let few : n ≤ self.until - self.from = search rules in
    record {
      bytes = rw (c.in-Took.ensures.kept) (Keeps-trans _ _ _ c.loop-self.invariant.bytes
          (handed_on _ _ self.from self.until n self.bytes.now few c.in-Took.ensures.taken));
      failures = c.in-Took.ensures.failures ∙ c.loop-self.invariant.failures;
    }

pub returns-in-Failed-clause-bytes : goal.returns-in-Failed-clause-bytes
returns-in-Failed-clause-bytes g c =
    let self = c.loop-self.self in
    let kept = c.in-Failed.ensures.kept in
    let same = Keeps-trans _ _ _ c.loop-self.invariant.bytes
    (append_known-kept _ _ (between self.from self.until self.bytes.now) c.in-Failed.ensures.taken) in
    search (rules, kept, same)
