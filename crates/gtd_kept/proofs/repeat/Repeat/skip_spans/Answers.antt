-- What is left out in one more step ends by the second, too.
use Rattle.std.proofs.Common.{◌∙◌}
use Rattle.gtd_kept.specs.Repeating.{to_come}
use Rattle.gtd_kept.proofs.SkipFacts.{leaves-more}
use Rattle.gtd_kept.proofs.repeat.Repeat.skip_spans.Goals as goal

pub returns-then-not-skips_one-clause-leaves : goal.returns-then-not-skips_one-clause-leaves
returns-then-not-skips_one-clause-leaves c = λ xs n h.
    let so_far = c.loop.invariant in
    leaves-more c.args.second.0 (to_come c.args.self.now.stage xs) (to_come c.loop.self.stage xs)
    (to_come c.skips_one.new.self.stage xs) (so_far.leaves xs n h) (c.skips_one.ensures.leaves xs n (so_far.kept xs n h))

pub loop-preserved : goal.loop-preserved
loop-preserved c =
    let so_far = c.loop.invariant in
    let one = c.skips_one.ensures in record {
      leaves = λ xs n h. leaves-more c.args.second.0 (to_come c.args.self.now.stage xs) (to_come c.loop.self.stage xs)
          (to_come c.skips_one.new.self.stage xs) (so_far.leaves xs n h) (one.leaves xs n (so_far.kept xs n h));
      kept = λ xs n h. one.kept xs n (so_far.kept xs n h);
      again = λ xs h. one.again xs (so_far.again xs h);
      ended = λ h. one.ended (so_far.ended h);
      told = one.told ∙ so_far.told;
      repeating = one.repeating;
      room = one.room ∙ so_far.room;
    }
