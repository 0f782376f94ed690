-- The seconds to come are those of the day, and of those after it.
use Rattle.std.proofs.Common.{rules}
use Rattle.std.specs.Prelude.{pos, ◌*ℤ◌}
use Rattle.gtd_spans.specs.Counting.{IsCount}
use Rattle.gtd_spans.specs.Normal.{Holds}
use Rattle.gtd_spans.specs.facts.CountFacts.{count-same}
use Rattle.gtd_year.proofs.counts.count_of.Goals as goal

pub returns-in-None-clause-count : goal.returns-in-None-clause-count
returns-in-None-clause-count g c = λ all left given.
    let counted : IsCount (Holds c.args.seconds.now) (c.args.day *ℤ pos 86400) 86400 c.count.result = search rules in
    count-same (Holds c.args.seconds.now) (Holds all) (c.args.day *ℤ pos 86400) 86400 c.count.result
    (λ t a. let b = left t a.0 in (b.1, b.0)) counted
