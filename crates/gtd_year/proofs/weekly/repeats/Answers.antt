-- The seconds of a domain repeat after a week if those of each of its basic domains do.
use Rattle.gtd_core.specs.Parts.{domain_tree}
use Rattle.gtd_eval.specs.facts.WeekFacts.{tree-weekly}
use Rattle.gtd_year.proofs.weekly.repeats.Goals as goal

pub returns-in-Some : goal.returns-in-Some
returns-in-Some c = λ yes t.
    rw (← (rw c.in-Some.is at c.domain.ensures.domain))
    (tree-weekly (domain_tree c.in-Some.domain.now) t (c.is_weekly.ensures.weekly.0 yes))
