-- A domain without years that some second is in comes again.
use Rattle.gtd_core.specs.Parts.{domain_tree}
use Rattle.gtd_warnings.proofs.OverFacts.{repeats_on}
use Rattle.gtd_warnings.proofs.days.rule_of_some.Goals as goal

pub returns-then-not-gives_year : goal.returns-then-not-gives_year
returns-then-not-gives_year c =
    let given = rw c.expr.ensures.value at c.gives_year.ensures.given in
    let no = c.if-not-gives_year.true in
    record {
      found = repeats_on (domain_tree c.args.domain.now) c.args.days (λ year. let yes = given.1 year in absurd cc)
          c.requires.some;
    }
