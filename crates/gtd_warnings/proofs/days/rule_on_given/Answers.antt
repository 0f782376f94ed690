-- A domain that never holds is over by each day, and of one of which that was not found it does not hold.
use Rattle.gtd_core.specs.Parts.{domain_tree}
use Rattle.gtd_warnings.proofs.DayFacts.{not_never}
use Rattle.gtd_warnings.proofs.days.rule_on_given.Goals as goal

pub rule_of_some-requires : goal.rule_of_some-requires
rule_of_some-requires c =
    let no = c.if-is_never.false in
    record {
      some = not_never (domain_tree c.args.domain.now) c.args.throughout c.requires.throughout
          (λ is. let yes = c.is_never.ensures.never.1 is in absurd cc);
    }
