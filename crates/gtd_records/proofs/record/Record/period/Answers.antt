-- A period found for the domain is one after which the record's seconds repeat.
use Rattle.gtd_core.specs.Parts.{domain_tree}
use Rattle.gtd_eval.specs.facts.PeriodFacts.{found-from}
use Rattle.gtd_records.proofs.record.Record.period.Goals as goal

pub returns : goal.returns
returns c = record {
  repeats = rw (← (rw c.in-Some.is at c.domain.ensures.domain)) (found-from c.period_of.result _
      (domain_tree c.in-Some.domain.now) c.period_of.ensures.period);
}
