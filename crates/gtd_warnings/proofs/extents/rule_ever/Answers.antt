-- A domain without years that some second is in, and some is not, comes again, and neither never nor always holds.
use Rattle.gtd_core.specs.Parts.{domain_tree}
use Rattle.gtd_warnings.proofs.OverFacts.{sometimes}
use Rattle.gtd_warnings.proofs.extents.rule_ever.Goals as goal

pub returns-in-Sometimes : goal.returns-in-Sometimes
returns-in-Sometimes c = record {
  found = sometimes (domain_tree c.args.domain.now) c.requires.no_year (rw c.in-Sometimes.is at c.in_ok-extent_of.ensures.extent);
}
