-- Equal basic domains stand for one and the same tree, so each second of one is in the other.
use Rattle.gtd_core.specs.Parts.{domain_tree}
use Rattle.gtd_difference.specs.Difference.{single_of}
use Rattle.gtd_difference.proofs.Inclusion.{equal-part}
use Rattle.gtd_difference.proofs.basics.is_basic_within.Goals as goal

pub returns-then-eq : goal.returns-then-eq
returns-then-eq c = record {
  shown = λ told.
      equal-part (single_of c.args.basic.now) (single_of c.args.other.now) (domain_tree c.single-alone.result)
      (domain_tree c.single-whole.result) c.eq.result c.single-alone.ensures.tree c.single-whole.ensures.tree c.eq.ensures
      c.if-eq.true;
}
