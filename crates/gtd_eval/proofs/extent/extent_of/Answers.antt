-- If membership differs from that at the first second, some seconds are in the domain and some are not.
use Rattle.std.proofs.Common.{arith}
use Rattle.std.proofs.lemmas.Int.{ints}
use Rattle.gtd_core.specs.Parts.{domain_tree}
use Rattle.gtd_eval.specs.Extent.{first_second}
use Rattle.gtd_eval.proofs.ExtentLemmas.{some}
use Rattle.gtd_eval.proofs.extent.extent_of.Goals as goal

pub returns-then-branch : goal.returns-then-branch
returns-then-branch c = record {
  extent = some (domain_tree c.args.domain.now) first_second (λ y. (omega (arith, ints), omega (arith, ints)))
      (rw c.if-branch.true at c.in_ok-is_varied.ensures.varied);
}
