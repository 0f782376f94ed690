-- A domain without years that does not change within the days after which it repeats never changes.
use Rattle.std.proofs.Common.{arith}
use Rattle.std.proofs.lemmas.Int.{ints}
use Rattle.std.proofs.lemmas.Result.{IfOk-weaker}
use Rattle.gtd_core.specs.Parts.{domain_tree}
use Rattle.gtd_core.specs.Whole.{whole}
use Rattle.gtd_eval.proofs.ExtentLemmas.{varied-repeated}
use Rattle.gtd_eval.proofs.extent.is_varied_ever.Goals as goal

pub returns : goal.returns
returns c =
    let tree = domain_tree c.args.domain.now in
    let days = c.days_between.result in
    record {
      varied = IfOk-weaker c.changes_in.result _ _ (λ found.
          varied-repeated tree (whole days).from (whole days).until c.days_to_repeat-repeated.result found c.requires.no_year
          (omega (arith, ints, c.days_between.ensures.first))
          (omega (arith, ints, c.days_between.ensures.last, c.days_to_repeat-repeated.ensures.days))
          (rw c.expr.ensures.value at c.days_to_repeat-repeated.ensures.days)) c.changes_in.ensures.changes;
    }
