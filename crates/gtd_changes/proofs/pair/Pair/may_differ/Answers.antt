-- An element that the sorted list of differing ones does not hold has the same rows in both files.
use Rattle.std.proofs.Common.{◌∙◌, sym}
use Rattle.gtd_changes.proofs.RowFacts.{not_listed}
use Rattle.gtd_changes.proofs.pair.Pair.may_differ.Goals as goal

pub returns : goal.returns
returns c = record {
  alike = λ e. c.args.self.now.alike c.args.element
      (not_listed c.args.self.now.differing.items c.args.element c.binary_search.result
      (rw (c.deref.ensures.value) at c.binary_search.ensures.position) c.args.self.now.ascending
      (sym c.is_ok.ensures.value ∙ e));
}
