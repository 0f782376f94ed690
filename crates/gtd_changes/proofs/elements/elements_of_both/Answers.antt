-- If both files name the same elements, either list is that of both; otherwise the two lists are merged.
use Rattle.std.proofs.Common.{◌≡◌, rules, subst, sym, List, ℕ}
use Rattle.std.proofs.lemmas.Result.{IfOk-weaker}
use Rattle.gtd_records.specs.Closing.{AreElements}
use Rattle.gtd_changes.proofs.SortedNumbers.{either_elements, same_elements}
use Rattle.gtd_changes.proofs.elements.elements_of_both.Goals as goal

pub returns-then-eq : goal.returns-then-eq
returns-then-eq c =
    let first = c.elements-first.result.now in
    let e : first ≡ c.elements-second.result.now = search rules in
    record {
      named = IfOk-weaker c.from_slice.result _ _
          (λ numbers same. rw same (same_elements c.args.old.now c.args.new.now first c.elements-first.ensures.named
          (subst (λ (xs : List ℕ). AreElements c.args.new.now xs) (sym e) c.elements-second.ensures.named)))
          c.from_slice.ensures.items;
    }

pub returns : goal.returns
returns c = record {
  named = IfOk-weaker c.either.result _ _
      (λ numbers set. either_elements c.args.old.now c.args.new.now c.elements-first.result.now c.elements-second.result.now
      numbers.items c.elements-first.ensures.named c.elements-second.ensures.named set)
      c.either.ensures.same;
}
