-- A search in halves finds an element exactly if it is asked about.
use Rattle.std.proofs.Common.{sym, ◌∙◌}
use Rattle.gtd_now.proofs.WantedFacts.{found_wanted, some_wanted}
use Rattle.gtd_now.proofs.now.is_wanted.Goals as goal

pub returns-in-Some : goal.returns-in-Some
returns-in-Some c = record {
  wanted = c.is_ok.ensures.value ∙ found_wanted c.args.ordered.now c.args.element c.binary_search.result
      c.binary_search.ensures.position c.requires.order ∙ sym (some_wanted c.args.ordered.now _ _ c.args.element
      c.in-Some.ensures.cases.0);
}
