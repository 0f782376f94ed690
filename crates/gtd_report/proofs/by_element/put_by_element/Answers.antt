-- There are at most two elements for each row, and the list that is put is that of all elements.
use Rattle.std.proofs.Common.{arith}
use Rattle.gtd_report.specs.facts.ElementFacts.{few_elements}
use Rattle.gtd_report.proofs.by_element.put_by_element.Goals as goal

pub put_listed-requires-clause-few : goal.put_listed-requires-clause-few
put_listed-requires-clause-few g c =
    let few = few_elements c.args.found.now c.elements.result.now c.elements.ensures.named in
    omega (arith, few, c.requires.few)

pub returns-clause-puts : goal.returns-clause-puts
returns-clause-puts g c = c.put_listed.ensures.puts c.args.found.now c.elements.ensures.named
