-- An element is named by a record exactly if it is in the list of elements of all records.
use Rattle.std.proofs.Common.{rules, ◌↔◌, IsTrue}
use Rattle.std.specs.List.{Contains}
use Rattle.gtd_report.proofs.subject.names_element.Goals as goal

pub returns : goal.returns
returns c =
    let member : IsTrue c.contains.result ↔ Contains c.elements.result.now c.args.element = search rules in
    let named = c.elements.ensures.named.named c.args.element in
    record { named = ((λ h. named.0 (member.0 h)), (λ h. member.1 (named.1 h))) }
