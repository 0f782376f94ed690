-- The record's domain is the one that the row's fields stand for, so what is told of it is told of the row.
use Rattle.std.proofs.Common.{◌≡◌, sym, Some}
use Rattle.std.proofs.lemmas.Result.{IfOk-weaker}
use Rattle.csv.specs.Records.{fields_of}
use Rattle.gtd_core.specs.Parts.{domain_tree}
use Rattle.gtd_warnings.proofs.ReadFacts.{domain_read}
use Rattle.gtd_warnings.proofs.row.told_of_record.Goals as goal

pub returns-in-Some-clause-told : goal.returns-in-Some-clause-told
returns-in-Some-clause-told c = λ version is.
    let tree = domain_tree c.in-Some.domain.now in
    let same : c.args.found.now.domain ≡ Some tree =
    sym (rw c.in-Some.is at c.domain.ensures.domain) in
    IfOk-weaker c.told_of_domain.result _ _
    (λ told are. (Some tree, domain_read version c.args.number (fields_of c.args.row.now) c.args.found.now tree is same, are))
    c.told_of_domain.ensures.told
