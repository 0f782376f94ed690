-- The line of a row has its own element, directions and domain, and its vehicle types as they are named.
use Rattle.std.proofs.Common.{◌∙◌, ap, refl, Option}
use Rattle.std.specs.Prelude.{option_map}
use Rattle.gtd_core.specs.Parts.{domain_tree}
use Rattle.gtd_core.specs.declared.domain.Domain.{Domain}
use Rattle.gtd_records.specs.facts.LentDomains.{lent_domain}
use Rattle.gtd_conditional_file.proofs.PutFacts.{is_line}
use Rattle.gtd_conditional_file.proofs.putting.write_line.Goals as goal

pub returns-clause-line : goal.returns-clause-line
returns-clause-line c =
    let same = lent_domain c.as_ref.result ∙ ap (λ (d : Option Domain). option_map domain_tree d) c.as_ref.ensures.value in
    is_line c.write_row.result c.args.row.now _ c.write_row.new.line.items
    (record { element = refl; closed = refl; vehicles = c.in_ok-vehicles.ensures; domain = refl })
    (rw same at c.write_row.ensures.text)
