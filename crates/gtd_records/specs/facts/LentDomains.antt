-- A domain that is lent has the same tree.
use Rattle.std.proofs.Common.{◌≡◌, refl, Bor, Option, Some, None}
use Rattle.std.specs.Prelude.{option_map}
use Rattle.std.specs.Option.{option_copied}
use Rattle.gtd_core.specs.Parts.{domain_tree}
use Rattle.gtd_core.specs.declared.domain.Domain.{Domain}

pub lent_domain : (r : Option (Bor Domain))
    → option_map (λ (d : Bor Domain). domain_tree d.now) r ≡ option_map domain_tree (option_copied r)
lent_domain None = refl
lent_domain (Some d) = refl
