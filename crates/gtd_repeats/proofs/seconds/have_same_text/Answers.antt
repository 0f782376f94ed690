-- A row without a domain has the text of such rows alone; two domains have the same text if they are the same tree.
use Rattle.std.proofs.Common.{◌≡◌, Some, refl}
use Rattle.std.specs.Prelude.{option_map}
use Rattle.gtd_core.specs.Parts.{domain_tree}
use Rattle.gtd_repeats.proofs.TextFacts.{text_same}
use Rattle.gtd_repeats.proofs.seconds.have_same_text.Goals as goal

pub returns-in-Some-second : goal.returns-in-Some-second
returns-in-Some-second c =
    let one = c.in-Some.domain.now in
    let other = c.in-Some-second.other.now in
    let e : option_map (λ d. domain_tree d.now) c.args.first ≡ Some (domain_tree one) = rw (c.in-Some.is) refl in
    let f : option_map (λ d. domain_tree d.now) c.args.second ≡ Some (domain_tree other) = rw (c.in-Some-second.is) refl in
    record { same = text_same one other _ _ c.eq.result e f c.eq.ensures }
