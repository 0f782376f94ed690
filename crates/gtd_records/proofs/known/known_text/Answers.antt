-- Copies of a text and of the domain it stands for stand for each other too.
use Rattle.std.proofs.Common.{◌≡◌, sym}
use Rattle.gtd_records.proofs.DomainTexts.{moved}
use Rattle.gtd_records.proofs.known.known_text.Goals as goal

pub invariant_of-result : goal.invariant_of-result
invariant_of-result c =
    let kept : c.extend_from_slice.new.self.items ≡ c.args.text.now =
    rw (c.new-bytes.ensures.items) at c.in_ok-extend_from_slice.ensures.items in
    moved c.args.text.now c.extend_from_slice.new.self.items _ _ (sym kept) c.in_ok-domain.ensures
    (c.requires.found, c.requires.faultless)
