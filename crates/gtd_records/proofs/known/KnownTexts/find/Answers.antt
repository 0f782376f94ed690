-- The kept domain stands for the kept text, which is byte for byte the one that is asked for.
use Rattle.std.proofs.Common.{◌≡◌, rules}
use Rattle.gtd_records.proofs.DomainTexts.{moved}
use Rattle.gtd_records.proofs.known.KnownTexts.find.Goals as goal

pub returns : goal.returns
returns c =
    let same : c.known.inside.text.items ≡ c.args.text.now = search rules in
    moved c.known.inside.text.items c.args.text.now _ _ same c.in_ok-domain.ensures c.known.invariant
