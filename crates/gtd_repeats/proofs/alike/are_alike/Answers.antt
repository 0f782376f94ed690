-- The comparison of each kind decides its own likeness: of texts, of seconds, or of whole rows.
use Rattle.std.proofs.Common.{◌≡◌, sym}
use Rattle.gtd_repeats.specs.declared.alike.Kind.TheVariants.{Seconds, Row}
use Rattle.gtd_repeats.proofs.alike.are_alike.Goals as goal

pub returns-in-Seconds : goal.returns-in-Seconds
returns-in-Seconds c =
    let is = c.in-Seconds.is in
    let e : c.args.kind ≡ Seconds = cc in
    record {
      alike = rw (e, sym c.domain-in-Seconds.ensures.domain, sym c.domain-in-Seconds-2.ensures.domain) c.hold_same.ensures.same;
    }

pub returns-in-Row : goal.returns-in-Row
returns-in-Row c =
    let is = c.in-Row.is in
    let e : c.args.kind ≡ Row = cc in
    record { alike = rw e c.is_same_row.ensures.same }
