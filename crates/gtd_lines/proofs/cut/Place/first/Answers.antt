-- The header begins behind the mark and the line ends before it, on the line that their line feeds count to.
use Rattle.std.proofs.Common.{◌+◌, arith, ap, ℕ}
use Rattle.csv.proofs.WriteFacts.{slice-end}
use Rattle.gtd_lines.proofs.PlaceFacts.{first_place}
use Rattle.gtd_lines.proofs.cut.Place.first.Goals as goal

pub returns : goal.returns
returns c =
    let bytes = c.args.bytes.now in
    let mark = c.mark_length-mark.result in
    let rest = rw (slice-end bytes mark) at c.line_ends.ensures.rest in
    record {
      place = first_place bytes mark c.line_ends.result (c.line_feeds.result + 1) c.mark_length-mark.ensures.rest (omega arith)
          rest (ap (λ (n : ℕ). n + 1) c.line_feeds.ensures.count);
    }
