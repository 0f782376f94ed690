-- The one line tells a code that a single row names, at the line where that row begins and below it the field.
use Rattle.std.proofs.Common.{[], refl, sym, append-nil}
use Rattle.gtd_lines.specs.facts.OneLine.{line_of_place}
use Rattle.gtd_faults.proofs.codes.lone_text.Goals as goal

pub returns : goal.returns
returns c = λ bytes is.
    let row = c.args.row.now in (
      row.place.line,
      line_of_place bytes row.number row.place is.place,
      c.field.result,
      c.field.ensures.field bytes is,
      [],
      refl,
      rw (c.in_ok-push_lone.ensures, c.new-text.ensures.bytes) (sym (append-nil _)),
    )
