-- The bytes from the row's place on are its text, so their first line is the first line of the row.
use Rattle.std.proofs.Common.{◌≡◌, ◌∙◌, ap, drop}
use Rattle.csv.proofs.WriteFacts.{slice-end}
use Rattle.gtd_faults.specs.Hints.{first_line}
use Rattle.gtd_faults.specs.Places.{row_text}
use Rattle.gtd_faults.proofs.row.Row.whole.Goals as goal

pub returns : goal.returns
returns c = record {
  whole = λ bytes is.
      let at = c.args.self.now.place.at in
      let text : drop at c.args.self.now.bytes.now ≡ row_text bytes c.args.self.now.number =
      ap (drop at) is.text ∙ is.place.begins in
      let all = rw (slice-end c.args.self.now.bytes.now at) at c.first_line-line.ensures.value in
      let line : c.first_line-line.result.now ≡ first_line (row_text bytes c.args.self.now.number) = all ∙ ap first_line text in
      rw (is.given) (rw line at c.around.ensures.around, c.len.ensures);
}
