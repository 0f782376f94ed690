-- The month is its place, its line, its name and its days, each written behind the other.
use Rattle.std.proofs.Common.{◌∙◌, ap, ℕ, List, ◌++◌, ◌+◌, ◌*◌}
use Rattle.std.specs.Prelude.{codes, decimal}
use Rattle.gtd_picture.specs.Words.{month_name}
use Rattle.gtd_picture.specs.Picture.{ticks_text}
use Rattle.gtd_picture.proofs.Made.{five}
use Rattle.gtd_picture.proofs.head.write_month.Goals as goal

pub returns : goal.returns
returns c =
    let d = c.extend_from_slice-2.new.self.items in
    record {
      month = five c.args.line.now.items c.extend_from_slice.new.self.items c.write_number.new.line.items d
          c.extend_from_slice-3.new.self.items c.write_ticks.new.line.items
          (codes "<g transform='translate(") (decimal (72 + 3 * c.args.place))
          (codes " 0)'><path class='line' d='M0 72h1v456h-1z'/><text x='6' y='88'>") (month_name c.args.month) ticks_text
          c.in_ok-extend_from_slice.ensures.items
          (rw c.from.ensures at c.in_ok-write_number.ensures.number)
          c.in_ok-extend_from_slice-2.ensures.items
          (c.in_ok-extend_from_slice-3.ensures.items ∙ ap (λ (l : List ℕ). d ++ l) (c.as_bytes.ensures.value
          ∙ c.month_name.ensures.name))
          c.in_ok-write_ticks.ensures.ticks;
    }
