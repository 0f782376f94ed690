-- The date and the number, aligned to the right behind it, are the line of the day.
use Rattle.std.proofs.Common.{◌≡◌, ◌∙◌, ap, arith, ℕ, List, ◌++◌, length}
use Rattle.std.proofs.Common.{rules, FitsSigned, to_z, of_z, w64, to_z-of_z}
use Rattle.gtd_calendar.specs.Stamp.{date_text}
use Rattle.gtd_year.proofs.DayFacts.{made_line}
use Rattle.gtd_year.proofs.table.write_day_line.Goals as goal

pub returns : goal.returns
returns c =
    let fits : FitsSigned w64 c.args.day = search rules in
    let same : to_z w64 (of_z w64 c.args.day) ≡ c.args.day = to_z-of_z fits in
    let text : c.write_date.result ≡ date_text c.args.day = c.write_date.ensures.value ∙ ap date_text same in
    let date = c.in_ok-extend_from_slice.ensures.items
    ∙ ap (λ (l : List ℕ). l ++ c.write_date.result) c.clear.ensures.items ∙ text in
    let wide = ap length text in
    record {
      line = made_line c.args.day c.args.count _ c.as_bytes-digits.result.now
          c.extend_from_slice.new.self.items c.extend_from_slice-2.new.self.items c.resize.new.self.items
          c.extend_from_slice-3.new.self.items c.extend_from_slice-4.new.self.items
          c.requires.few (c.as_bytes-digits.ensures.value ∙ c.format.ensures.text) date c.in_ok-extend_from_slice-2.ensures.items
          (omega (arith, c.in_ok-extend_from_slice-2.ensures.len, c.in_ok-extend_from_slice.ensures.len, c.clear.ensures.len))
          c.in_ok-resize.ensures.items c.in_ok-extend_from_slice-3.ensures.items c.in_ok-extend_from_slice-4.ensures.items;
    }
