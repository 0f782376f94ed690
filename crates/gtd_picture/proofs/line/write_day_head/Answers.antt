-- The line begins with its group, its date, its weekday and its whole column, since the day fits its type.
use Rattle.std.proofs.Common.{rules, ◌≡◌, ◌++◌, FitsSigned, to_z, of_z, w64, to_z-of_z}
use Rattle.std.specs.Prelude.{codes}
use Rattle.gtd_calendar.specs.Calendar.{weekday_of}
use Rattle.gtd_calendar.specs.Stamp.{date_text}
use Rattle.gtd_picture.specs.Picture.{group_text, is_weekend, rect_text, whole_column}
use Rattle.gtd_picture.specs.Words.{weekday_name}
use Rattle.gtd_picture.proofs.Made.{then_three}
use Rattle.gtd_picture.proofs.line.write_day_head.Goals as goal

pub returns : goal.returns
returns c =
    let day = c.args.day in
    let fits : FitsSigned w64 day = search rules in
    let same : to_z w64 (of_z w64 day) ≡ day = to_z-of_z fits in
    record {
      head = then_three
          (group_text (is_weekend (weekday_of day)) ++ date_text day ++ codes " " ++ weekday_name (weekday_of day))
          c.write_name.new.line.items c.write_column.new.line.items
          (codes "</title><path class='out' d='") (rect_text (whole_column c.args.place)) (codes "'/><path class='in' d='")
          (rw same at c.in_ok-write_name.ensures.name) c.in_ok-write_column.ensures.column;
    }
