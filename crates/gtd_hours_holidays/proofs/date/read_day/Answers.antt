-- A text is a day exactly if its year, month and day are read and such a day exists, and it lies in the calendar.
use Rattle.std.proofs.Common.{rules, ◌≡◌, ◌∙◌, FitsSigned, to_z, of_z, w64, to_z-of_z, pos}
use Rattle.gtd_hours_holidays.proofs.DateFacts.{day_read}
use Rattle.gtd_hours_holidays.proofs.date.read_day.Goals as goal

pub returns-clause-day : goal.returns-clause-day
returns-clause-day c =
    let fits : FitsSigned w64 c.from.result = search rules in
    let year : to_z w64 (of_z w64 c.from.result) ≡ pos c.in_ok-year.year = to_z-of_z fits ∙ c.from.ensures in
    (day_read c.args.text.now c.in_ok-year.year c.in_ok-year.month c.in_ok-year.day c.day_of.result c.in_ok-year.ensures
    (rw year at c.day_of.ensures.exists) (rw year at c.day_of.ensures.date)).0

pub returns-clause-near : goal.returns-clause-near
returns-clause-near c =
    let fits : FitsSigned w64 c.from.result = search rules in
    let year : to_z w64 (of_z w64 c.from.result) ≡ pos c.in_ok-year.year = to_z-of_z fits ∙ c.from.ensures in
    (day_read c.args.text.now c.in_ok-year.year c.in_ok-year.month c.in_ok-year.day c.day_of.result c.in_ok-year.ensures
    (rw year at c.day_of.ensures.exists) (rw year at c.day_of.ensures.date)).1
