-- A day of the known month differs in its two last digits alone; any other day is written whole.
use Rattle.std.proofs.Common.{ap, ◌≡◌, ◌∙◌, ◌++◌, ℤ, ℕ, List, take, drop, sym, unsigned_abs}
use Rattle.gtd_calendar.specs.ComputedDates.{year_of, month_of}
use Rattle.gtd_calendar.specs.Stamp.{date_text, two_digits, ymd_text}
use Rattle.gtd_core.specs.Seconds.{day_of_second}
use Rattle.gtd_schedule.proofs.MonthDays.{other_day, other_month}
use Rattle.gtd_schedule.proofs.moment.write_day.Goals as goal

written : (text new rest : List ℕ) (n : ℤ) (d : ℕ) → text ≡ date_text n ++ rest
    → new ≡ take 8 text ++ (two_digits d ++ drop 10 text)
    → new ≡ ymd_text (unsigned_abs (year_of n)) (month_of n) d ++ drop 10 text
written text new rest n d e f = f ∙ ap (λ (l : List ℕ). take 8 l ++ (two_digits d ++ drop 10 text)) e

pub place_in_month-requires-clause-month : goal.place_in_month-requires-clause-month
place_in_month-requires-clause-month c = let o = c.requires.month in (o.day, o.in_calendar, o.of)

pub returns-in-Some-clause-text : goal.returns-in-Some-clause-text
returns-in-Some-clause-text c =
    let o = c.requires.month in
    let is = c.in-Some.ensures.day in
    written c.args.text.now c.write_two.new.text o.rest o.day c.in-Some.at.day o.is c.write_two.ensures.text
    ∙ ap (λ (l : List ℕ). l ++ drop 10 c.args.text.now)
    (sym (other_day o.day c.args.month.now o.of (day_of_second c.args.second.0) c.in-Some.at.day is))

pub returns-in-Some-clause-month : goal.returns-in-Some-clause-month
returns-in-Some-clause-month c =
    let o = c.requires.month in
    let is = c.in-Some.ensures.day in
    other_month o.day c.args.month.now o.of (day_of_second c.args.second.0) c.in-Some.at.day is
