use Rattle.std.proofs.Common.{ap, ◌≡◌, ◌∙◌, ◌++◌, ℤ, ℕ, List, take, drop, sym, unsigned_abs}
use Rattle.std.proofs.lemmas.List.{drop-drop}
use Rattle.gtd_calendar.specs.ComputedDates.{year_of, month_of}
use Rattle.gtd_calendar.specs.Stamp.{date_text, two_digits, ymd_text}
use Rattle.gtd_core.specs.Seconds.{day_of_second}
use Rattle.gtd_schedule.specs.Moments.{IsMonthOf}
use Rattle.gtd_schedule.specs.declared.months.DatedMonth.{DatedMonth}
use Rattle.gtd_schedule.proofs.MonthDays.{other_day, other_month}
use Rattle.gtd_schedule.proofs.moment.write_other_month.Goals as goal

-- two bytes more are left out
twice : (text : List ℕ) → drop 2 (drop 8 text) ≡ drop 10 text
twice text = drop-drop 2 8 text

-- the month of a date that was computed
month_known : (known : DatedMonth) → IsMonthOf known.day known.month
month_known known = record { begins = known.begins; reached = known.reached }

-- the text, once the front of another was copied over its own, and a day written behind that
written : (text same front new other : List ℕ) (n : ℤ) (d : ℕ) → other ≡ date_text n → same ≡ take 8 other
    → front ≡ same → new ≡ take 8 (front ++ drop 8 text) ++ (two_digits d ++ drop 10 (front ++ drop 8 text))
    → new ≡ ymd_text (unsigned_abs (year_of n)) (month_of n) d ++ drop 10 text
written text same front new other n d e f g h =
    let is : front ≡ take 8 (date_text n) = g ∙ f ∙ ap (take 8) e in
    h ∙ ap (λ (l : List ℕ). take 8 (l ++ drop 8 text) ++ (two_digits d ++ drop 10 (l ++ drop 8 text))) is
    ∙ ap (λ (l : List ℕ). take 8 (date_text n) ++ (two_digits d ++ l)) (twice text)

pub returns-in-Some-place_in_month-clause-text : goal.returns-in-Some-place_in_month-clause-text
returns-in-Some-place_in_month-clause-text c =
    let known = c.in-Some.known.now in
    let is = c.in-Some-place_in_month.ensures.day in
    written c.args.text.now c.split_at.result.0.now c.copy_from_slice.new.self c.write_two.new.text known.date known.day
    c.in-Some-place_in_month.at.day known.is c.split_at.ensures.front c.copy_from_slice.ensures.after
    (rw (c.split_at_mut-front.ensures.back) at c.write_two.ensures.text)
    ∙ ap (λ (l : List ℕ). l ++ drop 10 c.args.text.now)
    (sym (other_day known.day known.month (month_known known) (day_of_second c.args.second.0) c.in-Some-place_in_month.at.day is))

pub returns-in-Some-place_in_month-clause-month : goal.returns-in-Some-place_in_month-clause-month
returns-in-Some-place_in_month-clause-month c =
    let known = c.in-Some.known.now in
    other_month known.day known.month (month_known known) (day_of_second c.args.second.0) c.in-Some-place_in_month.at.day
    c.in-Some-place_in_month.ensures.day
