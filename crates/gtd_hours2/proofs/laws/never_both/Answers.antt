use Rattle.gtd_hours2.proofs.Apart.{apart}
use Rattle.gtd_hours2.proofs.laws.never_both.Goals as goal

pub returns : goal.returns
returns c = λ start years clocks rules s. apart (record { holiday = c.T.HolidayDays.is_holiday; years = years; clocks = clocks }) rules ⊥ ⊥ s (λ o k. o)
