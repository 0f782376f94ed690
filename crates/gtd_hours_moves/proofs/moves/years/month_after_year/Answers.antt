-- Where no day follows `2024 Dec`, the month begins a kind of its own behind the year, whatever token comes next.
use Rattle.gtd_hours_moves.proofs.GoodItems.{month_after_year_good}
use Rattle.gtd_hours_moves.proofs.moves.years.month_after_year.Goals as goal

pub returns-clause-good : goal.returns-clause-good
returns-clause-good c =
    λ next. rw (c.give.ensures) (month_after_year_good c.args.month next c.requires.sound)
