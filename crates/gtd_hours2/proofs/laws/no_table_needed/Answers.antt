use Rattle.gtd_hours2.proofs.Tables.{open_after}
use Rattle.gtd_hours2.proofs.laws.no_table_needed.Goals as goal

pub returns : goal.returns
returns c = λ start years clocks rules s none.
    open_after c.T.HolidayDays.is_holiday c.U.HolidayDays.is_holiday years clocks rules ⊥ ⊥ ⊥ ⊥ s none ((λ o. o), (λ o. o)) ((λ o. o), (λ o. o))
