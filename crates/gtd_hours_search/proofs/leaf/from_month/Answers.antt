use Rattle.gtd_hours_search.proofs.leaf.from_month.Goals as goal

-- so many months from one to another are found
pub returns-in_err-months-clause-months : goal.returns-in_err-months-clause-months
returns-in_err-months-clause-months c last first_in last_in one none count =
    absurd (c.in_err-months.ensures last first_in last_in count)

-- months and days from one date to another are found
pub returns-in_err-dates-clause-dates : goal.returns-in_err-dates-clause-dates
returns-in_err-dates-clause-dates c first last month day few one stretch =
    absurd (c.in_err-dates.ensures first last month day few one stretch)
