use Rattle.gtd_hours_days2.proofs.simple.months.Goals as goal

pub returns-in-Some-clause-kept : goal.returns-in-Some-clause-kept
returns-in-Some-clause-kept c = λ known clocks n f fields.
    rw (c.in-Some.ensures.kept.0, c.in-Some.ensures.kept.1) ((λ h. h), (λ h. h))
