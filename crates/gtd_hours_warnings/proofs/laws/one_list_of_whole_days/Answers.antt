-- A text has one text in which a range of times stands for each form of times.
use Rattle.gtd_hours_warnings.proofs.OneList as proof
use Rattle.gtd_hours_warnings.proofs.laws.one_list_of_whole_days.Goals as goal

pub returns-clause-plain : goal.returns-clause-plain
returns-clause-plain c = proof.one_plain c.one_holiday_text.ensures.whole_days c.one_holiday_text.ensures.apart

pub returns-clause-all : goal.returns-clause-all
returns-clause-all c =
    proof.one_list c.one_holiday_text.ensures.whole_days c.one_holiday_text.ensures.apart c.one_moment_text.ensures.checked
    c.one_moment_text.ensures.places c.one_reading.ensures.apart
