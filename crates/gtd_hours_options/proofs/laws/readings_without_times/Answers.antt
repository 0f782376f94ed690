-- What is read without options for times is read so; a text without times has no times that need anything.
use Rattle.gtd_hours_options.specs.Reading.{known}
use Rattle.gtd_hours_options.proofs.WithoutTimes.{known_fault, only_known}
use Rattle.gtd_hours_options.proofs.laws.readings_without_times.Goals as goal

pub returns-clause-known : goal.returns-clause-known
returns-clause-known c = λ options text read stands. known stands

pub returns-clause-only : goal.returns-clause-only
returns-clause-only c =
    only_known c.one_moment_text.ensures.forms c.one_moment_text.ensures.told
    c.one_moment_text.ensures.breaks c.one_reading.ensures.apart

pub returns-clause-fault : goal.returns-clause-fault
returns-clause-fault c =
    known_fault c.one_moment_text.ensures.forms c.one_moment_text.ensures.told
    c.one_moment_text.ensures.breaks c.one_reading.ensures.apart
