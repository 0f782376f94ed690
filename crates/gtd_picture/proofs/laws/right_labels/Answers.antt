-- Each label's date, name or place is worked out from the calendar or by plain sums.
use Rattle.std.proofs.Common.{ap, sym}
use Rattle.gtd_calendar.specs.facts.DateTexts.{date_text-is}
use Rattle.gtd_picture.specs.Words.{weekday_name}
use Rattle.gtd_picture.proofs.LabelFacts.{hour_there, month_day, tick_there}
use Rattle.gtd_picture.proofs.laws.right_labels.Goals as goal

pub returns-clause-date : goal.returns-clause-date
returns-clause-date c = date_text-is

pub returns-clause-weekday : goal.returns-clause-weekday
returns-clause-weekday c = λ day fields are. ap weekday_name (sym are.weekday)

pub returns-clause-month : goal.returns-clause-month
returns-clause-month c = month_day

pub returns-clause-tick : goal.returns-clause-tick
returns-clause-tick c = tick_there

pub returns-clause-hour : goal.returns-clause-hour
returns-clause-hour c = hour_there
