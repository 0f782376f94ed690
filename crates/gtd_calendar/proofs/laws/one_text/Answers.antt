-- The computed texts of days and seconds meet their definitions, and any other text equals them.
use Rattle.gtd_calendar.specs.facts.DateTexts.{date_text-is, date_text-only}
use Rattle.gtd_calendar.specs.facts.StampTexts.{stamp_text-is, stamp_text-only}
use Rattle.gtd_calendar.proofs.laws.one_text.Goals as goal

pub returns : goal.returns
returns c = record { date = date_text-is; date_only = date_text-only; stamp = stamp_text-is; stamp_only = stamp_text-only }
