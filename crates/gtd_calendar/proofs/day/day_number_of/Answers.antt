-- The difference to 1970-01-01 that `jiff` counts in days is the number of the day.
use Rattle.std.proofs.Common.{arith, rules, ◌≡◌, ◌∙◌, sym, to_z, of_z, w64}
use Rattle.jiff.specs.Types.{Day}
use Rattle.jiff.specs.Words.{IsDateDifference}
use Rattle.jiff.proofs.SpanFacts.{signed_arith}
use Rattle.jiff.proofs.Family.{epoch_day_range}
use Rattle.gtd_calendar.specs.facts.JiffLemmas.{amount-theirs, epoch_day-start, days_from_civil-civil}
use Rattle.gtd_calendar.proofs.day.day_number_of.Goals as goal

pub returns-clause-value : goal.returns-clause-value
returns-clause-value c =
    let until = c.until.ensures.value (search rules) (search rules) in
    let is : IsDateDifference Day c.date.result c.args.date c.unwrap.result = rw c.unwrap.ensures at until in
    let days = amount-theirs c.date.result c.args.date c.unwrap.result (epoch_day-start c.date.result c.date.ensures) is
    in
    let same : to_z w64 (of_z w64 c.from.result) ≡ c.get_days.result = omega (arith, signed_arith) in
    same ∙ c.get_days.ensures ∙ days

pub returns-clause-bound : goal.returns-clause-bound
returns-clause-bound c =
    let same = returns-clause-value c ∙ sym (days_from_civil-civil c.args.date) in
    rw same (epoch_day_range c.args.date)
