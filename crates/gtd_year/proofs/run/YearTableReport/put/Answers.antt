-- Day after day from the first of the year on, the lines that are put are those of the table.
use Rattle.std.proofs.Common.{rules, pos}
use Rattle.std.proofs.lemmas.Result.{err_from_is_err_and}
use Rattle.gtd_calendar.specs.Calendar.{first_day, year_length}
use Rattle.gtd_records.specs.Closing.{IsOpen}
use Rattle.gtd_report.specs.facts.PutFacts.{puts_ended, puts_nothing, puts_text}
use Rattle.gtd_year.specs.YearTable.{IsYearTable}
use Rattle.gtd_year.proofs.DayFacts.{one_table}
use Rattle.gtd_year.proofs.CountLists.{counted_days, counts_few}
use Rattle.gtd_year.proofs.YearFacts.{days_put, weekly_put}
use Rattle.gtd_year.proofs.run.YearTableReport.put.Goals as goal

pub counts_of-requires-clause-weekly : goal.counts_of-requires-clause-weekly
counts_of-requires-clause-weekly g c = λ yes.
    let days = c.days_of_year-days.ensures in
    let set = IsOpen c.args.found.now c.args.self.now.element c.args.self.now.direction c.args.self.now.vehicle in
    weekly_put set c.days_of_year-days.result _ _ c.from_day-first.result c.to_day.result c.args.self.now.year
    (search rules) (search rules)
    c.in_ok-open.ensures.seconds c.new-seconds.ensures.value c.from_day-first.ensures.value c.to_day.ensures.value days.first
    days.next (c.is_open_weekly-weekly.ensures.weekly yes c.args.self.now.direction c.args.self.now.vehicle)

pub returns-in_err-counts-clause-puts : goal.returns-in_err-counts-clause-puts
returns-in_err-counts-clause-puts g c =
    let p = err_from_is_err_and c.from_residual-in_err-counts.result c.from_residual-in_err-counts.ensures.1 in
    rw (p.1) (λ lines is. puts_nothing p.0 (g.O.Output.taken c.args.output.now) c.args.printer.now.progress lines)

pub put_days-requires-clause-few : goal.put_days-requires-clause-few
put_days-requires-clause-few g c =
    rw (c.as_slice.ensures.value) (counts_few _ _ c.in_ok-counts.counts.items c.in_ok-counts.ensures.counts)

pub returns-in_err-put_days-clause-puts : goal.returns-in_err-put_days-clause-puts
returns-in_err-put_days-clause-puts g c =
    let p = err_from_is_err_and c.from_residual-in_err-put_days.result c.from_residual-in_err-put_days.ensures.1 in
    let y = pos c.args.self.now.year in
    let put = c.in_err-put_days.ensures.puts in
    let are = counted_days _ _ _ c.in_ok-counts.counts.items c.as_slice.result.now c.as_slice.ensures.value
    c.in_ok-counts.ensures.many c.in_ok-counts.ensures.counts in
    let days = c.days_of_year-days.ensures in
    let set = IsOpen c.args.found.now c.args.self.now.element c.args.self.now.direction c.args.self.now.vehicle in
    let table = days_put set c.days_of_year-days.result _ _ c.from_day-first.result c.to_day.result c.args.self.now.year
    _ (search rules) (search rules)
    c.in_ok-open.ensures.seconds c.new-seconds.ensures.value c.from_day-first.ensures.value c.to_day.ensures.value days.first
    days.next are in
    rw (p.1) (λ lines is. rw (one_table set (first_day y) (year_length y) lines _ is table) put)

pub returns-clause-puts : goal.returns-clause-puts
returns-clause-puts g c =
    let set = IsOpen c.args.found.now c.args.self.now.element c.args.self.now.direction c.args.self.now.vehicle in
    let put = c.in_ok-put_days.ensures.puts in
    let are = counted_days _ _ _ c.in_ok-counts.counts.items c.as_slice.result.now c.as_slice.ensures.value
    c.in_ok-counts.ensures.many c.in_ok-counts.ensures.counts in
    let table = days_put set c.days_of_year-days.result _ _ c.from_day-first.result c.to_day.result c.args.self.now.year
    _ (search rules) (search rules)
    c.in_ok-open.ensures.seconds c.new-seconds.ensures.value c.from_day-first.ensures.value c.to_day.ensures.value
    c.days_of_year-days.ensures.first c.days_of_year-days.ensures.next are in
    let taken = g.O.Output.taken in
    let y = pos c.args.self.now.year in
    puts_text (IsYearTable c.args.found.now c.args.self.now.element c.args.self.now.direction c.args.self.now.vehicle
    c.args.self.now.year) c.finish.result
    (taken c.args.output.now) (taken c.finish.new.output) c.args.printer.now.progress c.put_days.new.printer.progress _ table
    (λ other is. one_table set (first_day y) (year_length y) other _ is table)
    (puts_ended c.finish.result (taken c.args.output.now) (taken c.put_days.new.output) (taken c.finish.new.output)
    c.args.printer.now.progress c.put_days.new.printer.progress _ put c.finish.ensures.bytes)
