-- The years that are given are put to the warnings.
use Rattle.gtd_hours_warnings.proofs.MarkFacts.{years_put}
use Rattle.gtd_hours_warnings.proofs.marks.add_years.Goals as goal

pub returns-in_ok-warning-in-Some : goal.returns-in_ok-warning-in-Some
returns-in_ok-warning-in-Some c =
    years_put c.args.place c.args.years c.in-Some.years c.in_ok-warning-in-Some.warning c.put_in.result
    c.args.warnings.now.items c.put_in.new.warnings.items c.in-Some.is c.in_ok-warning-in-Some.ensures c.put_in.ensures
