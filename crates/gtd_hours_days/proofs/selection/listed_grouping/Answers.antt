-- Selected days lie near the years, so their runs are short; groups and runs have exactly the days of the set.
use Rattle.gtd_hours_days.proofs.AdditionFacts.{some_near}
use Rattle.gtd_hours_days.proofs.CoverFacts.{all_short, is_written}
use Rattle.gtd_hours_days.proofs.selection.listed_grouping.Goals as goal

pub returns : goal.returns
returns c =
    let selected = c.in_ok-days.ensures.selected in
    let grouping = c.in_ok-found.ensures.grouping in
    let yearly = c.in_ok-found.found.yearly.items in
    let dated = c.in_ok-found.found.dated.items in
    record {
      grouped = (
        selected.0,
        (c.in_ok-days.days, selected.1, grouping),
        (λ n. let same = is_written c.in_ok-days.days c.args.years yearly dated grouping n in
            ((λ h. (selected.1 n).0 (same.1 h)), (λ h. same.0 ((selected.1 n).1 h)))),
        all_short c.in_ok-days.days c.args.years yearly dated grouping
            (λ n h. some_near c.args.holidays.now.rows.items c.args.years c.args.listed.now n ((selected.1 n).0 h)),
      );
    }
