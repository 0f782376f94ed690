-- The days are those of rows that have the holidays of the table.
use Rattle.gtd_hours_days.proofs.AdditionFacts.{some_same}
use Rattle.gtd_hours_days.proofs.selection.listed_days.Goals as goal

pub returns : goal.returns
returns c = record {
  selected = (
    c.in_default.ensures.first,
    (λ n. let same = some_same c.merged.result.now c.args.holidays.now.rows.items c.args.years c.merged.ensures.same
        c.args.listed.now n in
        let marked = c.in_ok-days.ensures n in ((λ h. same.0 (marked.0 h)), (λ h. marked.1 (same.1 h)))),
  );
}
