-- What the spans say of the second of the week is so of the second too, since the domain repeats weekly.
use Rattle.gtd_records.proofs.WeekFacts.{in-tree}
use Rattle.gtd_records.proofs.week.holds_weekly.Goals as goal

pub returns : goal.returns
returns c tree is =
    let held = in-tree tree c.args.week.now is c.args.second.0 in
    let asked = rw (c.spans.ensures.value, c.second_of_week.ensures) at c.spans_hold.ensures in
    ((λ h. held.0 (asked.0 h)), (λ t. asked.1 (held.1 t)))
