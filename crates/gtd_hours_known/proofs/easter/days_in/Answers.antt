-- Of Easter a table need say nothing, so nothing is uncovered.
use Rattle.std.proofs.Common.{rules, ◌≡◌, ◌∙◌, subst, List, []}
use Rattle.gtd_hours_days.specs.declared.selection.ListedFault.TheVariants as fault
use Rattle.gtd_hours_days.specs.declared.listed.Listed.{Listed}
use Rattle.gtd_hours_known.specs.HolidayDays.{AreDaysIn}
use Rattle.gtd_hours_known.proofs.EasterFacts.{never_fault}
use Rattle.gtd_hours_known.proofs.easter.days_in.Goals as goal

pub unreachable-requires : goal.unreachable-requires
unreachable-requires c =
    let same : c.in-Err.why ≡ fault.Uncovered c.in-Uncovered.field-0 = search rules in
    never_fault c.none-table.result c.args.years c.args.easter.now c.as_slice.result.now c.in-Err.why
    c.in-Uncovered.field-0 same
    (c.as_slice.ensures.value ∙ c.in_ok-listed.ensures) c.in-Err.ensures.fault

pub returns-in-Ok-clause-days : goal.returns-in-Ok-clause-days
returns-in-Ok-clause-days c =
    subst (λ (listed : List Listed). AreDaysIn [] c.args.years listed c.in-Ok.days.items)
    (c.as_slice.ensures.value ∙ c.in_ok-listed.ensures)
    (rw c.none-table.ensures.none at c.in-Ok.ensures.days)
