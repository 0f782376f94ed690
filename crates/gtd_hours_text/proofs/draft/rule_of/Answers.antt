-- The kinds of the rule are years, months and dates, weeks, and weekdays, in this order, each if the draft has any.
use Rattle.std.proofs.Common.{refl}
use Rattle.gtd_hours.specs.declared.hours.Rule.{Rule}
use Rattle.gtd_hours_text.specs.Standing.{kind_if}
use Rattle.gtd_hours_text.proofs.DraftLemmas.{four_kinds, ruled}
use Rattle.gtd_hours_text.proofs.draft.rule_of.Goals as goal

pub returns : goal.returns
returns c = λ p is.
    let rule : Rule = record {
      link = c.args.draft.link;
      kinds = c.in_ok-kinds.kinds;
      times = c.args.draft.times;
      modifier = c.modifier_of.result;
    } in
    let kinds = four_kinds c.new-none.result.items c.in_ok-years.years.items c.in_ok-month_days.month_days.items
    c.in_ok-weeks.weeks.items c.in_ok-kinds.kinds.items (kind_if c.args.draft.years.items)
    (kind_if c.args.draft.month_days.items) (kind_if c.args.draft.weeks.items) (kind_if c.in_ok-weekdays.weekdays.items)
    c.new-none.ensures.items c.in_ok-years.ensures c.in_ok-month_days.ensures c.in_ok-weeks.ensures
    c.in_ok-kinds.ensures in
    ruled p c.args.draft rule c.in_ok-weekdays.weekdays.items c.in_ok-weekdays.ensures is refl kinds refl c.modifier_of.ensures
