-- A rule with ranges that move or Easter has more month days.
use Rattle.std.proofs.Common.{◌≡◌, ◌∙◌, ap, arith, length, subst, sym, Option, Some}
use Rattle.std.specs.Prelude.{IfOk}
use Rattle.std.specs.Vec.{vec_len}
use Rattle.gtd_hours_dated.specs.Dated.{IsDatedHours, More, more_of}
use Rattle.gtd_hours_known.specs.Easter.{month_days}
use Rattle.gtd_hours_known.proofs.EasterFacts.{some_days}
use Rattle.gtd_hours_known.proofs.GivenFacts.{not_none}
use Rattle.gtd_hours_known.proofs.easter.hours_with.Goals as goal
use Rattle.gtd_hours_known.proofs.easter.hours_with.Goals.{else-is_empty-via-else-is_empty}
use Rattle.gtd_hours_known.proofs.easter.hours_with.Goals.{else-is_empty-via-then-is_empty+else-is_empty-2}

pub returns-clause-hours : goal.returns-clause-hours
returns-clause-hours c =
    let from = c.args.from.now in
    let easter = c.args.easter.items in
    let some : length from.dates.items ≡ 0 → length from.easter.items ≡ 0 → ⊥ = elim c.else-is_empty.branch [
      | else-is_empty-via-then-is_empty+else-is_empty-2 w ↦
          λ d e. not_none (vec_len from.easter) w.if-is_empty-2.ensures (omega (arith, e))
      | else-is_empty-via-else-is_empty w ↦ λ d e. not_none (vec_len from.dates) w.if-is_empty.ensures (omega (arith, d))
    ] in
    let same : Some (more_of c.in_ok-more.more) ≡ month_days from easter =
    ap Some c.in_ok-more.ensures ∙ sym (some_days from.month_items.items from.dates.items from.easter.items easter some) in
    subst (λ (o : Option More). IfOk c.dated_hours.result (λ hours. IsDatedHours from.text.items o hours)) same
    (rw c.as_slice-2.ensures.value at c.dated_hours.ensures.hours)
