-- A domain that repeats shows each change within its period and the second's day: if none is there, none ever comes.
use Rattle.std.proofs.Common.{◌≡◌, arith, true, false, inl, inr}
use Rattle.std.specs.Prelude.{◌+ℤ◌, ◌<ℤ◌}
use Rattle.std.proofs.lemmas.Int.{ints}
use Rattle.gtd_core.specs.Parts.{domain_tree}
use Rattle.gtd_core.specs.Whole.{whole}
use Rattle.gtd_eval.specs.Ever.{cycle, week}
use Rattle.gtd_eval.specs.Membership.{InDomain, SomeGivesYear}
use Rattle.gtd_eval.specs.facts.Repeats.{tree-repeats, changes-after}
use Rattle.gtd_eval.specs.facts.WeekFacts.{tree-weekly, changes-after-week}
use Rattle.gtd_eval.proofs.ever.next_change_ever.Goals as goal

pub returns-in-Ok-next_change-clause-change : goal.returns-in-Ok-next_change-clause-change
returns-in-Ok-next_change-clause-change c =
    let none : SomeGivesYear (domain_tree c.args.domain.now) → ⊥ =
    λ g. (let b : c.gives_year.result ≡ true = c.gives_year.ensures.given.1 (rw c.expr.ensures.value g) in
    let f : c.gives_year.result ≡ false = c.if-gives_year.false in cc) in
    let d = c.day-day.ensures.on_day in
    let z = c.in-Ok.ensures.horizon in
    elim c.days_to_repeat.ensures.days [
      | inl long ↦
          let far : (c.args.second.0 +ℤ cycle) <ℤ (whole c.in-Ok.horizon).until = omega (arith, ints, d.0, d.1, z.1, long) in
          changes-after (InDomain c.args.domain.now) (λ t. tree-repeats (domain_tree c.args.domain.now) t none) c.args.second.0
          (whole c.in-Ok.horizon).until far c.in-Ok-next_change.change c.in-Ok-next_change.ensures.change
      | inr w ↦
          let short = w.0 in
          let far : (c.args.second.0 +ℤ week) <ℤ (whole c.in-Ok.horizon).until = omega (arith, ints, d.0, d.1, z.1, short) in
          changes-after-week (InDomain c.args.domain.now) (λ t.
          tree-weekly (domain_tree c.args.domain.now) t (rw c.expr-2.ensures.value at w.1)) c.args.second.0
          (whole c.in-Ok.horizon).until far c.in-Ok-next_change.change c.in-Ok-next_change.ensures.change
    ]
