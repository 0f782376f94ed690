-- No second comes from the first day on, or none from 30 days later on, or some does.
use Rattle.std.proofs.Common.{FitsSigned, rules, to_z-of_z, w64}
use Rattle.gtd_core.specs.Parts.{domain_tree}
use Rattle.gtd_warnings.proofs.OverFacts.{over_late, over_soon}
use Rattle.gtd_warnings.proofs.days.rule_by_end.Goals as goal

pub returns-then-branch-2 : goal.returns-then-branch-2
returns-then-branch-2 c =
    let f : FitsSigned w64 c.from_day-day.result = search rules in
    let g : FitsSigned w64 c.soon_after-soon.result = search rules in
    let no = c.if-branch.false in
    record {
      found = over_soon (domain_tree c.args.domain.now) c.args.days c.from_day-day.result c.soon_after-soon.result
          c.from_day-day.ensures.value c.soon_after-soon.ensures.value c.requires.ended.years
          (λ none. let yes = c.in_ok-holds_none_from.ensures.none.1 (rw (to_z-of_z f) none) in absurd cc)
          (rw (to_z-of_z g) at (c.in_ok-holds_none_from-2.ensures.none.0 c.if-branch-2.true));
    }

pub returns : goal.returns
returns c =
    let f : FitsSigned w64 c.from_day-day.result = search rules in
    let g : FitsSigned w64 c.soon_after-soon.result = search rules in
    let no = c.if-branch.false in
    let not_soon = c.if-branch-2.false in
    record {
      found = over_late (domain_tree c.args.domain.now) c.args.days c.from_day-day.result c.soon_after-soon.result
          c.from_day-day.ensures.value c.soon_after-soon.ensures.value
          (λ none. let yes = c.in_ok-holds_none_from.ensures.none.1 (rw (to_z-of_z f) none) in absurd cc)
          (λ none. let yes = c.in_ok-holds_none_from-2.ensures.none.1 (rw (to_z-of_z g) none) in absurd cc);
    }
