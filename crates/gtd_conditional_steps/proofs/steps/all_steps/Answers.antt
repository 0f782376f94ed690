-- The steps of one mode more. The rows between this mode of a tag and the next one add none.
use Rattle.std.proofs.Common.{◌≡◌, sym, subst, refl, List, [], ℕ, ◌≤◌, ◌+◌, arith, length, drop}
use Rattle.gtd_conditional_rows.specs.declared.step.Step.{Step}
use Rattle.gtd_conditional_steps.specs.Sayings.{Saying, said_before}
use Rattle.gtd_conditional_steps.specs.Steps.{AreStepsOf}
use Rattle.gtd_conditional_steps.specs.declared.tag.Tag.{Tag}
use Rattle.gtd_conditional_steps.proofs.ModeFacts.{AreFrom, IsSplit, SayTheRest, in_order, later_rest, least, most, passed_on}
use Rattle.gtd_conditional_steps.proofs.ModeFacts.{raised, split}
use Rattle.gtd_conditional_steps.proofs.StepLemmas.{added_here}
use Rattle.gtd_conditional_steps.proofs.steps.all_steps.Goals as goal

pub loop-mode-init : goal.loop-mode-init
loop-mode-init c =
    let rows = c.args.asked.means.now.rows.items in
    let way = c.args.asked.direction in
    let tags = c.args.tags.now in
    let end = c.len-end.result in
    let are = in_order tags c.requires.order in
    let e = c.next_mode-mode.ensures in
    let none = subst (λ (xs : List Step). AreStepsOf rows way [] xs) (sym c.new-steps.ensures.items) tt in
    record {
      low = rw e (most end tags);
      next = e;
      order = rw e (raised 0 end tags are);
      left = λ n from types way' conditional. refl;
      steps =
          rw e (subst (λ (said : List Saying). AreStepsOf rows way said c.new-steps.result.items)
          (passed_on 0 end c.args.subject rows way tags tags (omega arith) are (λ n from types way' conditional. refl)) none);
    }

pub loop-mode-preserved : goal.loop-mode-preserved
loop-mode-preserved c =
    let rows = c.args.asked.means.now.rows.items in
    let way = c.args.asked.direction in
    let tags = c.args.tags.now in
    let end = c.len-end.result in
    let mode = c.loop-mode.mode in
    let left = c.loop-mode.rest.now in
    let count = c.count_of.result in
    let so_far = c.loop-mode.invariant in
    let is = subst (λ (k : ℕ). IsSplit mode left k) (sym c.count_of.ensures.count) (split mode left so_far.order) in
    let later = c.split_at.result.1.now in
    let back : later ≡ drop count left = c.split_at.ensures.back in
    let order = subst (λ (l : List Tag). AreFrom (mode + 1) l) (sym back) is.order in
    let after = later_rest mode count left tags is so_far.left in
    let rest = subst (λ (l : List Tag). SayTheRest (mode + 1) l tags) (sym back) after in
    let room : mode + 1 ≤ end = omega arith in
    let far = least (mode + 1) end later room order in
    let e = c.next_mode-mode-in-loop-mode.ensures in
    let here =
    added_here c.args.subject rows mode count way left tags c.split_at.result.0.now is so_far.left c.split_at.ensures.front
    c.loop-mode.steps.items c.push_row.new.steps.items so_far.steps c.in_ok-push_row.ensures in
    record {
      low = rw e (most end later);
      next = e;
      order = rw e (raised (mode + 1) end later order);
      left = rw e (λ n from. rest n (omega (arith, far, from)));
      steps =
          rw e (subst (λ (said : List Saying). AreStepsOf rows way said c.push_row.new.steps.items)
          (passed_on (mode + 1) end c.args.subject rows way later tags room order rest) here);
    }

pub loop-mode-smaller : goal.loop-mode-smaller
loop-mode-smaller c =
    let rows = c.args.asked.means.now.rows.items in
    let end = c.len-end.result in
    let mode = c.loop-mode.mode in
    let left = c.loop-mode.rest.now in
    let count = c.count_of.result in
    let is =
    subst (λ (k : ℕ). IsSplit mode left k) (sym c.count_of.ensures.count) (split mode left c.loop-mode.invariant.order) in
    let later = c.split_at.result.1.now in
    let back : later ≡ drop count left = c.split_at.ensures.back in
    let order = subst (λ (l : List Tag). AreFrom (mode + 1) l) (sym back) is.order in
    let room : mode + 1 ≤ end = omega arith in
    let far = least (mode + 1) end later room order in
    let near = most end later in
    rw (c.next_mode-mode-in-loop-mode.ensures) (omega (arith, far, near, room))

pub returns : goal.returns
returns c =
    let rows = c.args.asked.means.now.rows.items in
    let way = c.args.asked.direction in
    let all : c.loop-mode.mode ≡ length rows = omega (arith) in
    subst (λ (n : ℕ). AreStepsOf rows way (said_before n c.args.subject rows way c.args.tags.now) c.loop-mode.steps.items) all
    c.loop-mode.invariant.steps
