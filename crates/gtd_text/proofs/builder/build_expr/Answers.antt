-- After each token the state is that of the definition, so the tree at the end is the one the tokens build.
use Rattle.std.proofs.Common.{◌≡◌, ℕ, ◌≤◌, Option, Some, None, length, ap, subst, ◌∙◌, arith}
use Rattle.std.specs.Prelude.{IfSome, IsSome, MatchOption}
use Rattle.std.proofs.lemmas.Result.{IfOk-weaker}
use Rattle.gtd_core.specs.Trees.{tree_of}
use Rattle.gtd_text.specs.declared.builder.state.State.{State as Stage}
use Rattle.gtd_text.specs.Building.{finish}
use Rattle.gtd_text.specs.BuilderStates.{opened, stage_of}
use Rattle.gtd_text.specs.Reached.{Reached}
use Rattle.gtd_text.specs.ToCome.{Builds, IsBuildable}
use Rattle.gtd_text.proofs.BuildLemmas.{builds, front, if_there, is_there, none_finishes}
use Rattle.gtd_text.proofs.StepLemmas.{opened_nil}
use Rattle.gtd_text.proofs.builder.build_expr.Goals as goal

pub loop-token-init : goal.loop-token-init
loop-token-init c =
    let empty = ap opened c.new-outer.ensures.items ∙ opened_nil in
    record {
      inside = omega arith;
      reached = front c.args.text.now (opened c.new-outer.result.items) _ empty
          (c.nothing-state.ensures (opened c.new-outer.result.items));
    }

pub loop-token-preserved : goal.loop-token-preserved
loop-token-preserved c =
    let text = c.args.text.now in
    let new = opened c.next_state.new.outer.items in
    record {
      inside = subst (λ (o : Option (Stage × ℕ)). IfSome o (λ after. after.1 ≤ length text)) c.in-Some-2.is
          c.in_ok-after.ensures.inside;
      reached = subst (λ (o : Option (Stage × ℕ)). MatchOption o (IsBuildable text → ⊥)
          (λ after. Reached text after.1 (stage_of new after.0))) c.in-Some-2.is
          (c.in_ok-after.ensures.found c.loop-token.place c.loop-token.invariant.reached c.in-Some.ensures.next
          c.in-Some.ensures.there);
    }

pub returns-in-None-clause-only : goal.returns-in-None-clause-only
returns-in-None-clause-only c b =
    let text = c.args.text.now in
    let new = opened c.next_state.new.outer.items in
    let none : IsBuildable text → ⊥ =
    subst (λ (o : Option (Stage × ℕ)). MatchOption o (IsBuildable text → ⊥)
    (λ after. Reached text after.1 (stage_of new after.0))) c.in-None.is
    (c.in_ok-after.ensures.found c.loop-token.place c.loop-token.invariant.reached c.in-Some.ensures.next
    c.in-Some.ensures.there) in
    absurd (none b)

pub returns-clause-built : goal.returns-clause-built
returns-clause-built c =
    let text = c.args.text.now in
    let state = stage_of (opened c.loop-token.outer.items) c.loop-token.state in
    IfOk-weaker c.finish.result
    (λ found. MatchOption found (finish state ≡ None) (λ expr. finish state ≡ Some (tree_of expr)))
    (λ found. IfSome found (λ expr. Builds text (tree_of expr)))
    (λ found h. if_there found (finish state ≡ None) (λ expr. finish state ≡ Some (tree_of expr))
    (λ expr. Builds text (tree_of expr))
    (λ expr is. builds text c.loop-token.place state (tree_of expr) c.loop-token.invariant.reached
    (c.ends_at.ensures.0 c.if-not-ends_at.false) is) h) c.finish.ensures

pub returns-clause-only : goal.returns-clause-only
returns-clause-only c b =
    let text = c.args.text.now in
    let state = stage_of (opened c.loop-token.outer.items) c.loop-token.state in
    IfOk-weaker c.finish.result
    (λ found. MatchOption found (finish state ≡ None) (λ expr. finish state ≡ Some (tree_of expr))) (λ found. IsSome found)
    (λ found h. is_there found (finish state ≡ None) (λ expr. finish state ≡ Some (tree_of expr))
    (λ none. none_finishes text c.loop-token.place state c.loop-token.invariant.reached c.in_default.ensures.next none b) h)
    c.finish.ensures
