use Rattle.std.proofs.Common.{◌≡◌, ◌∙◌, ◌+◌, ◌++◌, ◌<◌, ℕ, List, [], ◌∷◌, ap, refl, sym, map, take, get_or, length}
use Rattle.std.proofs.lemmas.List.{take_more}
use Rattle.clap.specs.Simple.{App, with_rule}
use Rattle.clap.specs.Walk.{Rule}
use Rattle.gtdesk_plans.specs.Arguments.{rule, with_rules}
use Rattle.gtdesk_plans.specs.declared.arguments.Argument.{Argument}
use Rattle.gtdesk_plans.proofs.arguments.with_arguments.Goals as goal

-- one argument more is one rule more
one_more : (app : App) (some : List Argument) (next : Argument) → with_rules app (map rule (some ++ next ∷ []))
    ≡ with_rule (with_rules app (map rule some)) (rule next)
one_more app [] next = refl
one_more app (first ∷ rest) next = one_more (with_rule app (rule first)) rest next

added : (app before after : App) (told : Rule) (all : List Argument) (i : ℕ) (d : Argument) → i < length all
    → before ≡ with_rules app (map rule (take i all)) → told ≡ rule (get_or all i d) → after ≡ with_rule before told
    → after ≡ with_rules app (map rule (take (i + 1) all))
added app before after told all i d within so is step =
    step ∙ ap (λ (r : Rule). with_rule before r) is ∙ ap (λ (a : App). with_rule a (rule (get_or all i d))) so
    ∙ sym (one_more app (take i all) (get_or all i d))
    ∙ ap (λ (some : List Argument). with_rules app (map rule some)) (sym (take_more all i d within))

pub loop-argument-preserved : goal.loop-argument-preserved
loop-argument-preserved c =
    added _ _ _ _ c.args.arguments.now c.loop-argument.argument-index _ c.loop-argument-test.true c.loop-argument.invariant
    c.arg_of.ensures.rule (c.in_ok-command.ensures.shape c.arg_of.ensures.local)
