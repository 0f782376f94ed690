-- None of the rules passed so far has the name, so none has it once all are passed.
use Rattle.std.proofs.Common.{◌≡◌, ◌≢◌, ◌∙◌, ◌+◌, ◌∷◌, ◌++◌, [], sym, subst, arith, get_or, take, Bool}
use Rattle.std.specs.Bool.{Decides}
use Rattle.std.proofs.lemmas.List.{take_more}
use Rattle.std.proofs.lemmas.Slice.Eq.{bytes_eq-Decides}
use Rattle.gtd_mistakes.specs.RuleNames.{name_of}
use Rattle.gtd_mistakes.specs.declared.rule.Rule.TheVariants as rule
use Rattle.gtd_mistakes.specs.declared.rule.TheConstants.{RULES}
use Rattle.gtd_mistakes.proofs.NameFacts.{one_more}
use Rattle.gtd_mistakes.proofs.rule.rule_of_name.Goals as goal

pub loop-rule-preserved : goal.loop-rule-preserved
loop-rule-preserved c =
    let i = c.loop-rule.rule-index in
    let here = get_or RULES i rule.FirstOfMonth in
    let next : take (i + 1) RULES ≡ take i RULES ++ here ∷ [] = take_more RULES i rule.FirstOfMonth (omega arith) in
    let d : Decides c.eq.result (c.name.result.now ≡ c.args.name.now) =
    subst (λ (r : Bool). Decides r (c.name.result.now ≡ c.args.name.now)) (sym c.eq.ensures)
    (bytes_eq-Decides c.name.result.now c.args.name.now) in
    let other : c.args.name.now ≢ name_of here =
    (λ e. let yes = d.1 (c.name.ensures.name ∙ sym e) in let no = c.if-eq.false in absurd cc) in
    rw next (one_more c.args.name.now (take i RULES) here c.loop-rule.invariant other)
