-- With each rule passed, what is told grows by that rule's mistake or stays as it is.
use Rattle.std.proofs.Common.{◌≡◌, ◌+◌, ◌∷◌, ◌++◌, [], List, subst, refl, arith, get_or, take, length, append_assoc}
use Rattle.std.proofs.lemmas.List.{take_all, take_more}
use Rattle.gtd_core.specs.Trees.{tree_of}
use Rattle.gtd_mistakes.specs.Told.{AreToldAt, told_at}
use Rattle.gtd_mistakes.specs.declared.rule.Rule.{Rule}
use Rattle.gtd_mistakes.specs.declared.rule.Rule.TheVariants as rule
use Rattle.gtd_mistakes.specs.declared.rule.TheConstants.{RULES}
use Rattle.gtd_mistakes.proofs.ToldFacts.{none_told, one_told}
use Rattle.gtd_mistakes.proofs.told.push_told_at.Goals as goal
use Rattle.gtd_mistakes.proofs.told.push_told_at.Goals.{then-is_told+in_ok-push, else-is_told}

pub loop-rule-preserved : goal.loop-rule-preserved
loop-rule-preserved c =
    let i = c.loop-rule.rule-index in
    let here = get_or RULES i rule.FirstOfMonth in
    let next : take (i + 1) RULES ≡ take i RULES ++ here ∷ [] = take_more RULES i rule.FirstOfMonth (omega arith) in
    let far = c.loop-rule.invariant in
    let row = c.args.place.row in
    let off = c.args.off.now in
    let whole = c.args.place.whole in
    let before = c.args.place.before in
    let tree = tree_of c.args.expr.now in
    let one = told_at row before tree here in
    elim c.if-is_told.branch [
      | then-is_told+in_ok-push w ↦
          let is = c.is_told.ensures.0 w.if-is_told.true in (
            far.0 ++ one ∷ [],
            rw next (one_told row off whole before tree here (take i RULES) far.0 far.1 is),
            rw (w.told-is, w.in_ok-push.ensures.items, far.2, c.first_part-part.ensures)
                (append_assoc c.args.told.now.items far.0 (one ∷ [])),
          )
      | else-is_told w ↦
          let no = w.if-is_told.false in (
            far.0,
            rw next (none_told row off whole before tree here (take i RULES) far.0 far.1
                (λ is. let yes = c.is_told.ensures.1 is in absurd cc)),
            rw w.told-is far.2,
          )
    ]

pub returns : goal.returns
returns c =
    let far = c.loop-rule.invariant in
    let many : length RULES ≡ 22 = refl in
    let all : take c.loop-rule.rule-index RULES ≡ RULES = take_all c.loop-rule.rule-index RULES (omega arith) in (
      far.0,
      subst (λ (rules : List Rule). AreToldAt c.args.place.row c.args.off.now c.args.place.whole c.args.place.before
          (tree_of c.args.expr.now) rules far.0) all far.1,
      far.2,
    )
