-- Where a text fails, the texts before it and its own first part are a first part of the whole.
use Rattle.std.proofs.Common.{◌≡◌, ◌∙◌, List, ℕ, sym, ap, subst, ◌++◌, take, drop, suc}
use Rattle.std.proofs.lemmas.Result.{err_from_is_err_and}
use Rattle.gtd_tool.specs.Writing.{AppendsPart, joined}
use Rattle.gtd_tool.proofs.WritingLemmas.{joined-at, part_more}
use Rattle.gtd_tool.proofs.writer.put_texts.Goals as goal

pub returns-in_err-put-clause-part : goal.returns-in_err-put-clause-part
returns-in_err-put-clause-part g c =
    let p = err_from_is_err_and c.from_residual.result c.from_residual.ensures.1 in
    let texts : joined c.args.texts.now ≡ joined (take c.loop-text.text-index c.args.texts.now)
    ++ (c.as_bytes.result.now ++ joined (drop (suc c.loop-text.text-index) c.args.texts.now)) =
    joined-at c.args.texts.now c.loop-text.text-index _ c.loop-text-test.true
    ∙ ap (λ (t : List ℕ). joined (take c.loop-text.text-index c.args.texts.now)
    ++ (t ++ joined (drop (suc c.loop-text.text-index) c.args.texts.now))) (sym c.as_bytes.ensures.value) in
    rw (p.1) (subst (AppendsPart _ _) (sym texts) (part_more _ _ _ _ _ _ c.loop-text.invariant c.in_err-put.ensures.part))
