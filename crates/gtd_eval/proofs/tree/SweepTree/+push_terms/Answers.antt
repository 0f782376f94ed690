-- The terms of both sides one after another are those of the expression; terms of another operator than the one asked
-- for are joined to one of their own.
use Rattle.std.proofs.Common.{rules, ◌≡◌, ◌∙◌, ◌-◌, sym, length, arith}
use Rattle.gtd_eval.proofs.Unions.{both-terms, count-of-terms}
use Rattle.gtd_eval.proofs.tree.SweepTree.+push_terms.Goals as goal

pub returns-then-eq : goal.returns-then-eq
returns-then-eq g t c =
    let same : c.in-Join.inner ≡ c.args.op = search rules in
    let none : c.push_term.new.cursors.items ≡ c.args.cursors.now.items = search rules in
    record {
      terms = rw (c.in-Join.is, ← same, ← none) (both-terms c.in-Join.inner _ _ _ c.in-Join.left.value c.in-Join.right.value
          _ _ _ _ c.deref.ensures c.deref-in-Join.ensures c.right_of.ensures
          c.in_ok-push_terms-in-Join.ensures.terms c.in_ok-push_terms-in-Join-2.ensures.terms);
    }

pub push_chain-requires-clause-chain : goal.push_chain-requires-clause-chain
push_chain-requires-clause-chain g t c =
    let both = both-terms c.in-Join.inner _ _ _ c.deref-in-Join-2.result.now c.deref-in-Join-3.result.now _ _ _ _
    (c.deref.ensures ∙ sym c.deref-in-Join-2.ensures) (c.deref-in-Join.ensures ∙ sym c.deref-in-Join-3.ensures) c.right_of.ensures
    c.in_ok-push_terms-in-Join.ensures.terms c.in_ok-push_terms-in-Join-2.ensures.terms in
    let many : c.len.result - c.len-before.result ≡ length both.terms =
    count-of-terms _ _ _ _ _ _ _ _ both (omega (arith, c.len.ensures)) (omega (arith, c.len-before.ensures)) in
    (c.push_term.new.cursors.items, both, many)

pub returns : goal.returns
returns g t c =
    let both = both-terms c.in-Join.inner _ _ _ c.deref-in-Join-2.result.now c.deref-in-Join-3.result.now _ _ _ _
    (c.deref.ensures ∙ sym c.deref-in-Join-2.ensures) (c.deref-in-Join.ensures ∙ sym c.deref-in-Join-3.ensures) c.right_of.ensures
    c.in_ok-push_terms-in-Join.ensures.terms c.in_ok-push_terms-in-Join-2.ensures.terms in
    let many : c.len.result - c.len-before.result ≡ length both.terms =
    count-of-terms _ _ _ _ _ _ _ _ both (omega (arith, c.len.ensures)) (omega (arith, c.len-before.ensures)) in
    let other : c.in-Join.inner ≡ c.args.op → ⊥ = search rules in
    let none : c.push_term.new.cursors.items ≡ c.args.cursors.now.items = search rules in
    record {
      terms = rw (c.in-Join.is, ← c.deref-in-Join-2.ensures, ← c.deref-in-Join-3.ensures, ← none)
          (c.push_chain.ensures.term c.args.op other c.push_term.new.cursors.items both many);
    }
