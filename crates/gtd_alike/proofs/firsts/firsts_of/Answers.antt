-- At each turn each thing passed has an earlier one that is like it, or itself.
use Rattle.std.proofs.Common.{arith, sym, length-append, ℕ, [], ◌∷◌}
use Rattle.gtd_alike.specs.Firsts.{IsEarlier}
use Rattle.gtd_alike.proofs.ListFacts.{all_more}
use Rattle.gtd_alike.proofs.firsts.firsts_of.Goals as goal

pub loop-at-preserved : goal.loop-at-preserved
loop-at-preserved g c =
    let inv = c.loop-at.invariant in
    let firsts = c.loop-at.firsts.items in
    let first = c.first_of-first.result in
    let l = length-append firsts (first ∷ []) in
    record {
      many = rw c.in_ok-push.ensures.items (omega (arith, l, inv.many));
      each = rw c.in_ok-push.ensures.items
          (all_more (λ (k n : ℕ). IsEarlier (g.L.Likeness.alike c.args.things.now) n k) firsts first c.loop-at.at (sym inv.many)
          c.first_of-first.ensures.first inv.each);
    }
