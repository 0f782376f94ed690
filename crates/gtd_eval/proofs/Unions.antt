-- Chains of cursors by one operator, and a tree over two trees that are such chains.
use Rattle.std.proofs.Common.{◌≡◌, ◌↔◌, ℕ, zero, suc, ◌+◌, ◌-◌, ◌*◌, ◌/◌, ◌^◌, ◌<◌, ◌≤◌, List, [], ◌∷◌, ◌++◌, length, sym, ap}
use Rattle.std.proofs.Common.{refl, ◌∙◌, take, drop, append_assoc, subst, inl, inr, arith, length-append, max}
use Rattle.std.proofs.Math.Seq.{drop-append_seam, take-append_seam}
use Rattle.std.specs.Prelude.{ℤ, ◌+ℤ◌}
use Rattle.std.proofs.lemmas.Int.{ints}
use Rattle.gtd_core.specs.Seconds.{Interval, Within}
use Rattle.gtd_core.specs.Trees.{Tree, Single, Joined, leaf_count, tree_of}
use Rattle.gtd_core.specs.Whole.{whole}
use Rattle.gtd_core.specs.declared.domain.Expr.{Expr}
use Rattle.gtd_core.specs.declared.domain.Op.{Op}
use Rattle.gtd_core.specs.declared.domain.Op.TheVariants.{Union, Meet, Minus}
use Rattle.gtd_core.specs.declared.horizon.Horizon.{Horizon}
use Rattle.gtd_spans.specs.Normal.{Holds, IsIn, IsNormal, Combined, combine}
use Rattle.gtd_spans.specs.facts.Combining.{combine-holds}
use Rattle.gtd_spans.specs.facts.NormalFor.{combined-both, combined-in, normal-for, is-in}
use Rattle.gtd_eval.specs.Chains.{AllHold, ChainHolds, IsChainOf, IsChainOfLast, AreTerms}
use Rattle.gtd_eval.specs.Exprs.{right_of, IsBasic, IsBasicChain, IsOfExpr, expr_work}
use Rattle.gtd_eval.specs.Membership.{InTree, IsNormalOver}
use Rattle.gtd_eval.specs.Nodes.{node_whole, node_list, node_count, node_height, node_work}
use Rattle.gtd_eval.specs.Periods.{AllRepeat}
use Rattle.gtd_kept.specs.Repeating.{AreKept}
use Rattle.gtd_kept.specs.declared.repeat.Stage.TheVariants.{Learning}
use Rattle.gtd_eval.specs.facts.PeriodFacts.{tree-repeats-after, some-period}
use Rattle.gtd_kept.proofs.RepeatLemmas.{repeat-fits}
use Rattle.gtd_eval.specs.Cursors.{IsAtStart, AllAtStart, cursor_list, cursor_nodes, cursor_height, cursor_work, cursor_size}
use Rattle.gtd_eval.specs.Cursors.{total_nodes, total_work, NoneHigher}
use Rattle.gtd_eval.specs.facts.CursorFacts.{some-append, nodes-append, work-append, higher-append, start-append}
use Rattle.gtd_recur.specs.Periods.{period_seconds}
use Rattle.gtd_recur.specs.declared.period.Period.{Period}
use Rattle.gtd_eval.specs.declared.leaf.Leaf.{Ghosts}
use Rattle.gtd_eval.specs.declared.node.Node.{Node}
use Rattle.gtd_eval.specs.declared.tree.SweepTree.{SweepTree}

double : (j : ℕ) → 2 ^ (suc j) ≡ 2 * 2 ^ j
double j = grind arith

basic-one : (e : Tree) → IsBasic e → leaf_count e ≡ 1
basic-one (Single start duration) b = refl
basic-one (Joined op left right) b = absurd b

module _ {L : Type 0} {g : Ghosts L} where
  all-append : (ls rs : List (SweepTree L g)) (t : ℤ) → AllHold (ls ++ rs) t ↔ (AllHold ls t × AllHold rs t)
  all-append [] rs t = ((λ h. (tt, h)), (λ h. h.1))
  all-append (a ∷ ls) rs t = let i = all-append ls rs t in (
    (λ h. let k = i.0 h.1 in ((h.0, k.0), k.1)),
    (λ h. (h.0.0, i.1 (h.0.1, h.1))),
  )

  -- a chain is the operator over a chain before and what stands behind it
  pub chain-append : (op : Op) (ls rs : List (SweepTree L g)) (t : ℤ) → 0 < length ls
      → ChainHolds op (ls ++ rs) t ↔ Combined op (ChainHolds op ls t) (ChainHolds (right_of op) rs t)
  chain-append Union ls rs t some = some-append ls rs t
  chain-append Meet ls rs t some = all-append ls rs t
  chain-append Minus [] rs t some = absurd (omega arith)
  chain-append Minus (a ∷ ls) rs t some = let i = some-append ls rs t in (
    (λ h. ((h.0, (λ k. h.1 (i.1 (inl k)))), (λ k. h.1 (i.1 (inr k))))),
    (λ h. (h.0.0, (λ k. elim (i.0 k) [ inl x ↦ h.0.1 x | inr y ↦ h.1 y ]))),
  )

  -- a chain of one cursor
  pub chain-one : (op : Op) (c : SweepTree L g) (t : ℤ) → ChainHolds op (c ∷ []) t ↔ Holds (cursor_list c) t
  chain-one Union c t = ((λ h. elim h [ inl x ↦ x | inr y ↦ absurd y ]), (λ h. inl h))
  chain-one Meet c t = ((λ h. h.0), (λ h. (h, tt)))
  chain-one Minus c t = ((λ h. h.0), (λ h. (h, (λ k. k))))

  pub two-seconds : (op : Op) (ls rs : List (SweepTree L g)) (l r : Node L) (xs : List Interval)
      → xs ≡ combine op (node_list g l) (node_list g r) → 0 < length ls
      → IsChainOf op ls l → IsChainOf (right_of op) rs r → (t : ℤ) → Holds xs t ↔ ChainHolds op (ls ++ rs) t
  two-seconds op ls rs l r xs e some u v t =
      let c = combine-holds op (node_list g l) (node_list g r) t in
      let b = combined-both op _ _ _ _ (u.seconds t) (v.seconds t) in
      let s = chain-append op ls rs t some in
      rw e ((λ h. s.1 (b.0 (c.0 h))), (λ h. c.1 (b.1 (s.0 h))))

  pub two-nodes : (op to : Op) (ls rs : List (SweepTree L g)) (l r : Node L) → IsChainOf op ls l → IsChainOf to rs r
      → (1 + node_count g l + node_count g r) + 1 ≡ total_nodes (ls ++ rs) + length (ls ++ rs)
  two-nodes op to ls rs l r u v = omega (arith, u.nodes, v.nodes, nodes-append ls rs, length-append ls rs)

  pub two-work : (op to : Op) (ls rs : List (SweepTree L g)) (l r : Node L) → IsChainOf op ls l → IsChainOf to rs r
      → node_work g l + node_work g r ≡ total_work (ls ++ rs)
  two-work op to ls rs l r u v = omega (arith, u.work, v.work, work-append ls rs)

  pub two-height : (op to : Op) (n : ℕ) (ls rs : List (SweepTree L g)) (l r : Node L) → 1 < n → length rs ≡ n / 2
      → length ls ≡ n - n / 2
      → IsChainOf op ls l → IsChainOf to rs r → (h k : ℕ) → NoneHigher h (ls ++ rs) → length (ls ++ rs) ≤ 2 ^ k
      → 1 + max (node_height g l) (node_height g r) ≤ h + k
  two-height op to n ls rs l r lt eb ea u v h zero all le = absurd (omega (arith, length-append ls rs))
  two-height op to n ls rs l r lt eb ea u v h (suc j) all le =
      let parts = higher-append h ls rs all in
      let d : 2 ^ (suc j) ≡ 2 * 2 ^ j = double j in
      let lb : length rs ≤ 2 ^ j = omega (arith, length-append ls rs) in
      let la : length ls ≤ 2 ^ j = omega (arith, length-append ls rs) in
      let hl : node_height g l ≤ h + j = u.height h j parts.0 la in
      let hr : node_height g r ≤ h + j = v.height h j parts.1 lb in
      omega arith

  start-both : (ls rs : List (SweepTree L g)) → AllAtStart (ls ++ rs) → AllAtStart ls × AllAtStart rs
  start-both [] rs a = (tt, a)
  start-both (c ∷ ls) rs a = let i = start-both ls rs a.1 in ((a.0, i.0), i.1)

  -- two chains that have their whole lists to hand out, joined
  pub two-start : (op to : Op) (ls rs : List (SweepTree L g)) (l r : Node L) (xs : List Interval)
      → xs ≡ combine op (node_list g l) (node_list g r) → IsChainOf op ls l → IsChainOf to rs r → AllAtStart (ls ++ rs)
      → xs ≡ combine op (node_whole g l) (node_whole g r)
  two-start op to ls rs l r xs e u v a =
      let parts = start-both ls rs a in
      e ∙ ap (λ (ys : List Interval). combine op ys (node_list g r)) (u.start parts.0)
      ∙ ap (λ (ys : List Interval). combine op (node_whole g l) ys) (v.start parts.1)

  -- a cursor without another
  pub minus-start : (a b : SweepTree L g) (xs : List Interval) → xs ≡ combine Minus (cursor_list a) (cursor_list b)
      → IsAtStart a → IsAtStart b → xs ≡ combine Minus (node_whole g a.node) (node_whole g b.node)
  minus-start a b xs e s t =
      e ∙ ap (λ (ys : List Interval). combine Minus ys (cursor_list b)) s
      ∙ ap (λ (ys : List Interval). combine Minus (node_whole g a.node) ys) t

  -- the tree of all terms
  pub terms-start : (op : Op) (e : Tree) (h : Horizon) (w : ℕ) (xs bs : List (SweepTree L g)) (n : Node L)
      → (given : AreTerms op e h w xs bs) → IsChainOf op given.terms n → node_list g n ≡ node_whole g n
  terms-start op e h w xs bs n given chain = chain.start given.start

  -- a list of which ls many were taken off ls it has
  pub all-taken : (xs ys zs : List (SweepTree L g)) → xs ≡ ys ++ zs → length zs ≡ length xs → zs ≡ xs
  all-taken xs [] zs e n = sym e
  all-taken xs (y ∷ ys) zs e n = absurd (
      let k : length xs ≡ length ((y ∷ ys) ++ zs) = ap (λ (l : List (SweepTree L g)). length l) e in
      omega (arith, length-append (y ∷ ys) zs))

  -- one list, cut at places as far from the end
  same-front : (xs bs cs ds : List (SweepTree L g)) → xs ++ bs ≡ cs ++ ds → length bs ≡ length ds
      → (xs ≡ cs) × (bs ≡ ds)
  same-front xs bs cs ds e n =
      let k : length (xs ++ bs) ≡ length (cs ++ ds) = ap (λ (l : List (SweepTree L g)). length l) e in
      let m : length xs ≡ length cs = omega (arith, length-append xs bs, length-append cs ds) in (
        sym (take-append_seam xs bs) ∙ ap (λ (l : List (SweepTree L g)). take (length xs) l) e
            ∙ ap (λ (i : ℕ). take i (cs ++ ds)) m ∙ take-append_seam cs ds,
        sym (drop-append_seam xs bs) ∙ ap (λ (l : List (SweepTree L g)). drop (length xs) l) e
            ∙ ap (λ (i : ℕ). drop i (cs ++ ds)) m ∙ drop-append_seam cs ds,
      )

  higher-both : (h : ℕ) (ls rs : List (SweepTree L g)) → NoneHigher h ls → NoneHigher h rs → NoneHigher h (ls ++ rs)
  higher-both h [] rs l r = r
  higher-both h (a ∷ ls) rs l r = (l.0, higher-both h ls rs l.1 r)

  -- the terms of the two sides of an operator
  pub joined-terms : (op : Op) (l r : Tree) (h : Horizon) (v w : ℕ) (xs bs cs : List (SweepTree L g))
      → AreTerms op l h v xs bs → AreTerms (right_of op) r h w bs cs → AreTerms op (Joined op l r) h (v + w) xs cs
  joined-terms op l r h v w xs bs cs left right = record {
    terms = left.terms ++ right.terms;
    split = right.split ∙ ap (λ (l : List (SweepTree L g)). l ++ right.terms) left.split ∙ append_assoc xs left.terms right.terms;
    some = omega (arith, left.some, length-append left.terms right.terms);
    seconds = λ t. let c = chain-append op left.terms right.terms t left.some in
        let b = combined-both op _ _ _ _ (left.seconds t) (right.seconds t) in
        let i = combined-in op (whole h).from (whole h).until t (InTree l) (InTree r) in
        ((λ k. i.0 (b.0 (c.0 k))), (λ k. c.1 (b.1 (i.1 k))));
    nodes = omega (arith, left.nodes, right.nodes, nodes-append left.terms right.terms, length-append left.terms right.terms);
    total = omega (arith, left.total, right.total, work-append left.terms right.terms);
    low = λ b. let x = left.low b.1 in
        let y = right.low b.2 in
        (higher-both 1 left.terms right.terms x.0 y.0, omega (arith, length-append left.terms right.terms, x.1, y.1));
    lone = λ other k differ b le. absurd (differ b.0);
    start = start-append left.terms right.terms left.start right.start;
  }

  -- the same of two expressions, and of others that are equal to them
  pub both-terms : (op to : Op) (l r left right : Expr) (h : Horizon) (xs bs cs : List (SweepTree L g)) → l ≡ left → r ≡ right
      → to ≡ right_of op → AreTerms op (tree_of l) h (expr_work l h) xs bs → AreTerms to (tree_of r) h (expr_work r h) bs cs
      → AreTerms op (Joined op (tree_of left) (tree_of right)) h (expr_work left h + expr_work right h) xs cs
  both-terms op to l r left right h xs bs cs el er eo a b =
      joined-terms op (tree_of left) (tree_of right) h (expr_work left h) (expr_work right h) xs bs cs
      (subst (λ (e : Expr). AreTerms op (tree_of e) h (expr_work e h) xs bs) el a)
      (subst (λ (e : Expr). AreTerms (right_of op) (tree_of e) h (expr_work e h) bs cs) er
      (subst (λ (o : Op). AreTerms o (tree_of r) h (expr_work r h) bs cs) eo b))

  -- the chain of all terms, which were taken off the list again
  pub chain-of-terms : (op : Op) (e : Tree) (h : Horizon) (w count : ℕ) (xs bs cs : List (SweepTree L g)) (n : Node L)
      → (given : AreTerms op e h w xs bs) → count ≡ length given.terms → IsChainOfLast op count bs n cs
      → (xs ≡ cs) × IsChainOf op given.terms n
  chain-of-terms op e h w count xs bs cs n given many last =
      let s = same-front xs given.terms cs last.taken (sym given.split ∙ last.split) (sym (last.many ∙ many)) in
      (s.0, subst (λ (l : List (SweepTree L g)). IsChainOf op l n) (sym s.1) last.chain)

  -- one cursor of the seconds of an expression, put behind a list, is its only term for every operator
  pub one-term : (op : Op) (e : Tree) (h : Horizon) (w : ℕ) (xs bs cs : List (SweepTree L g)) (c : SweepTree L g) → xs ≡ bs
      → cs ≡ bs ++ (c ∷ [])
      → ((t : ℤ) → Holds (cursor_list c) t ↔ IsIn (InTree e) (whole h).from (whole h).until t)
      → cursor_nodes c + 1 ≡ 2 * leaf_count e → cursor_work c ≡ w
      → (IsBasicChain op e → (cursor_height c ≤ 1) × (1 ≡ leaf_count e))
      → ((other : Op) (k : ℕ) → IsBasicChain other e → leaf_count e ≤ 2 ^ k → cursor_height c ≤ 1 + k)
      → IsAtStart c → AreTerms op e h w xs cs
  one-term op e h w xs bs cs c same pushed is nodes work low lone start = record {
    terms = c ∷ [];
    split = pushed ∙ ap (λ (l : List (SweepTree L g)). l ++ (c ∷ [])) (sym same);
    some = omega arith;
    seconds = λ t. let o = chain-one op c t in ((λ k. (is t).0 (o.0 k)), (λ k. o.1 ((is t).1 k)));
    nodes = omega (arith, nodes);
    total = omega (arith, work);
    low = λ b. (((low b).0, tt), (low b).1);
    lone = λ other k differ b le. ((lone other k b le, tt), omega arith);
    start = (start, tt);
  }

  -- the tree of a chain of basic domains is balanced
  pub chain-low : (op : Op) (l r : Tree) (h : Horizon) (w : ℕ) (xs bs : List (SweepTree L g)) (n : Node L)
      → (given : AreTerms op (Joined op l r) h w xs bs) → IsChainOf op given.terms n
      → (other : Op) (k : ℕ) → IsBasicChain other (Joined op l r) → leaf_count (Joined op l r) ≤ 2 ^ k → node_height g n ≤ 1 + k
  chain-low op l r h w xs bs n given chain other k b le =
      let x = given.low (refl, rw b.0 b.1, rw b.0 b.2) in
      chain.height 1 k x.0 (omega (arith, x.1, le))

  -- the tree of all terms that were put as those of a union
  pub union-low : (e : Tree) (h : Horizon) (w : ℕ) (xs bs : List (SweepTree L g)) (n : Node L)
      → (given : AreTerms Union e h w xs bs) → IsChainOf Union given.terms n
      → (other : Op) (k : ℕ) → IsBasicChain other e → leaf_count e ≤ 2 ^ k → node_height g n ≤ k + 1
  union-low e h w xs bs n given chain Union k b le =
      let x = given.low b in
      omega (arith, chain.height 1 k x.0 (omega (arith, x.1, le)))
  union-low e h w xs bs n given chain Meet k b le =
      let x = given.lone Meet k (λ q. cc) b le in
      omega (arith, chain.height (1 + k) 0 x.0 (omega (arith, x.1)))
  union-low e h w xs bs n given chain Minus k b le =
      let x = given.lone Minus k (λ q. cc) b le in
      omega (arith, chain.height (1 + k) 0 x.0 (omega (arith, x.1)))

  -- the cursor of a chain of all terms has the seconds of the expression
  pub chain-in : (op : Op) (e : Tree) (h : Horizon) (w : ℕ) (xs bs : List (SweepTree L g)) (n : Node L)
      → (given : AreTerms op e h w xs bs) → IsChainOf op given.terms n → (t : ℤ)
      → Holds (node_list g n) t ↔ IsIn (InTree e) (whole h).from (whole h).until t
  chain-in op e h w xs bs n given chain t =
      let c = chain.seconds t in
      let s = given.seconds t in
      ((λ k. s.0 (c.0 k)), (λ k. c.1 (s.1 k)))

  -- the chain of all terms has the nodes of the tree of the expression
  pub chain-nodes : (op : Op) (e : Tree) (h : Horizon) (w : ℕ) (xs bs : List (SweepTree L g)) (n : Node L)
      → (given : AreTerms op e h w xs bs) → IsChainOf op given.terms n → node_count g n + 1 ≡ 2 * leaf_count e
  chain-nodes op e h w xs bs n given chain = chain.nodes ∙ given.nodes

  -- how many terms there are, by how long the list was and is
  pub count-of-terms : (op : Op) (e : Tree) (h : Horizon) (w : ℕ) (xs bs : List (SweepTree L g)) (n m : ℕ)
      → (given : AreTerms op e h w xs bs) → n ≡ length bs → m ≡ length xs → n - m ≡ length given.terms
  count-of-terms op e h w xs bs n m given en em =
      let k : length bs ≡ length (xs ++ given.terms) = ap (λ (l : List (SweepTree L g)). length l) given.split in
      omega (arith, length-append xs given.terms)

  -- the leaf of a whole expression, put behind a list, is its only term
  pub whole-term : (op : Op) (expr : Expr) (h : Horizon) (xs bs : List (SweepTree L g)) (c : SweepTree L g)
      → bs ≡ xs ++ (c ∷ []) → IsOfExpr expr h (cursor_list c) (cursor_size c)
      → (IsBasicChain op (tree_of expr) → IsBasic (tree_of expr)) → IsAtStart c
      → AreTerms op (tree_of expr) h (expr_work expr h) xs bs
  whole-term op expr h xs bs c pushed of basic start =
      one-term op (tree_of expr) h (expr_work expr h) xs xs bs c refl pushed
      (λ t. is-in (InTree (tree_of expr)) (whole h).from (whole h).until (cursor_list c) of.normal t)
      of.nodes of.work
      (λ b. let one = basic-one (tree_of expr) (basic b) in
      (omega (arith, of.height op 0 b (omega (arith, one))), omega (arith, one)))
      (λ other k b le. omega (arith, of.height other k b le)) start

-- the list of an expression that repeats
pub expr-fits : (e : Tree) (h : Horizon) (xs : List Interval) (x : Period)
    → IsNormalOver (InTree e) h xs → AllRepeat (period_seconds x) e
    → AreKept (period_seconds x) Learning (whole h).until [] xs
expr-fits e h xs x normal r =
    repeat-fits (period_seconds x) (InTree e) (whole h).from (whole h).until xs (some-period x) normal
    (λ t begun before. tree-repeats-after (period_seconds x) e t (x, refl) r)

-- a list that repeats in its horizon
pub list-fits : (h : Horizon) (xs : List Interval) (x : Period) → IsNormal xs
    → ((t : ℤ) → Holds xs t → Within (whole h) t)
    → ((t : ℤ) → Within (whole h) t → Within (whole h) (t +ℤ period_seconds x)
    → Holds xs t ↔ Holds xs (t +ℤ period_seconds x))
    → AreKept (period_seconds x) Learning (whole h).until [] xs
list-fits h xs x normal inside r =
    let some = some-period x in
    repeat-fits (period_seconds x) (Holds xs) (whole h).from (whole h).until xs some
    (normal-for (Holds xs) (whole h).from (whole h).until xs normal
    (λ t. ((λ k. let within = inside t k in (within.0, within.1, k)), (λ k. k.2))))
    (λ t begun before. r t (begun, omega (arith, ints, some, before)) (omega (arith, ints, some, begun), before))
