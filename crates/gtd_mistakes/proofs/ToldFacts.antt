-- What is told at a part, rule by rule, and what is told of two parts.
use Rattle.std.proofs.Common.{◌≡◌, ◌∙◌, ap, sym, subst, refl, inl, inr, arith, ℕ, ◌+◌, Bool, false, List, [], ◌∷◌, ◌++◌}
use Rattle.std.proofs.Common.{append_assoc}
use Rattle.gtd_core.specs.declared.domain.Op.{Op}
use Rattle.gtd_core.specs.declared.start.StartParts.{StartParts}
use Rattle.gtd_core.specs.declared.duration.DurationParts.{DurationParts}
use Rattle.gtd_core.specs.Trees.{Tree, Single, Joined, leaf_count}
use Rattle.gtd_mistakes.specs.Told.{AreToldAt, AreToldOf, IsTold, told_at}
use Rattle.gtd_mistakes.specs.declared.rule.TheConstants.{RULES}
use Rattle.gtd_mistakes.specs.declared.rule.Rule.{Rule}
use Rattle.gtd_mistakes.specs.declared.told.Told.{Told}

module _ (row : ℕ) (off : List Rule) (whole : Bool) (before : ℕ) (tree : Tree) (rule : Rule) where
  -- one rule more, which is told
  pub one_told : (rules : List Rule) (told : List Told) → AreToldAt row off whole before tree rules told
      → IsTold off whole tree rule
      → AreToldAt row off whole before tree (rules ++ rule ∷ []) (told ++ told_at row before tree rule ∷ [])
  one_told [] told are is = inl (is, [], refl, rw are refl)
  one_told (r ∷ rules) told (inl t) is =
      inl (t.0, t.1 ++ told_at row before tree rule ∷ [], one_told rules t.1 t.2 is, rw (t.3) refl)
  one_told (r ∷ rules) told (inr t) is = inr (t.0, one_told rules told t.1 is)

  -- one rule more, which is not
  pub none_told : (rules : List Rule) (told : List Told) → AreToldAt row off whole before tree rules told
      → (IsTold off whole tree rule → ⊥) → AreToldAt row off whole before tree (rules ++ rule ∷ []) told
  none_told [] told are is = inr (is, are)
  none_told (r ∷ rules) told (inl t) is = inl (t.0, t.1, none_told rules t.1 t.2 is, t.3)
  none_told (r ∷ rules) told (inr t) is = inr (t.0, none_told rules told t.1 is)

-- what is told of a part that ends after so many basic domains, if this was told before and that after
abbrev pub Tells : ℕ → List Rule → Bool → ℕ → ℕ → List Told → List Told → Tree → Type 0
Tells row off whole before end old new tree =
    (end ≡ before + leaf_count tree) × (more : List Told) × AreToldOf row off whole before tree more × (new ≡ old ++ more)

-- a basic domain
pub single_tells : (row : ℕ) (off : List Rule) (whole : Bool) (before : ℕ) (tree : Tree) (start : StartParts)
    (duration : DurationParts) (here old new : List Told) → tree ≡ Single start duration
    → AreToldAt row off whole before tree RULES here → new ≡ old ++ here → Tells row off whole before (before + 1) old new tree
single_tells row off whole before tree start duration here old new is at e =
    let there = subst (λ (t : Tree). AreToldAt row off whole before t RULES here) is at in
    subst (λ (t : Tree). Tells row off whole before (before + 1) old new t) (sym is) (refl, here, there, e)

-- two parts that are joined, of which the second begins where the first ends
pub joined_tells : (row : ℕ) (off : List Rule) (whole : Bool) (before middle end : ℕ) (tree left right : Tree) (op : Op)
    (here old one two new : List Told) → tree ≡ Joined op left right
    → AreToldAt row off whole before tree RULES here → one ≡ old ++ here
    → Tells row off false before middle one two left → Tells row off false middle end two new right
    → Tells row off whole before end old new tree
joined_tells row off whole before middle end tree left right op here old one two new is at e l r =
    let there = subst (λ (t : Tree). AreToldAt row off whole before t RULES here) is at in
    let second = subst (λ (n : ℕ). AreToldOf row off false n right r.1) l.0 r.2 in
    let first_end = l.0 in
    let second_end = r.0 in
    let ends : end ≡ before + (leaf_count left + leaf_count right) = omega (arith, first_end, second_end) in
    let all : new ≡ old ++ (here ++ l.1 ++ r.1) =
    r.3 ∙ ap (λ (k : List Told). k ++ r.1) (l.3 ∙ ap (λ (k : List Told). k ++ l.1) e ∙ append_assoc old here l.1)
    ∙ append_assoc old (here ++ l.1) r.1 in
    subst (λ (t : Tree). Tells row off whole before end old new t) (sym is)
    (ends, here ++ l.1 ++ r.1, (here, l.1, r.1, there, l.2, second, refl), all)
