-- Indents, and the operators of an expression.
use Rattle.std.proofs.Common.{◌≡◌, ◌≢◌, ℕ, zero, suc, ◌+◌, ◌-◌, ◌<◌, List, ◌++◌, refl}
use Rattle.std.proofs.Common.{sym, ap, ◌∙◌, arith, append_assoc}
use Rattle.std.specs.Prelude.{codes, Result, Ok, Err, OnOk}
use Rattle.std.proofs.lemmas.List.{append-nil}
use Rattle.gtd_core.specs.declared.domain.Domain.{Domain}
use Rattle.gtd_core.specs.Parts.{domain_tree}
use Rattle.gtd_core.specs.Trees.{Tree, Single, Joined, leaf_count}
use Rattle.gtd_words.specs.Joins.{join_count}
use Rattle.gtd_words.specs.Words.{indent}

pub indent_none : (text : List ℕ) (depth : ℕ) → depth ≡ 0 → text ≡ text ++ indent depth
indent_none text depth e = sym (ap (λ (n : ℕ). text ++ indent n) e ∙ append-nil text)

pub indent_more : (depth : ℕ) → depth ≢ 0 → indent depth ≡ codes "    " ++ indent (depth - 1)
indent_more zero h = absurd (h refl)
indent_more (suc depth) h =
    let e : (suc depth - 1) ≡ depth = omega arith in ap (λ (n : ℕ). codes "    " ++ indent n) (sym e)

-- one operator fewer than basic domains
pub joins : (tree : Tree) → join_count tree + 1 ≡ leaf_count tree
joins (Single start duration) = refl
joins (Joined op left right) = let h = joins left in let k = joins right in omega arith

pub few_joins : (domain : Domain) → 0 + join_count (domain_tree domain) < 128
few_joins domain = let few = domain.few_leaves in let one = joins (domain_tree domain) in omega arith

-- what holds if it went well
pub ok_so : {A E P Q : Type 0} (r : Result A E) → (P → Q) → OnOk r P → OnOk r Q
ok_so (Ok x) f h = f h
ok_so (Err e) f h = tt

-- two texts appended, one after the other
pub both_appended : (new mid old first second : List ℕ) → mid ≡ old ++ first → new ≡ mid ++ second
    → new ≡ old ++ (first ++ second)
both_appended new mid old first second e h =
    h ∙ ap (λ (l : List ℕ). l ++ second) e ∙ append_assoc old first second
