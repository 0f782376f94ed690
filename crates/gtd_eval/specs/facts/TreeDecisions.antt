-- A second is in an expression, or it is not.
use Rattle.std.specs.Prelude.{ℤ}
use Rattle.gtd_core.specs.Trees.{Tree, Single, Joined}
use Rattle.gtd_core.specs.declared.domain.Op.{Op}
use Rattle.gtd_core.specs.declared.domain.Op.TheVariants.{Union, Meet, Minus}
use Rattle.gtd_eval.specs.Membership.{InTree}
use Rattle.gtd_core.specs.facts.Deciding.{Decided, both, either, not}
use Rattle.gtd_recur.specs.facts.StretchDecisions.{in_stretches}
use Rattle.gtd_spans.specs.Normal.{Combined}

combined : (op : Op) (P Q : Type 0) → Decided P → Decided Q → Decided (Combined op P Q)
combined Union P Q p q = either P Q p q
combined Meet P Q p q = both P Q p q
combined Minus P Q p q = both P (Q → ⊥) p (not Q q)

pub in_tree : (tree : Tree) (s : ℤ) → Decided (InTree tree s)
in_tree (Single start duration) s = in_stretches start duration s
in_tree (Joined op left right) s = combined op _ _ (in_tree left s) (in_tree right s)
