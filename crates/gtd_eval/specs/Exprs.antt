-- What hands out the seconds of an expression, and how large that may be.
use Rattle.std.specs.Prelude.{◌≡◌, ℕ, ◌+◌, ◌*◌, ◌^◌, ◌≤◌, List}
use Rattle.gtd_core.specs.Seconds.{Interval}
use Rattle.gtd_core.specs.Trees.{Tree, Single, Joined, leaf_count, tree_of}
use Rattle.gtd_core.specs.declared.domain.Expr.{Expr, Leaf, Join'}
use Rattle.gtd_core.specs.declared.domain.Op.{Op}
use Rattle.gtd_core.specs.declared.domain.Op.TheVariants.{Union, Meet, Minus}
use Rattle.gtd_core.specs.declared.horizon.Horizon.{Horizon}
use Rattle.gtd_recur.specs.Work.{work_of}
use Rattle.gtd_eval.specs.Membership.{InTree, IsNormalOver}
use Rattle.gtd_eval.specs.Shape.{Size}

-- The operator that joins what is on the right in a chain: what is subtracted one after another is subtracted together.
abbrev pub right_of : Op → Op
right_of Union = Union
right_of Meet = Meet
right_of Minus = Union

-- the expression is one chain of basic domains by the operator: it joins all of them, and a bracketed right side is a
-- chain of the operator that joins there
abbrev pub IsBasicChain : Op → Tree → Type 0
IsBasicChain op (Single start duration) = Unit {0}
IsBasicChain op (Joined inner left right) = (inner ≡ op) × IsBasicChain op left × IsBasicChain (right_of op) right

-- the expression is a basic domain
abbrev pub IsBasic : Tree → Type 0
IsBasic (Single start duration) = Unit {0}
IsBasic (Joined op left right) = ⊥

-- the sum of the work of the basic domains of an expression in a horizon
abbrev pub expr_work : Expr → Horizon → ℕ
expr_work (Leaf basic) horizon = work_of basic horizon
expr_work (Join' op p left q right) horizon = expr_work left horizon + expr_work right horizon

-- The list is that of the expression's seconds in the horizon. What hands it out has 2k - 1 nodes for k basic domains, and their
-- work. Of a chain of one operator its tree is balanced.
pub record IsOfExpr (expr : Expr) (h : Horizon) (xs : List Interval) (size : Size) : Type 0 where
  pub normal : IsNormalOver (InTree (tree_of expr)) h xs
  pub nodes : size.nodes + 1 ≡ 2 * leaf_count (tree_of expr)
  pub work : size.work ≡ expr_work expr h
  pub height : (op : Op) (k : ℕ) → IsBasicChain op (tree_of expr) → leaf_count (tree_of expr) ≤ 2 ^ k → size.height ≤ k + 1
