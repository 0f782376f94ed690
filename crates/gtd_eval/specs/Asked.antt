-- An expression that is asked at later and later seconds.
use Rattle.std.specs.Prelude.{ℕ, ◌+◌, ℤ, ◌≤ℤ◌, ◌≡◌}
use Rattle.gtd_core.specs.Parts.{start_parts, duration_parts}
use Rattle.gtd_core.specs.Trees.{Tree, Single, Joined}
use Rattle.gtd_core.specs.Whole.{whole}
use Rattle.gtd_eval.specs.declared.expr_stays.ExprStays.{ExprStays}
use Rattle.gtd_eval.specs.declared.expr_stays.ExprStays.TheVariants.{Basic, Join'}

-- the tree of the expression
abbrev pub asked_tree : ExprStays → Tree
asked_tree (Basic s) = Single (start_parts s.basic.start) (duration_parts s.basic.duration)
asked_tree (Join' op p left right) = Joined op (asked_tree left) (asked_tree right)

-- each of its basic domains may be asked at the second
abbrev pub HaveCome : ℤ → ExprStays → Type 0
HaveCome t (Basic s) = s.at.0 ≤ℤ t
HaveCome t (Join' op p left right) = HaveCome t left × HaveCome t right

-- the horizon of each of them ends there
abbrev pub EndAt : ℤ → ExprStays → Type 0
EndAt t (Basic s) = (whole s.horizon).until ≡ t
EndAt t (Join' op p left right) = EndAt t left × EndAt t right

-- how many parts it has
abbrev pub asked_size : ExprStays → ℕ
asked_size (Basic s) = 1
asked_size (Join' op p left right) = 1 + asked_size left + asked_size right
