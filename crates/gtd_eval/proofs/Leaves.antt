-- What the leaves of cursors stand for.
use Rattle.std.proofs.Common.{◌≡◌, ◌∙◌, ap, arith}
use Rattle.gtd_core.specs.Whole.{whole}
use Rattle.gtd_core.specs.declared.domain.Basic.{Basic}
use Rattle.gtd_core.specs.declared.domain.Expr.TheVariants.{Leaf}
use Rattle.gtd_core.specs.declared.horizon.Horizon.{Horizon}
use Rattle.gtd_recur.specs.Membership.{InBasic}
use Rattle.gtd_recur.specs.RunsToCome.{runs_to_come, runs_basic, runs_horizon}
use Rattle.gtd_recur.specs.Work.{work_of}
use Rattle.gtd_recur.specs.declared.runs.Runs.{Runs}
use Rattle.gtd_spans.specs.Normal.{IsNormalFor}
use Rattle.gtd_eval.specs.Exprs.{IsOfExpr}
use Rattle.gtd_eval.specs.Leaves.{runs_size}

-- the runs of a basic domain
pub runs-whole : (basic : Basic) (h : Horizon) (runs : Runs)
    → IsNormalFor (InBasic basic) (whole h).from (whole h).until (runs_to_come runs)
    → runs_basic runs ≡ basic → runs_horizon runs ≡ h → IsOfExpr (Leaf basic) h (runs_to_come runs) (runs_size runs)
runs-whole basic h runs normal eb eh = record {
  normal = normal;
  nodes = omega arith;
  work = ap (λ (b : Basic). work_of b (runs_horizon runs)) eb ∙ ap (λ (g : Horizon). work_of basic g) eh;
  height = λ op k b le. omega arith;
}
