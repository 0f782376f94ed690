-- Without its date a basic domain has at least the stretches it has with it, and these are in the other domain.
use Rattle.std.proofs.Common.{sym, subst}
use Rattle.std.proofs.lemmas.Result.{IfOk-weaker}
use Rattle.gtd_core.specs.Parts.{duration_parts, start_parts}
use Rattle.gtd_core.specs.Trees.{Tree}
use Rattle.gtd_eval.specs.Membership.{InTree}
use Rattle.gtd_difference.proofs.Weeks.{wider_stretches}
use Rattle.gtd_difference.proofs.week.is_shown_by_week.Goals as goal

pub returns : goal.returns
returns c =
    let basic = c.args.basic.now in
    record {
      shown = IfOk-weaker c.is_within_whole.result _ _ (λ shown h said t later before inside.
          h.0 said t later before
          (subst (λ (x : Tree). InTree x t) (sym c.single-wide.ensures.tree)
          (wider_stretches (start_parts basic.start) (start_parts c.in-Some.start) (duration_parts basic.duration)
          c.in-Some.ensures.wider t inside))) c.is_within_whole.ensures.within;
    }
