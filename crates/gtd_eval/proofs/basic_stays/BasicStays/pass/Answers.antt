-- Without its first run, the list is that of the domain's seconds from the end of that run on.
use Rattle.std.proofs.Common.{◌≡◌, ◌∷◌}
use Rattle.gtd_core.specs.Whole.{whole}
use Rattle.gtd_recur.specs.RunsToCome.{runs_to_come}
use Rattle.gtd_eval.specs.facts.BasicLists.{basic_list}
use Rattle.gtd_eval.proofs.OnwardFacts.{basic-taken}
use Rattle.gtd_eval.proofs.basic_stays.BasicStays.pass.Goals as goal

pub invariant_of-self : goal.invariant_of-self
invariant_of-self c =
    let self = c.args.self.now in
    let b = (whole self.horizon).until in
    let is : c.args.span ∷ runs_to_come self.runs ≡ basic_list self.basic self.at.0 b = rw c.requires.ahead at self.is in
    record { is = rw c.until-self.ensures.value (basic-taken self.basic self.at.0 b c.args.span _ is) }
