-- If no run is left, the domain is free to the end; otherwise the first one left tells by its begin and its end.
use Rattle.std.proofs.Common.{◌∙◌, refl}
use Rattle.gtd_eval.proofs.OnwardFacts.{none-left, some-left}
use Rattle.gtd_eval.proofs.basic_stays.BasicStays.stay.Goals as goal

pub returns-in_default-clause-stays : goal.returns-in_default-clause-stays
returns-in_default-clause-stays c =
    let far = c.pass_far.ensures.same in
    let all = c.pass_all.ensures.same in
    none-left c.args.self.now c.pass_all.new.self (all.0 ∙ far.0, all.1 ∙ far.1) c.args.at.0 c.pass_all.ensures.at _
    c.in_default.ensures.reached c.requires.early refl c.until.ensures.value

pub returns-clause-stays : goal.returns-clause-stays
returns-clause-stays c =
    let far = c.pass_far.ensures.same in
    let all = c.pass_all.ensures.same in
    some-left c.args.self.now c.pass_all.new.self (all.0 ∙ far.0, all.1 ∙ far.1) c.args.at.0 c.pass_all.ensures.at
    c.stay_by_run.result c.in-Some.first c.in-Some.ensures.reached c.stay_by_run.ensures.out c.stay_by_run.ensures.inside
