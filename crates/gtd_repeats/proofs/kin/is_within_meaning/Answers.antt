-- What is true of the first rows with the seconds of two rows is true of these two rows.
use Rattle.std.proofs.lemmas.Result.{IfOk-weaker}
use Rattle.gtd_repeats.proofs.KinFacts.{of_firsts}
use Rattle.gtd_repeats.proofs.kin.is_within_meaning.Goals as goal

pub returns-clause-within : goal.returns-clause-within
returns-clause-within c =
    let all = c.args.all.now in
    let same = of_firsts all.rows.now c.args.row c.args.other c.requires.inside c.requires.other all.meanings.now
    c.requires.grouped.of_seconds in
    IfOk-weaker c.is_first_within.result _ _ (λ is h. ((λ said. same.0 (h.0 said)), (λ k. h.1 (same.1 k))))
    c.is_first_within.ensures.within
