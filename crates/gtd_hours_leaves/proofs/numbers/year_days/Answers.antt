-- Nothing united with the years is the years.
use Rattle.std.proofs.Common.{inl, inr}
use Rattle.std.proofs.lemmas.Result.{IfOk-weaker}
use Rattle.gtd_hours_leaves.proofs.numbers.year_days.Goals as goal

pub returns-clause-days : goal.returns-clause-days
returns-clause-days c =
    IfOk-weaker c.unite_years.result _ _
    (λ e h s. ((λ x. elim ((h s).0 x) [ inl none ↦ absurd none | inr y ↦ y ]), (λ y. (h s).1 (inr y))))
    c.unite_years.ensures.days
