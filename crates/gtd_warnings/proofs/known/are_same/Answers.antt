-- Days that compare equal are the same.
use Rattle.std.proofs.Common.{◌∙◌, ap, sym, Some}
use Rattle.gtd_core.specs.declared.horizon.Horizon.{Horizon}
use Rattle.gtd_warnings.proofs.KnownFacts.{same_days}
use Rattle.gtd_warnings.proofs.known.are_same.Goals as goal

pub returns-in-Some-other : goal.returns-in-Some-other
returns-in-Some-other c = λ t.
    let same = same_days c.in-Some.days c.in-Some-other.other (sym c.eq.ensures ∙ t) in
    rw (c.in-Some.is, c.in-Some-other.is) (ap (λ (h : Horizon). Some h) same)
