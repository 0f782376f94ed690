-- From each row that is left out, steps to rows beyond it lead to a row that is kept and closes what it closes.
use Rattle.gtd_repeats.proofs.WithoutFacts.{without_both, without_same, without_within}
use Rattle.gtd_repeats.proofs.laws.needless_rows.Goals as goal

pub returns : goal.returns
returns c = record { within = without_within; same = without_same; both = without_both }
