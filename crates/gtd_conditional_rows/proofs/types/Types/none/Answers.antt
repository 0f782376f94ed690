-- No place is set.
use Rattle.gtd_conditional_rows.proofs.TypeLemmas.{none-has}
use Rattle.gtd_conditional_rows.proofs.types.Types.none.Goals as goal

pub returns : goal.returns
returns c = none-has 100
