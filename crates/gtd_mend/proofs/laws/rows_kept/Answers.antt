-- Reading the mended text again gives the rows of the text with its separator, one for one, each mended.
use Rattle.gtd_mend.proofs.RowsFacts.{rows_kept}
use Rattle.gtd_mend.proofs.laws.rows_kept.Goals as goal

pub returns : goal.returns
returns c = record { rows = rows_kept }
