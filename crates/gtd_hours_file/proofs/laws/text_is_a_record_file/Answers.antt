-- The canonical text of restrictions that were migrated is accepted as a record file of exactly them.
use Rattle.gtd_hours_file.proofs.TranslatedFacts.{file_accepted}
use Rattle.gtd_hours_file.proofs.laws.text_is_a_record_file.Goals as goal

pub returns : goal.returns
returns c =
    let text = c.canonical_text_of_domain.ensures in
    record { accepted = λ how. file_accepted how text.stands text.faultless c.migrated_is_accepted.ensures.rows }
