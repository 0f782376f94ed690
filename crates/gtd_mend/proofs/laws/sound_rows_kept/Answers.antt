-- A sound row loses at most spaces around its domain, and is read as it was.
use Rattle.gtd_mend.proofs.SoundFacts.{kept_in_file, meaning_kept, only_spaces}
use Rattle.gtd_mend.proofs.laws.sound_rows_kept.Goals as goal

pub returns : goal.returns
returns c = record { meaning = meaning_kept; only_spaces = only_spaces; in_file = kept_in_file }
