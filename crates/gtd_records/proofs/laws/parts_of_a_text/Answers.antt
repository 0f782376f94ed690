-- Where no quote is open the reader is as at the begin, so the records of both parts are those of the whole.
use Rattle.gtd_records.proofs.CutBytes.{cut_records}
use Rattle.gtd_records.proofs.CutFile.{cut_file}
use Rattle.gtd_records.specs.facts.FileForms.{computed_file, file_of}
use Rattle.gtd_records.proofs.laws.parts_of_a_text.Goals as goal

pub returns : goal.returns
returns c = record {
  cut = cut_records;
  file = λ v head one two found long is ends between file.
      let p = cut_file v head long is ends one two found between (computed_file _ _ file) in
      (p.0, p.1, file_of _ _ p.2, file_of _ _ p.3, p.4);
}
