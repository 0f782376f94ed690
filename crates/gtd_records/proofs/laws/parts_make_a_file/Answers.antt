-- The rows of two parts, one after another, are those of the whole, so their records and their first fault are too.
use Rattle.gtd_records.proofs.CutFaults.{first_part, second_part}
use Rattle.gtd_records.proofs.CutFile.{fault_first, fault_later, join_files}
use Rattle.gtd_records.specs.facts.FileForms.{computed_file, computed_table, file_of, table_of}
use Rattle.gtd_records.proofs.laws.parts_make_a_file.Goals as goal

pub returns : goal.returns
returns c = record {
  rows_first = λ v one two why p. table_of _ _ (first_part v one two why (computed_table _ _ p));
  rows_later = λ v one two found why few p q.
      table_of _ _ (second_part v one two found why few (computed_table _ _ p) (computed_table _ _ q));
  joined = λ v head one two first second long is ends between few rows p q.
      file_of _ _ (join_files v head long is ends one two between few first second rows (computed_file _ _ p)
      (computed_file _ _ q));
  first = λ v head one two why long is ends between few p.
      file_of _ _ (fault_first v head long is ends one two between few why (computed_file _ _ p));
  later = λ v head one two found why long is ends between few rows p q.
      file_of _ _ (fault_later v head long is ends one two between few found why rows (computed_file _ _ p)
      (computed_file _ _ q));
}
