-- The laws of parts, for parts that end after a line end: there no quote is open if the first part is accepted.
use Rattle.gtd_records.proofs.LineParts.{cut_after, fault_after, join_after}
use Rattle.gtd_records.specs.facts.FileForms.{computed_file, file_of}
use Rattle.gtd_records.proofs.laws.parts_by_lines.Goals as goal

pub returns : goal.returns
returns c = record {
  cut = λ v head line one two byte found is_head is_line short ends file.
      let p = cut_after byte ends v head line is_head is_line short one two found (computed_file _ _ file) in
      (p.0, p.1, file_of _ _ p.2, file_of _ _ p.3, p.4);
  joined = λ v head line one two byte first second is_head is_line short ends few rows p q.
      file_of _ _ (join_after byte ends v head line is_head is_line short one two few first (computed_file _ _ p) second rows
      (computed_file _ _ q));
  later = λ v head line one two byte first why is_head is_line short ends few rows p q.
      file_of _ _ (fault_after byte ends v head line is_head is_line short one two few first (computed_file _ _ p) why rows
      (computed_file _ _ q));
}
