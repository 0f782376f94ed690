-- The rows of a table are read one by one, so those before a cut and those after it are read as before.
use Rattle.gtd_records.proofs.CutFacts.{cut, joined}
use Rattle.gtd_records.specs.facts.FileForms.{computed_table, table_of}
use Rattle.gtd_records.proofs.laws.parts_of_a_table.Goals as goal

pub returns : goal.returns
returns c = record {
  cut = λ v one two found table.
      let p = cut v one two found (computed_table _ _ table) in
      (p.0, p.1, table_of _ _ p.2, table_of _ _ p.3, p.4);
  joined = λ v one two first second few p q.
      table_of _ _ (joined v one two first second few (computed_table _ _ p) (computed_table _ _ q));
}
