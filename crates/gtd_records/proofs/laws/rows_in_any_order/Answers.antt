-- Each row is read without its neighbours, so the restrictions of exchanged rows are the same, exchanged.
use Rattle.gtd_records.proofs.AnyOrder.{in_any_order}
use Rattle.gtd_records.specs.facts.FileForms.{computed_table, table_of}
use Rattle.gtd_records.proofs.laws.rows_in_any_order.Goals as goal

pub returns : goal.returns
returns c = record {
  same = λ v rows other found order table.
      let p = in_any_order v rows other found order (computed_table _ _ table) in (p.0, table_of _ _ p.1, p.2);
}
