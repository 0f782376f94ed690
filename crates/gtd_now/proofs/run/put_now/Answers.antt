-- Of a file that is read without fault the output takes the entries; of any other one the first fault is answered.
use Rattle.std.proofs.Common.{List, Some, ℕ, subst, sym}
use Rattle.std.specs.Prelude.{⊤}
use Rattle.gtd_records.specs.Closing.{Restriction}
use Rattle.gtd_report.specs.facts.RunFacts.{has_run}
use Rattle.gtd_now.proofs.NowFacts.{known, one_entries, puts_now}
use Rattle.gtd_now.specs.Now.{AreInOrder, IsNow}
use Rattle.gtd_now.specs.Query.{query_of}
use Rattle.gtd_states.specs.Known.{AreRight}
use Rattle.gtd_states.specs.declared.known.KnownChange.{KnownChange}
use Rattle.gtd_now.proofs.run.put_now.Goals as goal

pub invariant_of-state : goal.invariant_of-state
invariant_of-state g c = record {
  in_range = c.requires.in_range;
  order = subst (λ (l : List ℕ). AreInOrder c.args.asked.now.elements.now l) (sym c.as_slice-2.ensures.value)
      c.in-Ok-in_order.ensures.order;
  right = subst (λ (l : List KnownChange). AreRight c.in-Ok.found c.args.asked.now.vehicle c.args.asked.now.second.0 l)
      (sym c.as_slice-4.ensures.value) c.in-Ok-known_changes.ensures.right;
}

pub put_by_element-put-requires-clause-one : goal.put_by_element-put-requires-clause-one
put_by_element-put-requires-clause-one g c = one_entries c.as_slice-3.result.now c.in-Ok.found (query_of c.args.asked.now)

pub returns-clause-stands : goal.returns-clause-stands
returns-clause-stands g c =
    let bytes = c.args.bytes.now in
    let query = query_of c.args.asked.now in
    let old = g.O.Output.taken c.args.output.now in
    let new = g.O.Output.taken c.put_by_element-put.new.output in
    let progress = c.put_by_element-put.new.printer.progress in
    let told = rw (← c.as_slice-3.ensures.value) at c.in-Ok-told_lines.ensures.lines in
    rw (c.answer_with.ensures.entries, c.answer.ensures.value)
    (has_run (λ (found : List Restriction). ⊤) (λ (found : List Restriction). IsNow bytes found query) c.put_by_element-put.result
    (Some bytes) old new c.in-Ok.found progress c.in-Ok.ensures.file tt
    (puts_now bytes c.as_slice-3.result.now c.in-Ok.found query told c.put_by_element-put.result old new _ progress
    (rw (c.header_of.ensures.value, c.new-printer.ensures.begins) at c.put_by_element-put.ensures.puts)))

pub returns-clause-vehicle_known : goal.returns-clause-vehicle_known
returns-clause-vehicle_known g c =
    known c.args.bytes.now c.args.asked.now.vehicle c.in-Ok.found c.answer_with.result c.is_some_row_for-is_for_some.result
    c.in-Ok.ensures.file c.answer_with.ensures.vehicle c.is_some_row_for-is_for_some.ensures.some
