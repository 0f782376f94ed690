-- A table that is read is answered and nothing is told; of one at fault all faults are.
use Rattle.std.proofs.Common.{inr, refl}
use Rattle.std.specs.Prelude.{Some}
use Rattle.gtdesk_tool.specs.Telling.{telling}
use Rattle.gtdesk_tool.proofs.LooseFacts.{keeps_same}
use Rattle.gtdesk_tool.proofs.TableFacts.{of_told, told_faults}
use Rattle.gtdesk_tool.proofs.holiday_table.table_of.Goals as goal

pub returns-in-Ok-clause-read : goal.returns-in-Ok-clause-read
returns-in-Ok-clause-read g c = λ silent. (c.in-Ok.ensures.table, (keeps_same _, refl))

pub returns-in-Err-Faults-clause-read : goal.returns-in-Err-Faults-clause-read
returns-in-Err-Faults-clause-read g c =
    let taken = g.E.Output.taken in
    let failures = g.E.Output.failure_count in
    let errors = telling (taken c.args.errors.now) (taken c.tell_faults.new.errors) (failures c.args.errors.now)
    (failures c.tell_faults.new.errors) in
    λ silent.
    of_told c.args.path.now (Some c.args.bytes.now) silent c.in-Err-Faults.faults.items errors c.tell_faults.result
    (rw c.in-Err-Faults.field-0-is at c.in-Err-Faults.ensures.table)
    (rw c.as_slice.ensures.value at c.tell_faults.ensures.told)

pub returns-in-Err-Faults-clause-unread : goal.returns-in-Err-Faults-clause-unread
returns-in-Err-Faults-clause-unread g c =
    let taken = g.E.Output.taken in
    let failures = g.E.Output.failure_count in
    let errors = telling (taken c.args.errors.now) (taken c.tell_faults.new.errors) (failures c.args.errors.now)
    (failures c.tell_faults.new.errors) in
    λ n. told_faults c.args.path.now c.as_slice.result.now errors c.tell_faults.result n c.tell_faults.ensures.told

pub returns-in-Err-NoMemory-clause-read : goal.returns-in-Err-NoMemory-clause-read
returns-in-Err-NoMemory-clause-read g c = λ silent. (inr (inr refl), (keeps_same _, refl))
