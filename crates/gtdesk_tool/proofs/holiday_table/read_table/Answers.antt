-- What holds by the bytes that were read holds by those of the input; a table that is too large has that fault.
use Rattle.std.proofs.Common.{rules, inl, inr, refl, [], ◌∷◌}
use Rattle.gtd_hours_holidays.specs.declared.fault.HolidaysFault.TheVariants as holidays
use Rattle.gtdesk_tool.specs.Telling.{telling}
use Rattle.gtdesk_tool.proofs.TextFacts.{too_large}
use Rattle.gtdesk_tool.proofs.LooseFacts.{keeps_same}
use Rattle.gtdesk_tool.proofs.TableFacts.{of_told, table_of_bytes}
use Rattle.gtdesk_tool.proofs.holiday_table.read_table.Goals as goal

pub returns-in-Ok-clause-read : goal.returns-in-Ok-clause-read
returns-in-Ok-clause-read g c =
    let taken = g.E.Output.taken in
    let failures = g.E.Output.failure_count in
    let errors = telling (taken c.args.errors.now) (taken c.table_of.new.errors) (failures c.args.errors.now)
    (failures c.table_of.new.errors) in
    table_of_bytes c.args.path.now (g.I.Input.to_come c.args.input.now) (g.I.Input.may_fall_silent c.args.input.now) errors
    c.table_of.result c.in-Ok.bytes.items c.in-Ok.ensures.whole
    (rw c.as_slice.ensures.value at (c.table_of.ensures.read (g.I.Input.may_fall_silent c.args.input.now)))

pub returns-in-Err-TooLarge-clause-read : goal.returns-in-Err-TooLarge-clause-read
returns-in-Err-TooLarge-clause-read g c =
    let taken = g.E.Output.taken in
    let failures = g.E.Output.failure_count in
    let errors = telling (taken c.args.errors.now) (taken c.tell_faults.new.errors) (failures c.args.errors.now)
    (failures c.tell_faults.new.errors) in
    of_told c.args.path.now (g.I.Input.to_come c.args.input.now) (g.I.Input.may_fall_silent c.args.input.now)
    (holidays.TooLarge ∷ []) errors c.tell_faults.result
    (too_large (g.I.Input.to_come c.args.input.now) (search rules)) c.tell_faults.ensures.told

pub returns-in-Err-ReadFault-clause-read : goal.returns-in-Err-ReadFault-clause-read
returns-in-Err-ReadFault-clause-read g c = (inl refl, (keeps_same _, refl))

pub returns-in-Err-Endless-clause-read : goal.returns-in-Err-Endless-clause-read
returns-in-Err-Endless-clause-read g c = (inr (inl (refl, search rules)), (keeps_same _, refl))

pub returns-in-Err-NoMemory-clause-read : goal.returns-in-Err-NoMemory-clause-read
returns-in-Err-NoMemory-clause-read g c = (inr (inr refl), (keeps_same _, refl))
