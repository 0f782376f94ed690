-- A table that is read is what is known of holidays; of one at fault all faults are told.
use Rattle.std.proofs.Common.{inr, refl}
use Rattle.gtdesk_tool.specs.TextHours.{RanWithTable}
use Rattle.gtdesk_tool.specs.declared.refusal.RunRefusal.TheVariants as refusal
use Rattle.gtdesk_tool.proofs.TextFacts.{of_listed}
use Rattle.gtdesk_tool.proofs.LooseFacts.{keeps_same}
use Rattle.gtdesk_tool.proofs.text_hours.print_by_bytes.Goals as goal

pub returns-in-Ok-clause-ran : goal.returns-in-Ok-clause-ran
returns-in-Ok-clause-ran g c = λ silent.
    RanWithTable.read c.in-Ok.table c.in-Ok.ensures.table (rw c.options_with-options.ensures at c.print_with.ensures.ran)

pub returns-in-Err-Faults-clause-ran : goal.returns-in-Err-Faults-clause-ran
returns-in-Err-Faults-clause-ran g c = λ silent.
    of_listed _ _ _ _ _ _ _ _ _ c.in-Err-Faults.faults.items (rw c.in-Err-Faults.field-0-is at c.in-Err-Faults.ensures.table)
    (keeps_same _) c.list_faults.result (rw c.as_slice.ensures.value at c.list_faults.ensures.listed)

pub returns-in-Err-NoMemory-clause-ran : goal.returns-in-Err-NoMemory-clause-ran
returns-in-Err-NoMemory-clause-ran g c = λ silent.
    RanWithTable.refused refusal.Memory (inr (inr refl)) refl (keeps_same _, refl) (keeps_same _)
