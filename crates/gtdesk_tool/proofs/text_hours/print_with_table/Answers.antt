-- What holds by the bytes that were read holds by those of the input; a table that is too large has that fault.
use Rattle.std.proofs.Common.{rules, inl, inr, refl, [], ◌∷◌}
use Rattle.gtd_hours_holidays.specs.declared.fault.HolidaysFault.TheVariants as holidays
use Rattle.gtd_records.specs.declared.fault.RecordFault.TheVariants as records
use Rattle.gtdesk_tool.specs.TextHours.{RanWithTable}
use Rattle.gtdesk_tool.specs.declared.refusal.RunRefusal.TheVariants as refusal
use Rattle.gtdesk_tool.proofs.TextFacts.{of_bytes, of_listed, too_large}
use Rattle.gtdesk_tool.proofs.LooseFacts.{keeps_same}
use Rattle.gtdesk_tool.proofs.text_hours.print_with_table.Goals as goal

pub returns-in-Ok-clause-ran : goal.returns-in-Ok-clause-ran
returns-in-Ok-clause-ran g c =
    of_bytes _ _ _ _ _ _ _ _ _ c.print_by_bytes.result c.in-Ok.bytes.items c.in-Ok.ensures.whole
    (rw c.as_slice.ensures.value at (c.print_by_bytes.ensures.ran (g.I.Input.may_fall_silent c.args.input.now)))

pub returns-in-Err-TooLarge-clause-ran : goal.returns-in-Err-TooLarge-clause-ran
returns-in-Err-TooLarge-clause-ran g c =
    of_listed _ _ _ _ _ _ _ _ _ (holidays.TooLarge ∷ []) (too_large (g.I.Input.to_come c.args.input.now) (search rules))
    (keeps_same _) c.list_faults.result c.list_faults.ensures.listed

pub returns-in-Err-ReadFault-clause-ran : goal.returns-in-Err-ReadFault-clause-ran
returns-in-Err-ReadFault-clause-ran g c =
    RanWithTable.refused (refusal.Records records.ReadFault) (inl refl) refl (keeps_same _, refl) (keeps_same _)

pub returns-in-Err-Endless-clause-ran : goal.returns-in-Err-Endless-clause-ran
returns-in-Err-Endless-clause-ran g c =
    RanWithTable.refused (refusal.Records records.Endless) (inr (inl (refl, search rules))) refl (keeps_same _, refl)
    (keeps_same _)

pub returns-in-Err-NoMemory-clause-ran : goal.returns-in-Err-NoMemory-clause-ran
returns-in-Err-NoMemory-clause-ran g c =
    RanWithTable.refused refusal.Memory (inr (inr refl)) refl (keeps_same _, refl) (keeps_same _)
