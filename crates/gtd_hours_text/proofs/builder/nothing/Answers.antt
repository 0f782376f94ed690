-- No rules and an empty draft are what is built from no pieces.
use Rattle.gtd_hours_text.specs.declared.builder.Building.{Building}
use Rattle.gtd_hours_text.proofs.BuildingLemmas.{begun}
use Rattle.gtd_hours_text.proofs.builder.nothing.Goals as goal

pub returns : goal.returns
returns c =
    let so_far : Building = record { rules = c.new.result; draft = c.new_draft.result } in
    begun so_far c.new.ensures.items c.new_draft.ensures.empty c.new_draft.ensures.link
