-- A piece that begins no rule goes into the draft, and the rules that have ended stay.
use Rattle.std.proofs.Common.{refl}
use Rattle.gtd_hours_text.specs.declared.builder.Building.{Building}
use Rattle.gtd_hours_text.proofs.BuildingLemmas.{part_built}
use Rattle.gtd_hours_text.proofs.builder.with_more.Goals as goal

pub returns : goal.returns
returns c =
    let then : Building = record { rules = c.args.so_far.rules; draft = c.in_ok-draft.draft } in
    λ y is inside. part_built c.args.so_far y then inside (c.in_ok-draft.ensures y is inside) refl
