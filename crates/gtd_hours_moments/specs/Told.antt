-- How a fault of the checked text is told: where the text has it, and for a token that cannot stand there, as what it is.
use Rattle.std.specs.Prelude.{ℕ, ◌==◌, Bool, true, false, List, [], ◌∷◌, if◌then◌else◌}
use Rattle.gtd_hours_grammar.specs.declared.fault.FaultKind.{FaultKind}
use Rattle.gtd_hours_grammar.specs.declared.fault.FaultKind.TheVariants as fault
use Rattle.gtd_hours_grammar.specs.declared.fault.HoursFault.{HoursFault}
use Rattle.gtd_hours_moments.specs.declared.text.MomentText.{MomentText}
use Rattle.gtd_hours_moments.specs.declared.told.Told.{Told}
use Rattle.gtd_hours_moments.specs.Places.{written_place}

abbrev pub is_incomplete : FaultKind → Bool
is_incomplete fault.Incomplete = true
is_incomplete k = false

abbrev pub told_kind : FaultKind → ℕ → List Told → FaultKind
told_kind k place [] = k
told_kind k place (t ∷ ts) = if t.place == place then t.kind else told_kind k place ts

abbrev pub told_there : FaultKind → ℕ → List Told → HoursFault
told_there k place told = record { kind = told_kind k place told; place = place }

-- A text that ends too early does so at its end.
abbrev pub told_fault : HoursFault → ℕ → MomentText → HoursFault
told_fault bad end text =
    if is_incomplete bad.kind then record { kind = bad.kind; place = end }
    else told_there bad.kind (written_place bad.place end text.checked.places.items) text.told.items
