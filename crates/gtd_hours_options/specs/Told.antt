-- What is told of the checked text and of the plain text, at places of the text.
use Rattle.std.specs.Prelude.{◌≡◌, ℕ, List, map, Option, Some, None}
use Rattle.gtd_hours_times.specs.declared.stop.NoMomentText.{NoMomentText}
use Rattle.gtd_hours_times.specs.declared.stop.NoMomentText.TheVariants as stop
use Rattle.gtd_hours_moments.specs.Places.{written_place}
use Rattle.gtd_hours_moments.specs.Told.{told_fault}
use Rattle.gtd_hours_moments.specs.declared.placed.Placed.{Placed}
use Rattle.gtd_hours_moments.specs.declared.text.MomentText.{MomentText}
use Rattle.gtd_hours_known.specs.Faults as known
use Rattle.gtd_hours_known.specs.declared.fault.KnownFault.{KnownFault}
use Rattle.gtd_hours_known.specs.declared.fault.KnownFault.TheVariants as fault
use Rattle.gtd_hours_known.specs.declared.known.KnownHours.{KnownHours}
use Rattle.gtd_hours_options.specs.declared.fault.OptionsFault.{OptionsFault}
use Rattle.gtd_hours_options.specs.declared.fault.OptionsFault.TheVariants as wrong
use Rattle.gtd_hours_options.specs.declared.fault.OptionsReadFault.{OptionsReadFault}
use Rattle.gtd_hours_options.specs.declared.fault.OptionsReadFault.TheVariants as reading

-- a byte with which no token begins
abbrev pub bad_token : ℕ → OptionsFault
bad_token place = wrong.Known (known.bad_token place)

-- why a text has no forms of times
abbrev pub stopped : NoMomentText → OptionsReadFault
stopped (stop.BadToken place) = reading.Fault (bad_token place)
stopped stop.NoMemory = reading.NoMemory

-- A fault of a text of these forms, at its place in the text with so many bytes for which they stand.
abbrev pub placed_fault : ℕ → List Placed → KnownFault → KnownFault
placed_fault end places (fault.Hours bad) =
    fault.Hours (record { kind = bad.kind; place = written_place bad.place end places })
placed_fault end places (fault.Ambiguous place) = fault.Ambiguous (written_place place end places)
placed_fault end places (fault.Holidays place) = fault.Holidays (written_place place end places)
placed_fault end places (fault.Years place) = fault.Years (written_place place end places)
placed_fault end places (fault.Uncovered place day) = fault.Uncovered (written_place place end places) day
placed_fault end places (fault.Unknown place) = fault.Unknown (written_place place end places)

-- A fault of the checked text: one of plain hours is told as that of a token that cannot stand there.
abbrev pub told : ℕ → MomentText → KnownFault → KnownFault
told end moments (fault.Hours bad) = fault.Hours (told_fault bad end moments)
told end moments bad = placed_fault end moments.checked.places.items bad

-- the first holiday
abbrev pub placed_holiday : ℕ → List Placed → Option ℕ → Option ℕ
placed_holiday end places None = None
placed_holiday end places (Some place) = Some (written_place place end places)

-- other places
abbrev pub placed_places : ℕ → List Placed → List ℕ → List ℕ
placed_places end places own = map (λ (place : ℕ). written_place place end places) own

-- The hours of a text are those of a text of these forms, and all places are where that is written in its so many bytes.
pub record IsPlacedReading (end : ℕ) (places : List Placed) (own read : KnownHours) : Type 0 where
  pub hours : read.hours ≡ own.hours
  pub first : read.first_holiday ≡ placed_holiday end places own.first_holiday
  pub remarks : read.remarks.items ≡ placed_places end places own.remarks.items
  pub unknowns : read.unknowns.items ≡ placed_places end places own.unknowns.items
