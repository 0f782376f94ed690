-- The hours of a text with options where it is read strictly or loosely.
use Rattle.std.specs.Prelude.{◌≡◌, ℕ, List, length, None}
use Rattle.gtd_hours_loose.specs.Mending.{written_place}
use Rattle.gtd_hours_loose.specs.StrictForms.{IsLooseFault, IsStrictForm}
use Rattle.gtd_hours_loose.specs.declared.manner.Manner.{Manner}
use Rattle.gtd_hours_loose.specs.declared.manner.Manner.TheVariants as manner
use Rattle.gtd_hours_loose.specs.declared.strict.Part.{Part}
use Rattle.gtd_hours_loose.specs.declared.strict.StrictForm.{StrictForm}
use Rattle.gtd_hours_loose_tokens.specs.declared.stop.LooseStop.{LooseStop}
use Rattle.gtd_hours_loose_tokens.specs.declared.stop.LooseStop.TheVariants as stop
use Rattle.gtd_hours_loose_tokens.specs.declared.token.DayNames.{DayNames}
use Rattle.gtd_hours_loose_tokens.specs.declared.token.TokenFault.{TokenFault}
use Rattle.gtd_hours_known.specs.Manners.{IsPlaced, token_fault}
use Rattle.gtd_hours_known.specs.Manners as known
use Rattle.gtd_hours_known.specs.declared.known.KnownHours.{KnownHours}
use Rattle.gtd_hours_options.specs.Reading.{IsOptionsFault, IsOptionsStop, StandsWith}
use Rattle.gtd_hours_options.specs.declared.fault.OptionsFault.{OptionsFault}
use Rattle.gtd_hours_options.specs.declared.fault.OptionsFault.TheVariants as wrong
use Rattle.gtd_hours_options.specs.declared.fault.OptionsReadFault.{OptionsReadFault}
use Rattle.gtd_hours_options.specs.declared.fault.OptionsReadFault.TheVariants as reading
use Rattle.gtd_hours_options.specs.declared.options.Options.{Options}

-- A fault of the strict form with these parts, at its place in the text with so many bytes.
abbrev pub placed_fault : ℕ → List Part → OptionsFault → OptionsFault
placed_fault end parts (wrong.Known bad) = wrong.Known (known.placed_fault end parts bad)
placed_fault end parts (wrong.Time need) =
    wrong.Time (record { kind = need.kind; place = written_place need.place end parts })

-- ---- loosely written texts

-- The hours of a text that may be written loosely: those that it stands for as it is written; else, as it has a fault, those of
-- its strict form.
pub data IsLooseReading (names : DayNames) (options : Options) (text : List ℕ) (read : KnownHours) : Type 0 where
  written : read.form ≡ None → StandsWith options text read → IsLooseReading names options text read
  mended : (bad : OptionsFault) → (form : StrictForm) → (own : KnownHours) → IsOptionsFault options text bad
      → IsStrictForm names text form → StandsWith options form.text.items own → IsPlaced (length text) form own read
      → IsLooseReading names options text read

-- The first fault of a text that is not read as it is written: of its tokens, or else of its strict form.
pub data IsMendedFault (names : DayNames) (options : Options) (text : List ℕ) (bad : OptionsFault) : Type 0 where
  token : (why : TokenFault) → IsLooseFault names text why → bad ≡ wrong.Known (token_fault why)
      → IsMendedFault names options text bad
  form : (form : StrictForm) → (first : OptionsFault) → IsStrictForm names text form
      → IsOptionsFault options form.text.items first → bad ≡ placed_fault (length text) form.parts.items first
      → IsMendedFault names options text bad

abbrev pub IsMendedStop : DayNames → Options → List ℕ → OptionsReadFault → Type 0
IsMendedStop names options text (reading.Fault bad) = IsMendedFault names options text bad
IsMendedStop names options text reading.NoMemory = Unit {0}

-- The first fault of a text that may be written loosely, which has one as it is written.
abbrev pub IsLooseStop : DayNames → Options → List ℕ → OptionsReadFault → Type 0
IsLooseStop names options text (reading.Fault bad) =
    (first : OptionsFault) × IsOptionsFault options text first × IsMendedFault names options text bad
IsLooseStop names options text reading.NoMemory = Unit {0}

-- ---- either

-- the hours of a text in a manner of reading
abbrev pub IsReadingWithIn : Manner → Options → List ℕ → KnownHours → Type 0
IsReadingWithIn manner.Strict options text read =
    StandsWith options text read × (read.form ≡ None)
IsReadingWithIn (manner.Loose names) options text read = IsLooseReading names options text read

-- and why they are not read
abbrev pub IsReadFaultWithIn : Manner → Options → List ℕ → OptionsReadFault → Type 0
IsReadFaultWithIn manner.Strict options text why = IsOptionsStop options text why
IsReadFaultWithIn (manner.Loose names) options text why = IsLooseStop names options text why

-- ---- as the code computes it

abbrev pub no_form : LooseStop → OptionsReadFault
no_form (stop.Token why) = reading.Fault (wrong.Known (token_fault why))
no_form stop.NoMemory = reading.NoMemory

abbrev pub placed : ℕ → List Part → OptionsReadFault → OptionsReadFault
placed end parts (reading.Fault bad) = reading.Fault (placed_fault end parts bad)
placed end parts reading.NoMemory = reading.NoMemory
