-- The hours of a text with holidays, comments, unknown and fallback rules, where it is read strictly or loosely.
use Rattle.std.specs.Prelude.{◌≡◌, ℕ, List, [], length, map, Option, Some, None}
use Rattle.gtd_hours_text.specs.Standing.{StandsFor}
use Rattle.gtd_hours_loose.specs.Mending.{written_place}
use Rattle.gtd_hours_loose.specs.Reading.{IsStrict}
use Rattle.gtd_hours_loose.specs.StrictForms.{IsLooseFault, IsStrictForm}
use Rattle.gtd_hours_loose.specs.declared.manner.Manner.{Manner}
use Rattle.gtd_hours_loose.specs.declared.manner.Manner.TheVariants as manner
use Rattle.gtd_hours_loose.specs.declared.strict.Part.{Part}
use Rattle.gtd_hours_loose.specs.declared.strict.StrictForm.{StrictForm}
use Rattle.gtd_hours_loose_tokens.specs.declared.stop.LooseStop.{LooseStop}
use Rattle.gtd_hours_loose_tokens.specs.declared.stop.LooseStop.TheVariants as stop
use Rattle.gtd_hours_loose_tokens.specs.declared.token.DayNames.{DayNames}
use Rattle.gtd_hours_loose_tokens.specs.declared.token.TokenFault.{TokenFault}
use Rattle.gtd_hours_loose_tokens.specs.declared.token.TokenFault.TheVariants as wrong
use Rattle.gtd_hours_known.specs.Faults.{bad_token}
use Rattle.gtd_hours_known.specs.Marks.{HasMarks}
use Rattle.gtd_hours_known.specs.Reading.{IsKnownFault, IsKnownStop, KnownStandsFor}
use Rattle.gtd_hours_known.specs.declared.fault.KnownFault.{KnownFault}
use Rattle.gtd_hours_known.specs.declared.fault.KnownFault.TheVariants as fault
use Rattle.gtd_hours_known.specs.declared.fault.KnownReadFault.{KnownReadFault}
use Rattle.gtd_hours_known.specs.declared.fault.KnownReadFault.TheVariants as reading
use Rattle.gtd_hours_known.specs.declared.known.Known.{Known}
use Rattle.gtd_hours_known.specs.declared.known.KnownHours.{KnownHours}

-- ---- places of the strict form, as places of the text

-- a fault
abbrev pub placed_fault : ℕ → List Part → KnownFault → KnownFault
placed_fault end parts (fault.Hours bad) =
    fault.Hours (record { kind = bad.kind; place = written_place bad.place end parts })
placed_fault end parts (fault.Ambiguous place) = fault.Ambiguous (written_place place end parts)
placed_fault end parts (fault.Holidays place) = fault.Holidays (written_place place end parts)
placed_fault end parts (fault.Years place) = fault.Years (written_place place end parts)
placed_fault end parts (fault.Uncovered place day) = fault.Uncovered (written_place place end parts) day
placed_fault end parts (fault.Unknown place) = fault.Unknown (written_place place end parts)

-- the first holiday
abbrev pub placed_holiday : ℕ → List Part → Option ℕ → Option ℕ
placed_holiday end parts (Some place) = Some (written_place place end parts)
placed_holiday end parts None = None

-- other places
abbrev pub placed_places : ℕ → List Part → List ℕ → List ℕ
placed_places end parts places = map (λ (place : ℕ). written_place place end parts) places

-- The hours of a text are those of its strict form, and all places are where that is written in its so many bytes.
pub record IsPlaced (end : ℕ) (form : StrictForm) (own read : KnownHours) : Type 0 where
  pub hours : read.hours ≡ own.hours
  pub by_form : read.form ≡ Some form
  pub first : read.first_holiday ≡ placed_holiday end form.parts.items own.first_holiday
  pub remarks : read.remarks.items ≡ placed_places end form.parts.items own.remarks.items
  pub unknowns : read.unknowns.items ≡ placed_places end form.parts.items own.unknowns.items

-- ---- loosely written texts

-- The hours of a text that may be written loosely: those that it stands for as plain hours; else those of its strict form, which
-- may have more.
pub data IsKnownLooseReading (names : DayNames) (known : Known) (text : List ℕ) (read : KnownHours) : Type 0 where
  strict : read.form ≡ None → StandsFor text read.hours → HasMarks [] read → IsKnownLooseReading names known text read
  mended : (form : StrictForm) → (own : KnownHours) → (IsStrict text → ⊥) → IsStrictForm names text form
      → KnownStandsFor known form.text.items own → IsPlaced (length text) form own read
      → IsKnownLooseReading names known text read

-- what is wrong with a token
abbrev pub token_fault : TokenFault → KnownFault
token_fault (wrong.BadToken place) = bad_token place
token_fault (wrong.Ambiguous place) = fault.Ambiguous place

-- The first fault of a text that is not plain hours: of its tokens, or else of its strict form.
pub data IsMendedFault (names : DayNames) (known : Known) (text : List ℕ) (bad : KnownFault) : Type 0 where
  token : (why : TokenFault) → IsLooseFault names text why → bad ≡ token_fault why → IsMendedFault names known text bad
  form : (form : StrictForm) → (first : KnownFault) → IsStrictForm names text form → IsKnownFault known form.text.items first
      → bad ≡ placed_fault (length text) form.parts.items first → IsMendedFault names known text bad

abbrev pub IsMendedStop : DayNames → Known → List ℕ → KnownReadFault → Type 0
IsMendedStop names known text (reading.Fault bad) = IsMendedFault names known text bad
IsMendedStop names known text reading.NoMemory = Unit {0}

abbrev pub IsKnownLooseStop : DayNames → Known → List ℕ → KnownReadFault → Type 0
IsKnownLooseStop names known text (reading.Fault bad) = (IsStrict text → ⊥) × IsMendedFault names known text bad
IsKnownLooseStop names known text reading.NoMemory = Unit {0}

-- ---- either

-- the hours of a text in a manner of reading
abbrev pub IsKnownReadingIn : Manner → Known → List ℕ → KnownHours → Type 0
IsKnownReadingIn manner.Strict known text read = KnownStandsFor known text read × (read.form ≡ None)
IsKnownReadingIn (manner.Loose names) known text read = IsKnownLooseReading names known text read

-- and why they are not read
abbrev pub IsKnownReadFaultIn : Manner → Known → List ℕ → KnownReadFault → Type 0
IsKnownReadFaultIn manner.Strict known text why = IsKnownStop known text why
IsKnownReadFaultIn (manner.Loose names) known text why = IsKnownLooseStop names known text why

-- ---- as the code computes it

abbrev pub no_form : LooseStop → KnownReadFault
no_form (stop.Token why) = reading.Fault (token_fault why)
no_form stop.NoMemory = reading.NoMemory

abbrev pub placed : ℕ → List Part → KnownReadFault → KnownReadFault
placed end parts (reading.Fault bad) = reading.Fault (placed_fault end parts bad)
placed end parts reading.NoMemory = reading.NoMemory
