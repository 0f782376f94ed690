-- The hours that a text stands for, also where it is written loosely.
use Rattle.std.specs.Prelude.{ℕ, List, ◌≡◌, length, Some, None}
use Rattle.gtd_hours_grammar.specs.Faults.{IsFirstFault, IsHoursText}
use Rattle.gtd_hours_grammar.specs.declared.fault.FaultKind.TheVariants as kind
use Rattle.gtd_hours_grammar.specs.declared.fault.HoursFault.{HoursFault}
use Rattle.gtd_hours_moves.specs.Terms.{Piece}
use Rattle.gtd_hours_text.specs.Standing.{StandsFor}
use Rattle.gtd_hours_text.specs.declared.reader.HoursTextFault.{HoursTextFault}
use Rattle.gtd_hours_text.specs.declared.reader.HoursTextFault.TheVariants as text_fault
use Rattle.gtd_hours_loose.specs.declared.reader.LooseFault.{LooseFault}
use Rattle.gtd_hours_loose.specs.declared.reader.LooseFault.TheVariants as loose
use Rattle.gtd_hours_loose.specs.declared.reader.LooseHours.{LooseHours}
use Rattle.gtd_hours_loose.specs.declared.reader.LooseReadFault.{LooseReadFault}
use Rattle.gtd_hours_loose.specs.declared.reader.LooseReadFault.TheVariants as reading
use Rattle.gtd_hours_loose_tokens.specs.declared.stop.LooseStop.{LooseStop}
use Rattle.gtd_hours_loose_tokens.specs.declared.stop.LooseStop.TheVariants as stop
use Rattle.gtd_hours_loose.specs.declared.strict.Part.{Part}
use Rattle.gtd_hours_loose.specs.declared.strict.StrictForm.{StrictForm}
use Rattle.gtd_hours_loose_tokens.specs.declared.token.DayNames.{DayNames}
use Rattle.gtd_hours_loose_tokens.specs.declared.token.TokenFault.{TokenFault}
use Rattle.gtd_hours_loose_tokens.specs.declared.token.TokenFault.TheVariants as fault
use Rattle.gtd_hours_loose.specs.Mending.{written_place}
use Rattle.gtd_hours_loose.specs.StrictForms.{IsLooseFault, IsStrictForm}

-- The text is hours as it is written.
abbrev pub IsStrict : List ℕ → Type 0
IsStrict text = (p : List Piece) × IsHoursText text p

-- The hours of a text: those that it stands for as it is written, and it has no other strict form then; else those of its strict
-- form.
pub data IsLooseReading (names : DayNames) (text : List ℕ) (read : LooseHours) : Type 0 where
  strict : read.form ≡ None → StandsFor text read.hours → IsLooseReading names text read
  mended : (form : StrictForm) → (IsStrict text → ⊥) → read.form ≡ Some form → IsStrictForm names text form
      → StandsFor form.text.items read.hours → IsLooseReading names text read

-- What is wrong with a token, as a fault of the text.
abbrev pub token_fault : TokenFault → LooseFault
token_fault (fault.BadToken place) = loose.Hours (record { kind = kind.BadToken; place = place })
token_fault (fault.Ambiguous place) = loose.Ambiguous place

-- The first fault of the strict form, where it is written in the text.
abbrev pub placed_fault : HoursFault → ℕ → List Part → LooseFault
placed_fault bad end parts = loose.Hours (record { kind = bad.kind; place = written_place bad.place end parts })

-- The first fault of a text that is not hours as it is written: of its tokens, or else of its strict form.
pub data IsMendedFault (names : DayNames) (text : List ℕ) (bad : LooseFault) : Type 0 where
  token : (wrong : TokenFault) → IsLooseFault names text wrong → bad ≡ token_fault wrong → IsMendedFault names text bad
  hours : (form : StrictForm) → (first : HoursFault) → IsStrictForm names text form → IsFirstFault form.text.items first
      → bad ≡ placed_fault first (length text) form.parts.items → IsMendedFault names text bad

abbrev pub IsMendedStop : DayNames → List ℕ → LooseReadFault → Type 0
IsMendedStop names text (reading.Fault bad) = IsMendedFault names text bad
IsMendedStop names text reading.NoMemory = Unit {0}

-- Why hours are not read: the first fault, of a text that is not hours as it is written; or want of memory.
abbrev pub IsReadFault : DayNames → List ℕ → LooseReadFault → Type 0
IsReadFault names text (reading.Fault bad) = (IsStrict text → ⊥) × IsMendedFault names text bad
IsReadFault names text reading.NoMemory = Unit {0}

-- ---- as the code computes it

abbrev pub stopped : LooseStop → LooseReadFault
stopped (stop.Token bad) = reading.Fault (token_fault bad)
stopped stop.NoMemory = reading.NoMemory

abbrev pub placed : HoursTextFault → ℕ → List Part → LooseReadFault
placed (text_fault.Fault bad) end parts = reading.Fault (placed_fault bad end parts)
placed text_fault.NoMemory end parts = reading.NoMemory
