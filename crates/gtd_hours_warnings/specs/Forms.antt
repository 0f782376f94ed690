-- The hours of a text with a comma in place of the semicolon before a rule, as they are strictly written.
use Rattle.std.specs.Prelude.{◌≡◌, ℕ, List, [], Option, Some, None}
use Rattle.gtd_hours.specs.Written.{hours_text}
use Rattle.gtd_hours.specs.declared.hours.Hours.{Hours}
use Rattle.gtd_hours_grammar.specs.Faults.{IsFirstFault}
use Rattle.gtd_hours_grammar.specs.declared.fault.HoursFault.{HoursFault}
use Rattle.gtd_hours_text.specs.Standing.{StandsFor}
use Rattle.gtd_hours_warnings.specs.Commas.{with_comma}

-- the text is no hours
abbrev pub IsFaulty : List ℕ → Type 0
IsFaulty text = (bad : HoursFault) × IsFirstFault text bad

-- the hours that a text stands for, if it is hours
abbrev pub IsReadIf : List ℕ → Option Hours → Type 0
IsReadIf text (Some hours) = StandsFor text hours
IsReadIf text None = IsFaulty text

-- The bytes are the hours of a text as they are strictly written.
abbrev pub IsWritten : List ℕ → List ℕ → Type 0
IsWritten text form = (hours : Hours) × StandsFor text hours × (form ≡ hours_text hours)

-- What is shown of a text with a comma here: its hours, with the word before the comma; or without the word, where it cannot
-- stand; or, if neither is plain hours, the text with the word and the comma.
pub data IsJoinedForm (text : List ℕ) (place : ℕ) (word form : List ℕ) : Type 0 where
  said : IsWritten (with_comma text place word) form → IsJoinedForm text place word form
  unsaid : IsFaulty (with_comma text place word) → IsWritten (with_comma text place []) form → IsJoinedForm text place word form
  other : IsFaulty (with_comma text place word) → IsFaulty (with_comma text place []) → form ≡ with_comma text place word
      → IsJoinedForm text place word form
