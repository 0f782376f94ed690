-- What the parts of a value say, or the first fault of them.
use Rattle.std.specs.Prelude.{◌≡◌, ◌<◌, ◌≤◌, ℕ, ◌+◌, List, [], ◌∷◌, length, take, drop, Some, None, ⊤}
use Rattle.gtd_hours_options.specs.Readings.{HowRead}
use Rattle.gtd_conditional_means.specs.declared.meaning.MeansRow.{MeansRow}
use Rattle.gtd_conditional_values.specs.Pieces.{at_sign, front_spaces, trimmed}
use Rattle.gtd_conditional_values.specs.declared.term.TermFault.{TermFault}
use Rattle.gtd_conditional_values.specs.declared.term.UnreadTerm.{UnreadTerm}
use Rattle.gtd_conditional_values.specs.declared.term.UnreadTerm.TheVariants as unread
use Rattle.gtd_conditional_parts.specs.Conditions.{AreConditions, IsConditionsStop}
use Rattle.gtd_conditional_parts.specs.Cuts.{after_part, first_part, part_bytes}
use Rattle.gtd_conditional_parts.specs.Names.{said_of}
use Rattle.gtd_conditional_parts.specs.declared.said.Said.{Said}
use Rattle.gtd_conditional_parts.specs.declared.said.Subject.{Subject}
use Rattle.gtd_conditional_parts.specs.declared.value.Part.{Part}
use Rattle.gtd_conditional_parts.specs.declared.value.UnreadValue.{UnreadValue}
use Rattle.gtd_conditional_parts.specs.declared.value.UnreadValue.TheVariants as stop
use Rattle.gtd_conditional_parts.specs.declared.value.ValueFault.{ValueFault}
use Rattle.gtd_conditional_parts.specs.declared.value.ValueFault.TheVariants as fault

-- This is the first part of a text without `@`, where it begins but for spaces.
pub data LacksAt : ℕ → List ℕ → ℕ → Type 0 where
  lacks_here : (place : ℕ) → (text : List ℕ) → (found : ℕ) → at_sign (first_part text) ≡ None
      → found ≡ place + front_spaces (first_part text) → LacksAt place text found
  lacks_later : (place : ℕ) → (text : List ℕ) → (found at : ℕ) → at_sign (first_part text) ≡ Some at
      → part_bytes text + 1 ≤ length text → LacksAt (place + (part_bytes text + 1)) (after_part text) found
      → LacksAt place text found

-- why a part is not read, one of whose terms is not
abbrev pub unread_by : UnreadTerm → UnreadValue
unread_by (unread.Fault bad) = stop.Fault (fault.Term bad)
unread_by unread.NoMemory = stop.NoMemory

module _ (subject : Subject) (how : HowRead) (rows : List MeansRow) where
  -- The part that stands at a place says this: its name before the `@`, and its condition after it.
  pub record IsPart (place : ℕ) (text : List ℕ) (part : Part) : Type 0 where
    pub at : ℕ
    pub has : at_sign text ≡ Some at
    pub said : said_of subject rows (trimmed (take at text)) ≡ Some part.said
    pub terms : AreConditions how rows (place + (at + 1)) (drop (at + 1) text) part.terms.items

  -- It has this fault first: its name says nothing, or else a term is at fault.
  pub data IsPartFault (place : ℕ) (text : List ℕ) (why : ValueFault) : Type 0 where
    name : (at : ℕ) → at_sign text ≡ Some at → said_of subject rows (trimmed (take at text)) ≡ None
        → why ≡ fault.Value (place + front_spaces (take at text)) → IsPartFault place text why
    term : (at : ℕ) → (said : Said) → (bad : TermFault) → at_sign text ≡ Some at
        → said_of subject rows (trimmed (take at text)) ≡ Some said
        → IsConditionsStop how rows (place + (at + 1)) (drop (at + 1) text) (unread.Fault bad) → why ≡ fault.Term bad
        → IsPartFault place text why

  abbrev pub IsPartStop : ℕ → List ℕ → UnreadValue → Type 0
  IsPartStop place text (stop.Fault why) = IsPartFault place text why
  IsPartStop place text stop.NoMemory = ⊤

  -- The text from a place on is these parts, one at least, each but the last with a `;` after it.
  pub data AreParts : ℕ → List ℕ → List Part → Type 0 where
    last : (place : ℕ) → (text : List ℕ) → (part : Part) → (parts : List Part) → length text < part_bytes text + 1
        → IsPart place (first_part text) part → parts ≡ part ∷ [] → AreParts place text parts
    more : (place : ℕ) → (text : List ℕ) → (part : Part) → (later parts : List Part) → part_bytes text + 1 ≤ length text
        → IsPart place (first_part text) part → AreParts (place + (part_bytes text + 1)) (after_part text) later
        → parts ≡ part ∷ later → AreParts place text parts

  -- The first part that is at fault has this fault, and the parts before it have none.
  pub data IsPartsFault : ℕ → List ℕ → ValueFault → Type 0 where
    here : (place : ℕ) → (text : List ℕ) → (why : ValueFault) → IsPartFault place (first_part text) why
        → IsPartsFault place text why
    later : (place : ℕ) → (text : List ℕ) → (why : ValueFault) → (part : Part) → part_bytes text + 1 ≤ length text
        → IsPart place (first_part text) part → IsPartsFault (place + (part_bytes text + 1)) (after_part text) why
        → IsPartsFault place text why

  abbrev pub IsPartsStop : ℕ → List ℕ → UnreadValue → Type 0
  IsPartsStop place text (stop.Fault why) = IsPartsFault place text why
  IsPartsStop place text stop.NoMemory = ⊤
