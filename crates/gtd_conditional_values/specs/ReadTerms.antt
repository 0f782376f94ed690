-- What a term at a place of a value stands for, or its fault. Of a text that is read while memory was refused nothing is said.
use Rattle.std.specs.Prelude.{◌≡◌, ℕ, ◌+◌, Bool, true, false, List, Option, Some, None, Result, Ok, Err, ⊤}
use Rattle.gtd_hours_known.specs.declared.known.KnownHours.{KnownHours}
use Rattle.gtd_hours_options.specs.Readings.{HasFault, HowRead, Reads}
use Rattle.gtd_hours_options.specs.declared.fault.OptionsFault.{OptionsFault}
use Rattle.gtd_conditional_means.specs.Meanings.{types_of}
use Rattle.gtd_conditional_means.specs.Names.{is_there}
use Rattle.gtd_conditional_means.specs.declared.meaning.MeansKind.TheVariants.{Condition}
use Rattle.gtd_conditional_means.specs.declared.meaning.MeansRow.{MeansRow}
use Rattle.gtd_conditional_values.specs.Pieces.{enclosed}
use Rattle.gtd_conditional_values.specs.TermHours.{AreHoursAt}
use Rattle.gtd_conditional_values.specs.TermNames.{name_of}
use Rattle.gtd_conditional_values.specs.declared.term.Term.{Term}
use Rattle.gtd_conditional_values.specs.declared.term.Term.TheVariants as term
use Rattle.gtd_conditional_values.specs.declared.term.TermFault.{TermFault}
use Rattle.gtd_conditional_values.specs.declared.term.TermFault.TheVariants as fault
use Rattle.gtd_conditional_values.specs.declared.term.UnreadTerm.{UnreadTerm}
use Rattle.gtd_conditional_values.specs.declared.term.UnreadTerm.TheVariants as unread

-- the term is a condition of this name
abbrev pub IsName : List ℕ → Term → Type 0
IsName name (term.Named kept) = kept.items ≡ name
IsName name (term.Hours given) = ⊥

-- it is the hours that are read of a text that begins at this place, or these have this first fault
abbrev pub IsHours : HowRead → ℕ → List ℕ → Term → Type 0
IsHours how place bytes (term.Named kept) = ⊥
IsHours how place bytes (term.Hours given) =
    (read : KnownHours) × Reads how bytes read × AreHoursAt place bytes how.options.known.years read given

abbrev pub IsHoursFault : HowRead → ℕ → List ℕ → TermFault → Type 0
IsHoursFault how place bytes bad = (why : OptionsFault) × HasFault how bytes why × (bad ≡ fault.Hours place why)

-- the bytes from this place on are read as hours
abbrev pub IsHoursTerm : HowRead → ℕ → List ℕ → Result Term UnreadTerm → Type 0
IsHoursTerm how place bytes (Ok found) = IsHours how place bytes found
IsHoursTerm how place bytes (Err (unread.Fault why)) = IsHoursFault how place bytes why
IsHoursTerm how place bytes (Err unread.NoMemory) = ⊤

-- what the parentheses of a term enclose is read as hours, one place later, and otherwise the whole term
abbrev pub IsHoursIn : HowRead → ℕ → List ℕ → Option (List ℕ) → Result Term UnreadTerm → Type 0
IsHoursIn how place bytes (Some inside) answer = IsHoursTerm how (place + 1) inside answer
IsHoursIn how place bytes None answer = IsHoursTerm how place bytes answer

abbrev pub IsHoursOf : HowRead → ℕ → List ℕ → Result Term UnreadTerm → Type 0
IsHoursOf how place bytes answer = IsHoursIn how place bytes (enclosed bytes) answer

-- the table has a condition of this name, or there is none
abbrev pub IsNamedBy : Bool → ℕ → List ℕ → Result Term UnreadTerm → Type 0
IsNamedBy has place name (Err unread.NoMemory) = ⊤
IsNamedBy true place name (Ok found) = IsName name found
IsNamedBy true place name (Err (unread.Fault why)) = ⊥
IsNamedBy false place name (Ok found) = ⊥
IsNamedBy false place name (Err (unread.Fault why)) = why ≡ fault.Condition place

abbrev pub IsNamed : List MeansRow → ℕ → List ℕ → Result Term UnreadTerm → Type 0
IsNamed rows place name answer = IsNamedBy (is_there (types_of Condition name rows)) place name answer

-- the term is looked up by its name, if it has one, and otherwise read as hours so
abbrev pub IsTermBy : HowRead → List MeansRow → ℕ → List ℕ → Option (List ℕ) → Result Term UnreadTerm → Type 0
IsTermBy how rows place bytes (Some name) answer = IsNamed rows place name answer
IsTermBy how rows place bytes None answer = IsHoursOf how place bytes answer

abbrev pub IsTerm : HowRead → List MeansRow → ℕ → List ℕ → Result Term UnreadTerm → Type 0
IsTerm how rows place bytes answer = IsTermBy how rows place bytes (name_of rows bytes) answer
