-- What the terms of a condition stand for, or the first fault of them.
use Rattle.std.specs.Prelude.{◌≡◌, ◌<◌, ◌≤◌, ℕ, ◌+◌, List, [], ◌∷◌, length, Option, Some, None, Result, Ok, Err, ⊤}
use Rattle.gtd_hours_options.specs.Readings.{HowRead}
use Rattle.gtd_conditional_means.specs.declared.meaning.MeansRow.{MeansRow}
use Rattle.gtd_conditional_values.specs.Pieces.{enclosed, front_spaces, trimmed}
use Rattle.gtd_conditional_values.specs.ReadTerms.{IsTerm}
use Rattle.gtd_conditional_values.specs.declared.term.Term.{Term}
use Rattle.gtd_conditional_values.specs.declared.term.TermFault.{TermFault}
use Rattle.gtd_conditional_values.specs.declared.term.UnreadTerm.{UnreadTerm}
use Rattle.gtd_conditional_values.specs.declared.term.UnreadTerm.TheVariants as unread
use Rattle.gtd_conditional_parts.specs.Cuts.{after_term, first_term, term_bytes}

module _ (how : HowRead) (rows : List MeansRow) where
  -- the term that stands at a place, without the spaces around it, is read so
  abbrev pub IsTermAt : ℕ → List ℕ → Result Term UnreadTerm → Type 0
  IsTermAt place text answer = IsTerm how rows (place + front_spaces text) (trimmed text) answer

  -- The text from a place on is these terms, one at least, each but the last with an `AND` after it.
  pub data AreTerms : ℕ → List ℕ → List Term → Type 0 where
    last : (place : ℕ) → (text : List ℕ) → (term : Term) → (terms : List Term) → length text < term_bytes text + 3
        → IsTermAt place (first_term text) (Ok term) → terms ≡ term ∷ [] → AreTerms place text terms
    more : (place : ℕ) → (text : List ℕ) → (term : Term) → (later terms : List Term) → term_bytes text + 3 ≤ length text
        → IsTermAt place (first_term text) (Ok term) → AreTerms (place + (term_bytes text + 3)) (after_term text) later
        → terms ≡ term ∷ later → AreTerms place text terms

  -- The first term that is at fault has this fault, and the terms before it have none.
  pub data IsTermsFault : ℕ → List ℕ → TermFault → Type 0 where
    here : (place : ℕ) → (text : List ℕ) → (why : TermFault) → IsTermAt place (first_term text) (Err (unread.Fault why))
        → IsTermsFault place text why
    later : (place : ℕ) → (text : List ℕ) → (why : TermFault) → (term : Term) → term_bytes text + 3 ≤ length text
        → IsTermAt place (first_term text) (Ok term)
        → IsTermsFault (place + (term_bytes text + 3)) (after_term text) why → IsTermsFault place text why

  abbrev pub IsTermsStop : ℕ → List ℕ → UnreadTerm → Type 0
  IsTermsStop place text (unread.Fault why) = IsTermsFault place text why
  IsTermsStop place text unread.NoMemory = ⊤

  -- the terms are what the parentheses of a condition enclose, or the whole of it
  abbrev pub AreTermsIn : Option (List ℕ) → ℕ → List ℕ → List Term → Type 0
  AreTermsIn (Some inside) place text terms = AreTerms (place + front_spaces text + 1) inside terms
  AreTermsIn None place text terms = AreTerms place text terms

  abbrev pub AreConditions : ℕ → List ℕ → List Term → Type 0
  AreConditions place text terms = AreTermsIn (enclosed (trimmed text)) place text terms

  abbrev pub IsTermsStopIn : Option (List ℕ) → ℕ → List ℕ → UnreadTerm → Type 0
  IsTermsStopIn (Some inside) place text why = IsTermsStop (place + front_spaces text + 1) inside why
  IsTermsStopIn None place text why = IsTermsStop place text why

  abbrev pub IsConditionsStop : ℕ → List ℕ → UnreadTerm → Type 0
  IsConditionsStop place text why = IsTermsStopIn (enclosed (trimmed text)) place text why
