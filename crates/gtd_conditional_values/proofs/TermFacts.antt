-- What a term stands for, by what is known of its name and its parentheses.
use Rattle.std.proofs.Common.{◌≡◌, refl, sym, subst, ◌+◌, ℕ, Bool, true, false, List}
use Rattle.std.specs.Prelude.{Option, Some, None, Result, Ok, Err}
use Rattle.gtd_hours_options.specs.Readings.{HowRead}
use Rattle.gtd_conditional_means.specs.Meanings.{types_of}
use Rattle.gtd_conditional_means.specs.Names.{is_there}
use Rattle.gtd_conditional_means.specs.declared.meaning.MeansKind.TheVariants.{Condition}
use Rattle.gtd_conditional_means.specs.declared.meaning.MeansRow.{MeansRow}
use Rattle.gtd_conditional_values.specs.Pieces.{enclosed}
use Rattle.gtd_conditional_values.specs.ReadTerms.{IsHoursIn, IsHoursOf, IsHoursTerm, IsName, IsNamed, IsNamedBy}
use Rattle.gtd_conditional_values.specs.ReadTerms.{IsTerm, IsTermBy}
use Rattle.gtd_conditional_values.specs.TermNames.{name_of}
use Rattle.gtd_conditional_values.specs.declared.term.Term.{Term}
use Rattle.gtd_conditional_values.specs.declared.term.TermFault.TheVariants as fault
use Rattle.gtd_conditional_values.specs.declared.term.UnreadTerm.{UnreadTerm}
use Rattle.gtd_conditional_values.specs.declared.term.UnreadTerm.TheVariants as unread

module _ (how : HowRead) (rows : List MeansRow) (place : ℕ) (bytes : List ℕ) where
  pub of_name : (name : List ℕ) (answer : Result Term UnreadTerm) → Some name ≡ name_of rows bytes
      → IsNamed rows place name answer → IsTerm how rows place bytes answer
  of_name name answer e is = subst (λ (o : Option (List ℕ)). IsTermBy how rows place bytes o answer) e is

  pub of_hours : (answer : Result Term UnreadTerm) → None ≡ name_of rows bytes → IsHoursOf how place bytes answer
      → IsTerm how rows place bytes answer
  of_hours answer e is = subst (λ (o : Option (List ℕ)). IsTermBy how rows place bytes o answer) e is

module _ (how : HowRead) (place : ℕ) (bytes : List ℕ) where
  pub in_parentheses : (inside : List ℕ) (answer : Result Term UnreadTerm) → Some inside ≡ enclosed bytes
      → IsHoursTerm how (place + 1) inside answer → IsHoursOf how place bytes answer
  in_parentheses inside answer e is = subst (λ (o : Option (List ℕ)). IsHoursIn how place bytes o answer) e is

  pub in_none : (answer : Result Term UnreadTerm) → None ≡ enclosed bytes → IsHoursTerm how place bytes answer
      → IsHoursOf how place bytes answer
  in_none answer e is = subst (λ (o : Option (List ℕ)). IsHoursIn how place bytes o answer) e is

module _ (rows : List MeansRow) (place : ℕ) (name : List ℕ) where
  pub known : (found : Term) → is_there (types_of Condition name rows) ≡ true → IsName name found
      → IsNamed rows place name (Ok found)
  known found there is = subst (λ (b : Bool). IsNamedBy b place name (Ok found)) (sym there) is

  pub unknown : is_there (types_of Condition name rows) ≡ false
      → IsNamed rows place name (Err (unread.Fault (fault.Condition place)))
  unknown there = subst (λ (b : Bool). IsNamedBy b place name (Err (unread.Fault (fault.Condition place)))) (sym there) refl

-- where memory was refused nothing is said
no_name : (has : Bool) (place : ℕ) (name : List ℕ) → IsNamedBy has place name (Err unread.NoMemory)
no_name true place name = tt
no_name false place name = tt

no_hours : (how : HowRead) (place : ℕ) (bytes : List ℕ) (inside : Option (List ℕ))
    → IsHoursIn how place bytes inside (Err unread.NoMemory)
no_hours how place bytes None = tt
no_hours how place bytes (Some inside) = tt

no_term_by : (how : HowRead) (rows : List MeansRow) (place : ℕ) (bytes : List ℕ) (name : Option (List ℕ))
    → IsTermBy how rows place bytes name (Err unread.NoMemory)
no_term_by how rows place bytes None = no_hours how place bytes (enclosed bytes)
no_term_by how rows place bytes (Some name) = no_name (is_there (types_of Condition name rows)) place name

pub no_term : (how : HowRead) (rows : List MeansRow) (place : ℕ) (bytes : List ℕ)
    → IsTerm how rows place bytes (Err unread.NoMemory)
no_term how rows place bytes = no_term_by how rows place bytes (name_of rows bytes)
