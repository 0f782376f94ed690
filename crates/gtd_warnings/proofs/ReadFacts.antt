-- What reading a row as a record says of its domain.
use Rattle.std.proofs.Common.{◌≡◌, ◌∙◌, subst, sym, ℕ, List, [], ◌∷◌, Option, Some, None}
use Rattle.std.specs.Prelude.{MatchOption, Result, Ok, Err, ⊤}
use Rattle.gtd_core.specs.Trees.{Tree}
use Rattle.gtd_core.specs.declared.fault.TextFault.{TextFault}
use Rattle.gtd_text.specs.Reading.{HasNoFault, IsFault, StandsFor}
use Rattle.gtd_records.specs.Closing.{Restriction}
use Rattle.gtd_rows.specs.Columns.{Fields, IsOrdered, closed_of, number_of, vehicles_of}
use Rattle.gtd_records.specs.ComputedRow.{IsDomainColumn, IsRow, with_domain}
use Rattle.gtd_rows.specs.declared.direction.Closed.{Closed}
use Rattle.gtd_records.specs.declared.fault.RecordFault.{RecordFault}
use Rattle.gtd_records.specs.declared.fault.RecordFault.TheVariants as fault
use Rattle.gtd_rows.specs.declared.vehicles.Vehicles.{Vehicles}
use Rattle.gtd_rows.specs.declared.vehicles.Version.{Version}
use Rattle.gtd_warnings.specs.RowsTold.{IsDomainOf}

-- what an answer says of the text of the last column
abbrev Says : List ℕ → Result Restriction RecordFault → Type 0
Says text (Ok r) = (tree : Tree) → r.domain ≡ Some tree → StandsFor text tree × HasNoFault text
Says text (Err (fault.Domain row why)) = (of_text : TextFault) × IsFault text of_text
Says text (Err why) = ⊤

same_tree : (a b : Tree) → ◌≡◌ {A = Option Tree} (Some a) (Some b) → a ≡ b
same_tree a b e = cc

read : (text : List ℕ) (domain : Option Tree) → IsDomainColumn text (Ok domain) → (tree : Tree) → domain ≡ Some tree
    → StandsFor text tree × HasNoFault text
read [] domain is tree e = absurd (let both : ◌≡◌ {A = Option Tree} (Some tree) None = sym e ∙ is in cc)
read (b ∷ text) None is tree e = absurd is
read (b ∷ text) (Some found) is tree e =
    subst (λ (t : Tree). StandsFor (b ∷ text) t × HasNoFault (b ∷ text)) (same_tree found tree e) is

says : (number x : ℕ) (c : Closed) (types : Vehicles) (text : List ℕ) (column : Result (Option Tree) TextFault)
    → IsDomainColumn text column → Says text (with_domain number x c types column)
says number x c types text (Ok domain) is = read text domain is
says number x c types [] (Err why) is = absurd is
says number x c types (b ∷ text) (Err why) is = (why, is)

module _ (v : Version) (number : ℕ) (w text : List ℕ) (answer : Result Restriction RecordFault) where
  by_types : (x : ℕ) (c : Closed) (o : Option Vehicles)
      → MatchOption o (answer ≡ Err (fault.Vehicle number)) (λ named.
      (types : Vehicles) × (column : Result (Option Tree) TextFault)
      × IsOrdered named types × IsDomainColumn text column × (answer ≡ with_domain number x c types column))
      → Says text answer
  by_types x c None is = subst (Says text) (sym is) tt
  by_types x c (Some named) is = subst (Says text) (sym is.4) (says number x c is.0 text is.1 is.3)

  by_closed : (x : ℕ) (o : Option Closed)
      → MatchOption o (answer ≡ Err (fault.Direction number)) (λ c.
      MatchOption (vehicles_of v w) (answer ≡ Err (fault.Vehicle number)) (λ named.
      (types : Vehicles) × (column : Result (Option Tree) TextFault)
      × IsOrdered named types × IsDomainColumn text column × (answer ≡ with_domain number x c types column)))
      → Says text answer
  by_closed x None is = subst (Says text) (sym is) tt
  by_closed x (Some c) is = by_types x c (vehicles_of v w) is

  by_number : (d : List ℕ) (o : Option ℕ)
      → MatchOption o (answer ≡ Err (fault.Element number)) (λ x.
      MatchOption (closed_of d) (answer ≡ Err (fault.Direction number)) (λ c.
      MatchOption (vehicles_of v w) (answer ≡ Err (fault.Vehicle number)) (λ named.
      (types : Vehicles) × (column : Result (Option Tree) TextFault)
      × IsOrdered named types × IsDomainColumn text column × (answer ≡ with_domain number x c types column))))
      → Says text answer
  by_number d None is = subst (Says text) (sym is) tt
  by_number d (Some x) is = by_closed x (closed_of d) is

-- the domain of a record is that of its row
pub domain_read : (v : Version) (number : ℕ) (row : Fields) (r : Restriction) (tree : Tree) → IsRow v number row (Ok r)
    → r.domain ≡ Some tree → IsDomainOf row (Some tree)
domain_read v number [] r tree is same = absurd cc
domain_read v number (e ∷ []) r tree is same = absurd cc
domain_read v number (e ∷ d ∷ []) r tree is same = absurd cc
domain_read v number (e ∷ d ∷ w ∷ []) r tree is same = absurd cc
domain_read v number (e ∷ d ∷ w ∷ text ∷ []) r tree is same = by_number v number w text (Ok r) d (number_of e) is tree same
domain_read v number (e ∷ d ∷ w ∷ text ∷ more ∷ rest) r tree is same = absurd cc

-- and a row whose domain is at fault has none
pub none_read : (v : Version) (number at : ℕ) (row : Fields) (why : TextFault) → IsRow v number row (Err (fault.Domain at why))
    → IsDomainOf row None
none_read v number at [] why is = tt
none_read v number at (e ∷ []) why is = tt
none_read v number at (e ∷ d ∷ []) why is = tt
none_read v number at (e ∷ d ∷ w ∷ []) why is = tt
none_read v number at (e ∷ d ∷ w ∷ text ∷ []) why is = by_number v number w text (Err (fault.Domain at why)) d (number_of e) is
none_read v number at (e ∷ d ∷ w ∷ text ∷ more ∷ rest) why is = tt
