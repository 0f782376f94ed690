-- What the columns of a row say of the row.
use Rattle.std.proofs.Common.{◌≡◌, ◌≢◌, ◌<◌, ◌⊎◌, inl, inr, ap, arith, ℕ, zero, suc, List, [], ◌∷◌, length, Option, Some}
use Rattle.std.proofs.Common.{None}
use Rattle.std.specs.Prelude.{Result, Ok, Err, MatchOption}
use Rattle.csv.specs.Records.{field_at}
use Rattle.gtd_core.specs.Trees.{Tree}
use Rattle.gtd_core.specs.declared.fault.Fault.TheVariants.{NoMemory}
use Rattle.gtd_core.specs.declared.fault.TextFault.{TextFault}
use Rattle.gtd_text.specs.Faults.{no_memory}
use Rattle.gtd_text.specs.Reading.{IsFault}
use Rattle.gtd_rows.specs.Columns.{number_of, closed_of, Fields, IsOrdered, AreTypesRead, vehicles_of}
use Rattle.gtd_records.specs.ComputedRow.{IsDomainColumn, IsReading, IsRow, with_domain}
use Rattle.gtd_rows.specs.declared.direction.Closed.{Closed}
use Rattle.gtd_rows.specs.declared.vehicles.Vehicles.{Vehicles}
use Rattle.gtd_records.specs.declared.fault.RecordFault.TheVariants as fault
use Rattle.gtd_rows.specs.declared.vehicles.Version.{Version}

-- the last column, if it is not empty
pub a_column : (text : List ℕ) (tree : Tree) → 0 < length text → IsReading text (Ok tree) → IsDomainColumn text (Ok (Some tree))
a_column [] tree some h = absurd (omega arith)
a_column (b ∷ text) tree some h = h

-- and its fault, if memory was not refused
pub a_fault : (text : List ℕ) (why : TextFault) → 0 < length text → (why ≡ no_memory) ⊎ IsFault text why → why.kind ≢ NoMemory
    → IsDomainColumn text (Err why)
a_fault [] why some h other = absurd (omega arith)
a_fault (b ∷ text) why some (inl memory) other = absurd (other (ap (λ (f : TextFault). f.kind) memory))
a_fault (b ∷ text) why some (inr bad) other = bad

-- a row whose four columns are read
pub full_row : (version : Version) (row : ℕ) (fields : Fields) (a b c d : List ℕ) (element : ℕ) (closed : Closed)
    (types : Vehicles) (read : Result (Option Tree) TextFault)
    → fields ≡ a ∷ b ∷ c ∷ d ∷ [] → number_of a ≡ Some element → closed_of b ≡ Some closed
    → AreTypesRead (vehicles_of version c) (Some types) → IsDomainColumn d read
    → IsRow version row fields (with_domain row element closed types read)
full_row version row fields a b c d element closed types read f p q r s = rw (f, p, q) (at (vehicles_of version c) r)
  where
    at : (o : Option Vehicles) → AreTypesRead o (Some types)
        → MatchOption o (with_domain row element closed types read ≡ Err (fault.Vehicle row))
        (λ named. (ordered : Vehicles) × (found : Result (Option Tree) TextFault)
        × IsOrdered named ordered × IsDomainColumn d found ×
        (with_domain row element closed types read ≡ with_domain row element closed ordered found))
    at None h = cc
    at (Some named) h = let e : types ≡ h.0 = cc in (
      h.0,
      read,
      h.1,
      s,
      ap (λ (t : Vehicles). with_domain row element closed t read) e,
    )
