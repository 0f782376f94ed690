-- The faults of rows: each has its row's number, and they are listed row by row.
use Rattle.std.proofs.Common.{◌≡◌, ap, refl, ℕ, List, [], ◌∷◌, ◌++◌, Option, Some, None}
use Rattle.std.specs.Prelude.{MatchOption, Result, Ok, Err}
use Rattle.gtd_core.specs.Trees.{Tree}
use Rattle.gtd_core.specs.declared.fault.TextFault.{TextFault}
use Rattle.gtd_records.specs.Closing.{Restriction}
use Rattle.gtd_rows.specs.Columns.{closed_of, number_of, Fields, IsOrdered, vehicles_of}
use Rattle.gtd_records.specs.ComputedRow.{IsDomainColumn, IsRow, with_domain}
use Rattle.gtd_records.specs.Faults.{AreRowFaults, row_number, with_fault}
use Rattle.gtd_rows.specs.facts.RowsRead.{IsListing}
use Rattle.gtd_rows.specs.declared.direction.Closed.{Closed}
use Rattle.gtd_records.specs.declared.fault.RecordFault.{RecordFault}
use Rattle.gtd_records.specs.declared.fault.RecordFault.TheVariants as fault
use Rattle.gtd_rows.specs.declared.vehicles.Vehicles.{Vehicles}
use Rattle.gtd_rows.specs.declared.vehicles.Version.{Version}

abbrev number_in : Result Restriction RecordFault → ℕ
number_in (Ok r) = 0
number_in (Err why) = row_number why

number_read : (k x : ℕ) (c : Closed) (types : Vehicles) (read : Result (Option Tree) TextFault) (why : RecordFault)
    → ◌≡◌ {A = Result Restriction RecordFault} (Err why) (with_domain k x c types read) → row_number why ≡ k
number_read k x c types (Ok domain) why e = cc
number_read k x c types (Err w) why e = ap number_in e

abbrev Last : Version → List ℕ → RecordFault → ℕ → ℕ → Closed → Option Vehicles → Type 0
Last v d why k x closed o = MatchOption o (◌≡◌ {A = Result Restriction RecordFault} (Err why) (Err (fault.Vehicle k))) (λ named.
    (types : Vehicles) × (read : Result (Option Tree) TextFault)
    × IsOrdered named types × IsDomainColumn d read × (◌≡◌ {A = Result Restriction RecordFault} (Err why)
    (with_domain k x closed types read)))

-- a row's fault has the row's number
pub number_is : (v : Version) (k : ℕ) (row : Fields) (why : RecordFault) → IsRow v k row (Err why) → row_number why ≡ k
number_is v k [] why is = ap number_in is
number_is v k (e ∷ []) why is = ap number_in is
number_is v k (e ∷ c ∷ []) why is = ap number_in is
number_is v k (e ∷ c ∷ w ∷ []) why is = ap number_in is
number_is v k (e ∷ c ∷ w ∷ d ∷ []) why is = by_number (number_of e) is
  where
    by_types : (x : ℕ) (closed : Closed) (o : Option Vehicles) → Last v d why k x closed o → row_number why ≡ k
    by_types x closed None h = ap number_in h
    by_types x closed (Some named) h = number_read k x closed h.0 h.1 why h.4

    by_closed : (x : ℕ) (o : Option Closed)
        → MatchOption o (◌≡◌ {A = Result Restriction RecordFault} (Err why) (Err (fault.Direction k)))
        (λ closed. Last v d why k x closed (vehicles_of v w))
        → row_number why ≡ k
    by_closed x None h = ap number_in h
    by_closed x (Some closed) h = by_types x closed (vehicles_of v w) h

    by_number : (o : Option ℕ)
        → MatchOption o (◌≡◌ {A = Result Restriction RecordFault} (Err why) (Err (fault.Element k))) (λ x.
        MatchOption (closed_of c) (◌≡◌ {A = Result Restriction RecordFault} (Err why) (Err (fault.Direction k)))
        (λ closed. Last v d why k x closed (vehicles_of v w)))
        → row_number why ≡ k
    by_number None h = ap number_in h
    by_number (Some x) h = by_closed x (closed_of c) h
number_is v k (e ∷ c ∷ w ∷ d ∷ more ∷ rest) why is = ap number_in is

with_fault_append : (a : Result Restriction RecordFault) (rest more : List RecordFault) → with_fault a rest ++ more
    ≡ with_fault a (rest ++ more)
with_fault_append (Ok r) rest more = refl
with_fault_append (Err why) rest more = refl

pub faults_listed : (v : Version) → IsListing with_fault (IsRow v) (AreRowFaults v)
faults_listed v = record {
  joins = with_fault_append;
  none = λ k l. ((λ e. e), (λ e. e));
  more = λ k r rs l. ((λ a. a), (λ a. a));
}
