-- What reading a row computes, column by column.
use Rattle.std.specs.Prelude.{◌≡◌, ℕ, List, [], ◌∷◌, Result, Ok, Err, Option, Some, None, MatchOption}
use Rattle.gtd_records.specs.Closing.{Restriction}
use Rattle.gtd_rows.specs.Columns.{Fields, number_of, closed_of, IsOrdered, vehicles_of}
use Rattle.gtd_records.specs.declared.fault.RecordFault.{RecordFault}
use Rattle.gtd_records.specs.declared.fault.RecordFault.TheVariants as fault
use Rattle.gtd_rows.specs.declared.vehicles.Version.{Version}
use Rattle.gtd_core.specs.Trees.{Tree}
use Rattle.gtd_core.specs.declared.fault.TextFault.{TextFault}
use Rattle.gtd_text.specs.Reading.{StandsFor, HasNoFault, IsFault}
use Rattle.gtd_rows.specs.declared.direction.Closed.{Closed}
use Rattle.gtd_rows.specs.declared.vehicles.Vehicles.{Vehicles}

-- the text is a time domain of this expression, or has this fault
abbrev pub IsReading : List ℕ → Result Tree TextFault → Type 0
IsReading text (Ok tree) = StandsFor text tree × HasNoFault text
IsReading text (Err why) = IsFault text why

-- The last column of a row: no domain if it is empty, and otherwise the expression that its bytes stand for, or their
-- fault.
abbrev pub IsDomainColumn : List ℕ → Result (Option Tree) TextFault → Type 0
IsDomainColumn [] (Ok domain) = domain ≡ None
IsDomainColumn [] (Err why) = ⊥
IsDomainColumn (b ∷ text) (Ok None) = ⊥
IsDomainColumn (b ∷ text) (Ok (Some tree)) = IsReading (b ∷ text) (Ok tree)
IsDomainColumn (b ∷ text) (Err why) = IsReading (b ∷ text) (Err why)

-- the restriction of a row's columns, or the fault of the last
abbrev pub with_domain : ℕ → ℕ → Closed → Vehicles → Result (Option Tree) TextFault → Result Restriction RecordFault
with_domain row element closed vehicles (Ok domain) =
    Ok (record { element = element; closed = closed; vehicles = vehicles; domain = domain })
with_domain row element closed vehicles (Err why) = Err (fault.Domain row why)

-- four columns, read from the left
abbrev pub IsFullRow : Version → ℕ → List ℕ → List ℕ → List ℕ → List ℕ → Result Restriction RecordFault → Type 0
IsFullRow version row element closed vehicles domain answer =
    MatchOption (number_of element) (answer ≡ Err (fault.Element row)) (λ x.
    MatchOption (closed_of closed) (answer ≡ Err (fault.Direction row)) (λ c.
    MatchOption (vehicles_of version vehicles) (answer ≡ Err (fault.Vehicle row)) (λ named.
    (types : Vehicles) × (read : Result (Option Tree) TextFault)
    × IsOrdered named types × IsDomainColumn domain read × (answer ≡ with_domain row x c types read))))

-- the row with this number is read as this restriction, or has this first fault
abbrev pub IsRow : Version → ℕ → Fields → Result Restriction RecordFault → Type 0
IsRow version row (element ∷ closed ∷ vehicles ∷ domain ∷ []) answer =
    IsFullRow version row element closed vehicles domain answer
IsRow version row _ answer = answer ≡ Err (fault.FieldCount row)

-- what reading the last column gave, in the row with this number
abbrev pub IsDomainRead : ℕ → List ℕ → Result (Option Tree) RecordFault → Type 0
IsDomainRead row text (Ok domain) = IsDomainColumn text (Ok domain)
IsDomainRead row text (Err why) =
    (of_text : TextFault) × IsDomainColumn text (Err of_text) × (why ≡ fault.Domain row of_text)
