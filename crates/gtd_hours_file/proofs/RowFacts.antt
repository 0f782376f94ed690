-- What reading the columns of a row gave.
use Rattle.std.proofs.Common.{◌≡◌, ◌∙◌, ◌<◌, ◌≤◌, inl, inr, refl, sym, ap, subst, arith, ℕ, List, [], ◌∷◌, length, Option}
use Rattle.std.proofs.Common.{Some, None}
use Rattle.std.specs.Prelude.{Result, Ok, Err, MatchOption, IfSome}
use Rattle.std.proofs.Math.Nat.{min-eq_left, min-le_left, min_comm}
use Rattle.std.proofs.lemmas.Bool.{cases_lt}
use Rattle.gtd_core.specs.Limits.{most_basic_domains}
use Rattle.gtd_hours.specs.Cost.{counted, hours_cost, most_counted}
use Rattle.gtd_hours_known.specs.declared.known.KnownHours.{KnownHours}
use Rattle.gtd_hours_options.specs.Manners.{IsReadFaultWithIn}
use Rattle.gtd_hours_options.specs.declared.fault.OptionsReadFault.{OptionsReadFault}
use Rattle.gtd_hours_options.specs.declared.fault.OptionsReadFault.TheVariants as reading
use Rattle.gtd_rows.specs.Columns.{AreTypesRead, Fields, IsOrdered, closed_of, number_of, vehicles_of}
use Rattle.gtd_rows.specs.declared.direction.Closed.{Closed}
use Rattle.gtd_rows.specs.declared.vehicles.Vehicles.{Vehicles}
use Rattle.gtd_rows.specs.declared.vehicles.Version.TheVariants as version
use Rattle.gtd_hours_options.specs.Readings.{HowRead, Reads}
use Rattle.gtd_hours_file.specs.HoursFile.{IsFullRow, IsHoursColumn, IsHoursFault, IsHoursOf, IsRow}
use Rattle.gtd_hours_file.specs.HoursFile.{with_hours}
use Rattle.gtd_hours_file.specs.PuttingRows.{IsWithin}
use Rattle.gtd_hours_file.specs.Reading.{IsColumnRead, IsRowRead, IsTextStop, unread}
use Rattle.gtd_hours_file.specs.declared.fault.HoursFileFault.{HoursFileFault}
use Rattle.gtd_hours_file.specs.declared.fault.HoursFileFault.TheVariants as fault
use Rattle.gtd_hours_file.specs.declared.row.HoursRow.{HoursRow}
use Rattle.gtd_hours_file.specs.declared.row.RowHours.{RowHours}
use Rattle.gtd_hours_file.specs.declared.row.RowStop.{RowStop}
use Rattle.gtd_hours_file.specs.declared.row.RowStop.TheVariants as stop

-- a count as it is computed is too large only if the count is
pub above : (n m : ℕ) → m ≡ counted n → most_basic_domains < m → most_basic_domains < n
above n m is more = let few = min-le_left n most_counted in let least : m ≤ n = rw is few in omega arith

-- and one that is not too large is the count
pub below : (n m : ℕ) → m ≡ counted n → m ≤ most_basic_domains → n ≤ most_basic_domains
below n m is few = elim (cases_lt most_counted n) [
  | inl many ↦
      let top : counted n ≡ most_counted = min_comm n most_counted ∙ min-eq_left (omega (arith, many)) in
      absurd (omega (arith, is, top, few))
  | inr least ↦ let same : counted n ≡ n = min-eq_left least in omega (arith, is, same, few)
]

-- what is kept of a text from which hours are read, and which few basic domains have
pub is_kept : (how : HowRead) (text : List ℕ) (read : KnownHours) (given : RowHours) → Reads how text read
    → given.text.items ≡ text → given.read ≡ read → given.years ≡ how.options.known.years
    → hours_cost read.hours ≤ most_basic_domains → IsHoursOf how text given
is_kept how text read given reads kept same years few = record {
  kept = kept;
  reads = subst (Reads how text) (sym same) reads;
  years = years;
  few = subst (λ (r : KnownHours). hours_cost r.hours ≤ most_basic_domains) (sym same) few;
}

-- why a text is not read stops its row
pub unread_stops : (how : HowRead) (row : ℕ) (text : List ℕ) (why : OptionsReadFault)
    → IsReadFaultWithIn how.manner how.options text why → IsTextStop how row text (unread row why)
unread_stops how row text (reading.Fault bad) is = IsHoursFault.of_first bad is refl
unread_stops how row text reading.NoMemory is = tt

-- a text that is not empty is a column
pub some_column : (how : HowRead) (row : ℕ) (text : List ℕ) (given : RowHours) → 0 < length text → IsHoursOf how text given
    → IsHoursColumn how row text (Ok (Some given))
some_column how row [] given some is = absurd (omega arith)
some_column how row (b ∷ text) given some is = is

pub column_stops : (how : HowRead) (row : ℕ) (text : List ℕ) (why : RowStop) → 0 < length text → IsTextStop how row text why
    → IsColumnRead how row text (Err why)
column_stops how row [] why some is = absurd (omega arith)
column_stops how row (b ∷ text) (stop.Fault why) some is = is
column_stops how row (b ∷ text) stop.NoMemory some is = tt

-- a row whose third column names no types
pub no_types : (how : HowRead) (row : ℕ) (fields : Fields) (a b c d : List ℕ) (element : ℕ) (closed : Closed)
    (read : Option Vehicles)
    → fields ≡ a ∷ b ∷ c ∷ d ∷ [] → number_of a ≡ Some element → closed_of b ≡ Some closed
    → AreTypesRead (vehicles_of version.Two c) read → ((types : Vehicles) → read ≡ Some types → ⊥)
    → IsRow how row fields (Err (fault.Vehicle row))
no_types how row fields a b c d element closed read f p q r none = rw (f, p, q) (at (vehicles_of version.Two c) r)
  where
    at : (o : Option Vehicles) → AreTypesRead o read
        → MatchOption o (◌≡◌ {A = Result HoursRow HoursFileFault} (Err (fault.Vehicle row)) (Err (fault.Vehicle row))) (λ named.
        (types : Vehicles) × (found : Result (Option RowHours) HoursFileFault)
        × IsOrdered named types × IsHoursColumn how row d found
        × (Err (fault.Vehicle row) ≡ with_hours element closed types found))
    at None h = refl
    at (Some named) h = absurd (none h.0 h.2)

-- a row whose four columns are read
pub full_row : (how : HowRead) (row : ℕ) (fields : Fields) (a b c d : List ℕ) (element : ℕ) (closed : Closed) (types : Vehicles)
    (read : Result (Option RowHours) HoursFileFault)
    → fields ≡ a ∷ b ∷ c ∷ d ∷ [] → number_of a ≡ Some element → closed_of b ≡ Some closed
    → AreTypesRead (vehicles_of version.Two c) (Some types) → IsHoursColumn how row d read
    → IsRow how row fields (with_hours element closed types read)
full_row how row fields a b c d element closed types read f p q r s = rw (f, p, q) (at (vehicles_of version.Two c) r)
  where
    at : (o : Option Vehicles) → AreTypesRead o (Some types)
        → MatchOption o (with_hours element closed types read ≡ Err (fault.Vehicle row)) (λ named.
        (ordered : Vehicles) × (found : Result (Option RowHours) HoursFileFault)
        × IsOrdered named ordered × IsHoursColumn how row d found
        × (with_hours element closed types read ≡ with_hours element closed ordered found))
    at None h = cc
    at (Some named) h = let e : types ≡ h.0 = cc in (
      h.0,
      read,
      h.1,
      s,
      ap (λ (t : Vehicles). with_hours element closed t read) e,
    )

-- a row whose last column is not read
pub row_stops : (how : HowRead) (row : ℕ) (fields : Fields) (a b c d : List ℕ) (element : ℕ) (closed : Closed) (types : Vehicles)
    (why : RowStop)
    → fields ≡ a ∷ b ∷ c ∷ d ∷ [] → number_of a ≡ Some element → closed_of b ≡ Some closed
    → AreTypesRead (vehicles_of version.Two c) (Some types) → IsColumnRead how row d (Err why)
    → IsRowRead how row fields (Err why)
row_stops how row fields a b c d element closed types (stop.Fault why) f p q r s =
    full_row how row fields a b c d element closed types (Err why) f p q r s
row_stops how row fields a b c d element closed types stop.NoMemory f p q r s = tt

-- ---- what a row says

-- these columns say what the row does
pub record AreColumnsOf (how : HowRead) (row : ℕ) (a b c d : List ℕ) (h : HoursRow) : Type 0 where
  pub element : number_of a ≡ Some h.element
  pub closed : closed_of b ≡ Some h.closed
  pub vehicles : AreTypesRead (vehicles_of version.Two c) (Some h.vehicles)
  pub hours : IsHoursColumn how row d (Ok h.hours)

match_some : {A : Type 0} (o : Option A) (P : Type 0) (Q : A → Type 0) → (P → ⊥) → MatchOption o P Q
    → (x : A) × (o ≡ Some x) × Q x
match_some None P Q none m = absurd (none m)
match_some (Some x) P Q none m = (x, refl, m)

made : (how : HowRead) (row element : ℕ) (closed : Closed) (named types : Vehicles) (a b c d : List ℕ)
    (read : Result (Option RowHours) HoursFileFault) (h : HoursRow)
    → number_of a ≡ Some element → closed_of b ≡ Some closed → vehicles_of version.Two c ≡ Some named → IsOrdered named types
    → IsHoursColumn how row d read → Ok h ≡ with_hours element closed types read → AreColumnsOf how row a b c d h
made how row element closed named types a b c d (Err why) h p q r s t is = absurd cc
made how row element closed named types a b c d (Ok hours) h p q r s t is =
    let same : h ≡ record { element = element; closed = closed; vehicles = types; hours = hours } = cc in
    subst (AreColumnsOf how row a b c d) (sym same) (record {
      element = p;
      closed = q;
      vehicles = rw r (types, s, refl);
      hours = t;
    })

pub columns_of : (how : HowRead) (row : ℕ) (a b c d : List ℕ) (h : HoursRow) → IsFullRow how row a b c d (Ok h)
    → AreColumnsOf how row a b c d h
columns_of how row a b c d h is =
    let x = match_some (number_of a) _ _ (λ (e : ◌≡◌ {A = Result HoursRow HoursFileFault} (Ok h) (Err (fault.Element row))).
    cc) is in
    let y = match_some (closed_of b) _ _ (λ (e : ◌≡◌ {A = Result HoursRow HoursFileFault} (Ok h) (Err (fault.Direction row))).
    cc) x.2 in
    let z = match_some (vehicles_of version.Two c) _ _
    (λ (e : ◌≡◌ {A = Result HoursRow HoursFileFault} (Ok h) (Err (fault.Vehicle row))). cc) y.2 in
    made how row x.0 y.0 z.0 z.2.0 a b c d z.2.1 h x.1 y.1 z.1 z.2.2 z.2.3 z.2.4

column_within : (how : HowRead) (row : ℕ) (text : List ℕ) (hours : Option RowHours) → IsHoursColumn how row text (Ok hours)
    → IfSome hours (λ given. hours_cost given.read.hours ≤ most_basic_domains)
column_within how row text None is = tt
column_within how row [] (Some given) is = absurd cc
column_within how row (b ∷ text) (Some given) is = is.few

-- the hours of a row that is read take few enough basic domains
pub row_within : (how : HowRead) (row : ℕ) (fields : Fields) (h : HoursRow) → IsRow how row fields (Ok h) → IsWithin h
row_within how row [] h is = absurd cc
row_within how row (a ∷ []) h is = absurd cc
row_within how row (a ∷ b ∷ []) h is = absurd cc
row_within how row (a ∷ b ∷ c ∷ []) h is = absurd cc
row_within how row (a ∷ b ∷ c ∷ d ∷ []) h is = column_within how row d h.hours (columns_of how row a b c d h is).hours
row_within how row (a ∷ b ∷ c ∷ d ∷ e ∷ more) h is = absurd cc
