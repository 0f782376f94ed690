-- What a row of a record file is: a restriction, or its first fault, column by column.
use Rattle.std.specs.Prelude.{◌≡◌, ◌≢◌, ◌<◌, ◌≤◌, ◌⊎◌, ◌↔◌, ◌==◌, ℕ, true, List, [], ◌∷◌, length, codes, Result, Ok, Err, Option}
use Rattle.std.specs.Prelude.{Some, None, MatchResult}
use Rattle.std.specs.Char.{is_ascii_digit}
use Rattle.std.specs.List.{All, Any, Contains, list_all, slice_split}
use Rattle.std.specs.List.Sorted.{IsStrictlyIncreasing}
use Rattle.std.specs.Str.Parse.{digits_value}
use Rattle.gtd_core.specs.Trees.{Tree}
use Rattle.gtd_core.specs.declared.fault.TextFault.{TextFault}
use Rattle.gtd_text.specs.Reading.{IsReading}
use Rattle.gtd_records.specs.Closing.{Restriction}
use Rattle.gtd_rows.specs.declared.direction.Direction.TheVariants.{Positive, Negative}
use Rattle.gtd_rows.specs.declared.direction.Closed.{Closed}
use Rattle.gtd_rows.specs.declared.direction.Closed.TheVariants.{One, Both}
use Rattle.gtd_records.specs.declared.fault.RecordFault.{RecordFault}
use Rattle.gtd_records.specs.declared.fault.RecordFault.TheVariants as fault
use Rattle.gtd_rows.specs.declared.vehicles.Vehicles.{Vehicles}
use Rattle.gtd_rows.specs.declared.vehicles.Vehicles.TheVariants.{Every, Only, AllBut}
use Rattle.gtd_rows.specs.declared.vehicles.Version.{Version}
use Rattle.gtd_rows.specs.declared.vehicles.Version.TheVariants as version

-- at least one ASCII digit, and at most so many: the number that they stand for
abbrev pub IsNumber : ℕ → List ℕ → ℕ → Type 0
IsNumber most text n =
    (1 ≤ length text) × (length text ≤ most) × (list_all is_ascii_digit text ≡ true) × (n ≡ digits_value 10 text)

-- the word for the directions that are closed
abbrev pub IsWordFor : List ℕ → Closed → Type 0
IsWordFor text (One Positive) = text ≡ codes "positive"
IsWordFor text (One Negative) = text ≡ codes "negative"
IsWordFor text Both = text ≡ codes "both"

-- Each item is a code, from 1 to 99. These are the codes in ascending order, each once.
pub record AreCodes (items : List (List ℕ)) (types : List ℕ) : Type 0 where
  pub each : All (λ item. (code : ℕ) × IsNumber 2 item code × (0 < code)) items
  pub order : IsStrictlyIncreasing types
  pub same : (code : ℕ) → Contains types code ↔ Any (λ item. IsNumber 2 item code) items

-- the items of a list, which semicolons separate
abbrev pub items : List ℕ → List (List ℕ)
items text = slice_split (λ b. b == 59) text

-- The vehicle types of a column: all for the code 0, otherwise one type. In version 2 it may be a list, or a `!` and the list
-- of all types that are left out.
abbrev pub AreTypes : Version → List ℕ → Vehicles → Type 0
AreTypes _ text Every = IsNumber 2 text 0
AreTypes version.One text (Only types) = AreCodes (text ∷ []) types
AreTypes version.One text (AllBut types) = ⊥
AreTypes version.Two text (Only types) = AreCodes (items text) types
AreTypes version.Two text (AllBut types) = (list : List ℕ) × (text ≡ 33 ∷ list) × AreCodes (items list) types

-- The last column: no domain if it is empty, otherwise what its text is read as: an expression, or a fault.
abbrev pub IsDomain : List ℕ → Result (Option Tree) TextFault → Type 0
IsDomain text (Ok None) = text ≡ []
IsDomain text (Ok (Some tree)) = (text ≢ []) × IsReading text (Ok tree)
IsDomain text (Err why) = (text ≢ []) × IsReading text (Err why)

-- The column gives a value, with which the row goes on; or it gives none, and is at fault.
abbrev pub Column : {T : Type 0} → (T → Type 0) → Type 0 → (T → Type 0) → Type 0
Column {T} Gives IsAtFault GoesOn = ((x : T) × Gives x × GoesOn x) ⊎ (((x : T) → Gives x → ⊥) × IsAtFault)

-- The row with this number stands for this restriction, or has this first fault: its columns are read from the left.
abbrev pub IsRow : Version → ℕ → List (List ℕ) → Result Restriction RecordFault → Type 0
IsRow v number (e ∷ d ∷ t ∷ text ∷ []) answer =
    Column (IsNumber 10 e) (answer ≡ Err (fault.Element number)) (λ element.
    Column (IsWordFor d) (answer ≡ Err (fault.Direction number)) (λ closed.
    Column (AreTypes v t) (answer ≡ Err (fault.Vehicle number)) (λ vehicles.
    (read : Result (Option Tree) TextFault) × IsDomain text read × MatchResult read
    (λ domain. answer ≡ Ok (record { element = element; closed = closed; vehicles = vehicles; domain = domain }))
    (λ why. answer ≡ Err (fault.Domain number why)))))
IsRow v number _ answer = answer ≡ Err (fault.FieldCount number)
