-- What is listed of the rows of a file, one after another.
use Rattle.std.specs.Prelude.{◌≡◌, ◌≤◌, ◌⊎◌, ◌+◌, ◌++◌, ℕ, Bool, true, false, List, [], ◌∷◌, Option, Some, None, ⊤}
use Rattle.std.specs.Prelude.{length, map, min, string_bytes}
use Rattle.std.specs.List.{Contains}
use Rattle.csv.specs.Reading.{default_config, records, strip_bom}
use Rattle.gtd_core.specs.Limits.{most_rows}
use Rattle.gtd_mistakes.specs.declared.rule.Rule.TheVariants as rule
use Rattle.gtd_mistakes.specs.declared.told.Told.{Told}
use Rattle.gtd_rows.specs.Columns.{Fields}
use Rattle.gtd_records.specs.Faults.{AreRowFaults}
use Rattle.gtd_records.specs.File.{header}
use Rattle.gtd_records.specs.RowTakers.{IsHeader}
use Rattle.gtd_records.specs.declared.fault.RecordFault.{RecordFault}
use Rattle.gtd_records.specs.declared.fault.RecordFault.TheVariants as fault
use Rattle.gtd_rows.specs.declared.rows.RowsEnd.{RowsEnd}
use Rattle.gtd_rows.specs.declared.rows.RowsEnd.TheVariants as end
use Rattle.gtd_rows.specs.declared.vehicles.Version.{Version}
use Rattle.gtd_warnings.specs.Codes.{AreLoneOfRows, codes_named, naming, rows_needed}
use Rattle.gtd_warnings.specs.RowsTold.{AreToldOfRows}
use Rattle.gtd_warnings.specs.declared.codes.LoneCode.{LoneCode}
use Rattle.gtd_warnings.specs.declared.file.Asked.{Asked}
use Rattle.gtd_lines.specs.Cut.{IsPlace}
use Rattle.gtd_faults.specs.Doubts.{AreDoubtLines, AreLoneLines}
use Rattle.gtd_faults.specs.Listing.{AreLines}
use Rattle.gtd_faults.specs.Naming.{AreKept}
use Rattle.gtd_lines.specs.declared.cut.Place.{Place}
use Rattle.gtd_faults.specs.declared.doubts.DoubtLines.{DoubtLines}
use Rattle.gtd_faults.specs.declared.lines.FaultLines.{FaultLines}
use Rattle.gtd_faults.specs.declared.listing.Listing.{Listing}

-- ---- faults

-- one fault more, with its lines
pub record HasOneMore (bytes : List ℕ) (why : RecordFault) (old new : FaultLines) : Type 0 where
  pub path : new.path ≡ old.path
  pub faults : new.faults.items ≡ old.faults.items ++ why ∷ []
  pub lines : AreLines old.path.now bytes old.faults.items (string_bytes old.text)
      → AreLines old.path.now bytes new.faults.items (string_bytes new.text)

-- The fault that ends a file's rows, if one does, was added: it has no header, or there is one more after the last that may be,
-- where this is the place of a row that was reached.
abbrev pub HasEnded : List ℕ → Place → ℕ → RowsEnd → FaultLines → FaultLines → Type 0
HasEnded bytes place reached end.NoHeader old new = HasOneMore bytes fault.Header old new
HasEnded bytes place reached end.TooMany old new =
    reached ≤ most_rows → IsPlace bytes reached place → HasOneMore bytes fault.TooManyRows old new
HasEnded bytes place reached end.All old new = new ≡ old
HasEnded bytes place reached end.Stopped old new = new ≡ old

-- the faults of these rows, and their lines
pub record AreFaulted (path bytes : List ℕ) (v : Version) (rows : List Fields) (lines : FaultLines) : Type 0 where
  pub of_file : lines.path.now ≡ path
  pub each : AreRowFaults v 1 rows lines.faults.items
  pub text : AreLines path bytes lines.faults.items (string_bytes lines.text)

-- ---- warnings

-- the lines of what is told of these rows, and which of them name which codes
pub record AreDoubted (path : List ℕ) (asked : Asked) (bytes : List ℕ) (v : Version) (rows : List Fields) (lines : DoubtLines)
    : Type 0 where
  pub of_file : lines.path.now ≡ path
  pub is_asked : lines.asked.now ≡ asked
  pub told : List Told
  pub each : AreToldOfRows asked 1 rows told
  pub text : AreDoubtLines path bytes told (string_bytes lines.text)
  pub kept : AreKept path bytes (map (codes_named v) rows) lines.by_code.items
  pub counted : lines.naming ≡ min (naming (map (codes_named v) rows)) rows_needed

-- the codes of these rows that one alone names, unless the rule is turned off
abbrev pub AreLoneUnlessOff : Asked → List (List ℕ) → List LoneCode → Type 0
AreLoneUnlessOff asked named lone =
    ((Contains asked.off.items rule.LoneCode → ⊥) × AreLoneOfRows named lone)
    ⊎ (Contains asked.off.items rule.LoneCode × (lone ≡ []))

-- the lines of all warnings of these rows
pub record AreDoubtsOfRows (path : List ℕ) (asked : Asked) (bytes : List ℕ) (v : Version) (rows : List Fields) (text : List ℕ)
    : Type 0 where
  pub told : List Told
  pub each : AreToldOfRows asked 1 rows told
  pub first : List ℕ
  pub told_lines : AreDoubtLines path bytes told first
  pub lone : List LoneCode
  pub all_lone : AreLoneUnlessOff asked (map (codes_named v) rows) lone
  pub last : List ℕ
  pub lone_lines : AreLoneLines path bytes lone last
  pub whole : text ≡ first ++ last

-- the same, if they are asked for
abbrev pub AreDoubtedIfAsked : List ℕ → Option Asked → List ℕ → Version → List Fields → Option DoubtLines → Type 0
AreDoubtedIfAsked path (Some asked) bytes v rows (Some lines) = AreDoubted path asked bytes v rows lines
AreDoubtedIfAsked path None bytes v rows None = ⊤
AreDoubtedIfAsked path asked bytes v rows lines = ⊥

abbrev pub AreDoubtsIfAsked : List ℕ → Option Asked → List ℕ → Version → List Fields → List ℕ → Type 0
AreDoubtsIfAsked path (Some asked) bytes v rows text = AreDoubtsOfRows path asked bytes v rows text
AreDoubtsIfAsked path None bytes v rows text = text ≡ []

-- ---- rows

-- what is listed of these rows, the first of a file, of which the one that was reached, or the header, begins at the place
pub record AreListed (path : List ℕ) (asked : Option Asked) (bytes : List ℕ) (v : Version) (rows : List Fields)
    (listing : Listing) : Type 0 where
  pub of_file : listing.bytes.now ≡ bytes
  pub reached : listing.reached ≤ length rows
  pub place : IsPlace bytes listing.reached listing.place
  pub faulted : AreFaulted path bytes v rows listing.faults
  pub doubted : AreDoubtedIfAsked path asked bytes v rows listing.doubts

-- the first record is the header of the version, or of none; of no row is anything listed
abbrev pub BeginsListing : Listing → Fields → Listing → Bool → Type 0
BeginsListing old first new is =
    IsHeader first new.rows.version is
    × ((path bytes : List ℕ) (asked : Option Asked) (v : Version) → AreListed path asked bytes v [] old
    → AreListed path asked bytes v [] new)

-- one row more is listed
abbrev pub TakesRow : Listing → ℕ → Fields → Listing → Bool → Type 0
TakesRow old number row new false = ⊥
TakesRow old number row new true =
    (new.rows.version ≡ old.rows.version)
    × ((path bytes : List ℕ) (asked : Option Asked) (before after : List Fields)
    → records default_config (strip_bom bytes) ≡ header old.rows.version ∷ (before ++ row ∷ after) → number ≡ length before + 1
    → AreListed path asked bytes old.rows.version before old
    → AreListed path asked bytes old.rows.version (before ++ row ∷ []) new)
