-- What a run that translates a file of hours did, by its answer.
use Rattle.std.specs.Prelude.{◌≡◌, ◌⊎◌, ℕ, ◌+◌, List, ◌++◌, length, string_bytes, Option, IfSome, Result, Ok, Err, ⊤}
use Rattle.std.specs.Io.KnownBytes.{Appends, Keeps}
use Rattle.gtd_migrate.specs.Migrated.{migrated}
use Rattle.gtd_records.specs.Closing.{Restriction}
use Rattle.gtd_report.specs.Putting.{text_of}
use Rattle.gtd_report.specs.Run.{TookFirst}
use Rattle.gtd_hours_options.specs.Readings.{HowRead}
use Rattle.gtd_hours_file.specs.HoursFile.{IsHoursFile}
use Rattle.gtd_hours_file.specs.Listing.{AreLines}
use Rattle.gtd_hours_file.specs.Translated.{IsTranslation}
use Rattle.gtd_hours_file.specs.declared.fault.HoursFileFault.{HoursFileFault}
use Rattle.gtd_hours_file.specs.declared.row.HoursRow.{HoursRow}
use Rattle.gtd_hours_file.specs.declared.untranslated.Untranslated.{Untranslated}
use Rattle.gtd_hours_file.specs.declared.untranslated.Untranslated.TheVariants as why

-- The bytes are a file of hours that is read so, and the output took the record file that its rows are translated to,
-- which has so many lines.
pub record PutsRecords (how : HowRead) (bytes : List ℕ) (old new : Option (List ℕ)) (count : ℕ) : Type 0 where
  pub rows : List HoursRow
  pub found : List Restriction
  pub file : IsHoursFile how bytes (Ok rows)
  pub translation : IsTranslation rows found
  pub taken : Appends old new (text_of (migrated found))
  pub counted : count ≡ length (migrated found)

-- The bytes are a file of hours, and the output took the first n bytes of the header line and the lines of its first rows.
pub record TookFirstRecords (how : HowRead) (bytes : List ℕ) (old new : Option (List ℕ)) (n : ℕ) : Type 0 where
  pub first : List HoursRow
  pub rest : List HoursRow
  pub found : List Restriction
  pub file : IsHoursFile how bytes (Ok (first ++ rest))
  pub translation : IsTranslation first found
  pub took : TookFirst old new n (text_of (migrated found))

-- The text lists all faults of the bytes, which are at least one.
pub record IsFaultList (how : HowRead) (path bytes text : List ℕ) : Type 0 where
  pub faults : List HoursFileFault
  pub all : IsHoursFile how bytes (Err faults)
  pub lines : AreLines path bytes faults text

-- The answer for a file with these bytes and faults: their list, or that memory was refused.
abbrev pub IsRefusal : List ℕ → List ℕ → List HoursFileFault → Untranslated → Type 0
IsRefusal path bytes faults (why.Faults text) = AreLines path bytes faults (string_bytes text)
IsRefusal path bytes faults (why.NoMemory n) = n ≡ 0
IsRefusal path bytes faults answer = ⊥

-- the answer of a run that has read its input
abbrev pub IsStop : Untranslated → Type 0
IsStop why.ReadFault = ⊥
IsStop why.Endless = ⊥
IsStop answer = ⊤

-- What the output took, by the answer; and, if the input tells its bytes, what they are.
abbrev pub HasTranslated : HowRead → List ℕ → Option (List ℕ) → Option (List ℕ) → Option (List ℕ) → Result ℕ Untranslated
    → Type 0
HasTranslated how path file old new (Ok count) = IfSome file (λ bytes. PutsRecords how bytes old new count)
HasTranslated how path file old new (Err (why.Faults text)) =
    Keeps old new × IfSome file (λ bytes. IsFaultList how path bytes (string_bytes text))
HasTranslated how path file old new (Err why.ReadFault) = Keeps old new
HasTranslated how path file old new (Err why.Endless) = Keeps old new
HasTranslated how path file old new (Err (why.WriteFault n)) = IfSome file (λ bytes. TookFirstRecords how bytes old new n)
HasTranslated how path file old new (Err (why.NoMemory n)) =
    ((n ≡ 0) × Keeps old new) ⊎ IfSome file (λ bytes. TookFirstRecords how bytes old new n)

-- one more failure of the input exactly if the answer is that it failed
abbrev pub failures_after_reading : {T : Type 0} → Result T Untranslated → ℕ → ℕ
failures_after_reading (Err why.ReadFault) count = count + 1
failures_after_reading _ count = count

-- one more failure of the output exactly if the answer is that it failed
abbrev pub failures_after_putting : {T : Type 0} → Result T Untranslated → ℕ → ℕ
failures_after_putting (Err (why.WriteFault n)) count = count + 1
failures_after_putting _ count = count
