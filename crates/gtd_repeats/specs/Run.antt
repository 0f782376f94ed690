-- What listing the repeats of a file did, by its answer.
use Rattle.std.specs.Prelude.{◌≡◌, ℕ, ⊤, List, Option, Result, Ok, Err}
use Rattle.std.specs.Io.KnownBytes.{Appends, Keeps}
use Rattle.gtd_records.specs.Closing.{Restriction}
use Rattle.gtd_records.specs.File.{IsFile, IsOfFile}
use Rattle.gtd_report.specs.Run.{TookFirst}
use Rattle.gtd_report.specs.declared.fault.RunFault.{RunFault}
use Rattle.gtd_report.specs.declared.fault.RunFault.TheVariants as fault
use Rattle.gtd_repeats.specs.Listing.{IsListing}

-- What the output took of a text: all of it, and the answer is this number; or its first bytes, if the output failed.
abbrev pub HasPut : List ℕ → ℕ → Option (List ℕ) → Option (List ℕ) → Result ℕ RunFault → Type 0
HasPut text number old new (Ok count) = (count ≡ number) × Appends old new text
HasPut text number old new (Err (fault.WriteFault written)) = TookFirst old new written text
HasPut text number old new (Err why) = ⊥

-- the bytes are a file, whose list was put, or a first part of it
pub record PutsListing (path bytes : List ℕ) (old new : Option (List ℕ)) (answer : Result ℕ RunFault) : Type 0 where
  pub found : List Restriction
  pub file : IsFile bytes (Ok found)
  pub count : ℕ
  pub text : List ℕ
  pub listing : IsListing path bytes found count text
  pub put : HasPut text count old new answer

-- What the output took, if the bytes are these: of a file its list; nothing of another, and the answer is its first fault; and
-- nothing where the input failed or memory was refused.
abbrev pub HasListed : List ℕ → List ℕ → Option (List ℕ) → Option (List ℕ) → Result ℕ RunFault → Type 0
HasListed path bytes old new (Ok count) = PutsListing path bytes old new (Ok count)
HasListed path bytes old new (Err (fault.WriteFault written)) = PutsListing path bytes old new (Err (fault.WriteFault written))
HasListed path bytes old new (Err (fault.Records why)) = Keeps old new × (IsOfFile why → IsFile bytes (Err why))
HasListed path bytes old new (Err (fault.NoMemory written)) = Keeps old new × (written ≡ 0)
HasListed path bytes old new (Err why) = ⊥

-- Where the file is refused, or memory, nothing was put: whatever the input tells of its bytes.
abbrev pub KeepsRefused : Option (List ℕ) → Option (List ℕ) → Result ℕ RunFault → Type 0
KeepsRefused old new (Err (fault.Records why)) = Keeps old new
KeepsRefused old new (Err (fault.NoMemory written)) = Keeps old new × (written ≡ 0)
KeepsRefused old new answer = ⊤
