-- What listing the faults of a file did, by its answer.
use Rattle.std.specs.Prelude.{◌≡◌, ◌≤◌, ℕ, ◌+◌, List, length, take, Option, Result, Ok, Err}
use Rattle.std.specs.Io.KnownBytes.{Appends, Keeps}
use Rattle.gtd_devices.specs.declared.whole.InputFault.{InputFault}
use Rattle.gtd_devices.specs.declared.whole.InputFault.TheVariants as input
use Rattle.gtd_warnings.specs.declared.file.Asked.{Asked}
use Rattle.gtd_faults.specs.Listing.{IsList}
use Rattle.gtd_faults.specs.declared.list_fault.ListFault.{ListFault}
use Rattle.gtd_faults.specs.declared.list_fault.ListFault.TheVariants as fault

-- The output took a first part of a text, which may be none or all of it.
abbrev pub TookSome : Option (List ℕ) → Option (List ℕ) → List ℕ → Type 0
TookSome old new text = (n : ℕ) × (n ≤ length text) × Appends old new (take n text)

-- What the output took of a text: all of it, and the answer is this number; a first part of it, if the output failed;
-- nothing, if the input failed or memory was refused.
abbrev pub HasPut : List ℕ → ℕ → Option (List ℕ) → Option (List ℕ) → Result ℕ ListFault → Type 0
HasPut text number old new (Ok count) = (count ≡ number) × Appends old new text
HasPut text number old new (Err fault.WriteFault) = TookSome old new text
HasPut text number old new (Err fault.ReadFault) = Keeps old new
HasPut text number old new (Err fault.Endless) = Keeps old new
HasPut text number old new (Err fault.NoMemory) = Keeps old new

-- What the output took of the list of a file with these bytes, with its warnings if they are asked for. The answer is the number
-- of its faults.
abbrev pub HasListed : List ℕ → Option Asked → List ℕ → Option (List ℕ) → Option (List ℕ) → Result ℕ ListFault → Type 0
HasListed path asked bytes old new (Ok count) =
    (text : List ℕ) × IsList path bytes asked count text × Appends old new text
HasListed path asked bytes old new (Err fault.WriteFault) =
    (text : List ℕ) × (count : ℕ) × IsList path bytes asked count text × TookSome old new text
HasListed path asked bytes old new (Err why) = Keeps old new

-- Why a list is not put, for a fault of the input.
abbrev pub list_fault_of : InputFault → ListFault
list_fault_of input.ReadFault = fault.ReadFault
list_fault_of input.TooLarge = fault.ReadFault
list_fault_of input.Endless = fault.Endless
list_fault_of input.NoMemory = fault.NoMemory

-- one more failure of the input exactly if the answer is that it failed
abbrev pub failures_after_reading : {T : Type 0} → Result T ListFault → ℕ → ℕ
failures_after_reading (Err fault.ReadFault) count = count + 1
failures_after_reading _ count = count

-- one more failure of the output exactly if the answer is that it failed
abbrev pub failures_after_listing : {T : Type 0} → Result T ListFault → ℕ → ℕ
failures_after_listing (Err fault.WriteFault) count = count + 1
failures_after_listing _ count = count
