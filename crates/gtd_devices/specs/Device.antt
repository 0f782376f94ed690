-- What a pull takes off the bytes still to come, and what a put adds to the bytes that were taken.
use Rattle.std.specs.Prelude.{◌≡◌, ◌<◌, ◌≤◌, ℕ, ◌+◌, Bool, true, false, List, take, Option, ⊤}
use Rattle.std.specs.Io.KnownBytes.{Keeps, Appends, Consumes, IsAtEnd}
use Rattle.gtd_devices.specs.declared.device.Pull.{Pull}
use Rattle.gtd_devices.specs.declared.device.Pull.TheVariants.{Got, Done, Failed}
use Rattle.gtd_devices.specs.declared.device.Put.{Put}
use Rattle.gtd_devices.specs.declared.device.Put.TheVariants as put

-- this many bytes came
abbrev pub IsGot : Pull → ℕ → Type 0
IsGot pull n = pull ≡ Got n

-- no more bytes came than there was room for
abbrev pub IsWithinRoom : Pull → ℕ → Type 0
IsWithinRoom (Got n) room = n ≤ room
IsWithinRoom Done room = ⊤
IsWithinRoom Failed room = ⊤

-- the bytes that came are the first of those still to come; the end comes only if there are none, and a failure takes
-- none
abbrev pub TakesOff : Option (List ℕ) → Option (List ℕ) → Pull → List ℕ → Type 0
TakesOff old new (Got n) buffer = Consumes old new (take n buffer)
TakesOff old new Done buffer = IsAtEnd old × Keeps old new
TakesOff old new Failed buffer = Keeps old new

-- a failure is counted, and nothing else is
abbrev pub failures_after_pull : Pull → ℕ → ℕ
failures_after_pull (Got n) count = count
failures_after_pull Done count = count
failures_after_pull Failed count = count + 1

-- at least one byte was taken, and no more than were offered
abbrev pub IsWithinOffer : Put → ℕ → Type 0
IsWithinOffer (put.Took n) offered = (0 < n) × (n ≤ offered)
IsWithinOffer put.Failed offered = ⊤

-- a first part of the bytes offered is added to those taken, and none at a failure
abbrev pub AddsFront : Option (List ℕ) → Option (List ℕ) → Put → List ℕ → Type 0
AddsFront old new (put.Took n) bytes = Appends old new (take n bytes)
AddsFront old new put.Failed bytes = Keeps old new

-- the end adds no byte
abbrev pub Finishes : Option (List ℕ) → Option (List ℕ) → Put → Type 0
Finishes old new (put.Took n) = (n ≡ 0) × Keeps old new
Finishes old new put.Failed = Keeps old new

-- the end came
abbrev pub has_ended : Put → Bool
has_ended (put.Took n) = true
has_ended put.Failed = false

-- a failure is counted, and nothing else is
abbrev pub failures_after_put : Put → ℕ → ℕ
failures_after_put (put.Took n) count = count
failures_after_put put.Failed count = count + 1
