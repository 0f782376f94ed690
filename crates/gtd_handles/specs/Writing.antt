-- Bytes that are written into a buffer of the caller.
use Rattle.std.specs.Prelude.{◌≡◌, ◌≤◌, ◌<◌, ◌⊎◌, ◌++◌, ℕ, List, length, drop}
use Rattle.gtd_handles.specs.Answers.{gtd_short, gtd_yes}

-- Yes, and the bytes stand at the front of the buffer; or too little room, and the buffer is as it was. Their number is given
-- either way.
abbrev pub IsWritten : List ℕ → ℕ → List ℕ → List ℕ → ℕ → Type 0
IsWritten bytes answer old new count = (count ≡ length bytes)
    × (((answer ≡ gtd_yes) × (length bytes ≤ length old) × (new ≡ bytes ++ drop (length bytes) old))
    ⊎ ((answer ≡ gtd_short) × (length old < length bytes) × (new ≡ old)))
