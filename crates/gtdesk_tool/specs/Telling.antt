-- What the output for errors took.
use Rattle.std.specs.Prelude.{◌≡◌, ◌⊎◌, ◌+◌, ◌∷◌, [], ℕ, List, Option}
use Rattle.std.specs.Io.KnownBytes.{Appends, Keeps}
use Rattle.gtd_faults.specs.Run.{TookSome}

-- What it took: before and after, and how often it had failed.
pub record Telling : Type 0 where
  pub before : Option (List ℕ)
  pub after : Option (List ℕ)
  pub failed_before : ℕ
  pub failed_after : ℕ

abbrev pub telling : Option (List ℕ) → Option (List ℕ) → ℕ → ℕ → Telling
telling before after failed_before failed_after =
    record { before = before; after = after; failed_before = failed_before; failed_after = failed_after }

-- It took a text whole; or it failed once, and had taken a first part, which may be none or all of it.
abbrev pub Told : Telling → List ℕ → Type 0
Told errors text =
    (Appends errors.before errors.after text × (errors.failed_after ≡ errors.failed_before))
    ⊎ (TookSome errors.before errors.after text × (errors.failed_after ≡ errors.failed_before + 1))

-- It took nothing, and did not fail.
abbrev pub IsUntold : Telling → Type 0
IsUntold errors = Keeps errors.before errors.after × (errors.failed_after ≡ errors.failed_before)

-- It took a text, if there is one.
abbrev pub ToldIfSome : Telling → List ℕ → Type 0
ToldIfSome errors [] = IsUntold errors
ToldIfSome errors (byte ∷ text) = Told errors (byte ∷ text)
