-- What the enumeration of a day's clock finds.
use Rattle.std.specs.Prelude.{◌≡◌, ℕ, ◌+◌, ◌*◌, ◌/◌, ◌%◌, ◌<◌, ◌≤◌, Bool, true, false, ◌&&◌, ◌==◌, if◌then◌else◌, Option, Some}
use Rattle.std.specs.Prelude.{None}
use Rattle.gtd_core.specs.Limits.{day_seconds}
use Rattle.gtd_core.specs.declared.start.StartParts.{StartParts}
use Rattle.gtd_recur.specs.Begins.{agrees, begins_at}

-- the last number up to a limit that passes a test, if there is one
abbrev pub IsLastPassing : (ℕ → Bool) → ℕ → Option ℕ → Type 0
IsLastPassing test limit (Some k) = (k ≤ limit) × (test k ≡ true) × ((j : ℕ) → k < j → j ≤ limit → test j ≡ false)
IsLastPassing test limit None = (j : ℕ) → j ≤ limit → test j ≡ false

-- the latest second of a day, up to a limit, at which the clock fits, if there is one
abbrev pub IsLatestBegin : StartParts → ℕ → Option ℕ → Type 0
IsLatestBegin p limit o = IsLastPassing (begins_at p) limit o

-- the greatest number of sixties that, with an offset, stays within a limit
abbrev pub IsSixtiesWithin : ℕ → ℕ → Option ℕ → Type 0
IsSixtiesWithin limit offset (Some i) = (60 * i + offset ≤ limit) × (limit < 60 * (i + 1) + offset)
IsSixtiesWithin limit offset None = limit < offset

-- the place of a minute in its hour fits
abbrev pub minute_fits : Option ℕ → ℕ → Bool
minute_fits m i = agrees m (i % 60)

-- the first second of a day, from one on, that passes a test, if there is one
abbrev pub IsNextPassing : (ℕ → Bool) → ℕ → Option ℕ → Type 0
IsNextPassing test from (Some k) =
    (from ≤ k) × (k < day_seconds) × (test k ≡ true) × ((j : ℕ) → from ≤ j → j < k → test j ≡ false)
IsNextPassing test from None = (j : ℕ) → from ≤ j → j < day_seconds → test j ≡ false

-- the value that a level of the clock must have, unless it is free
abbrev pub held : Option ℕ → Bool → Option ℕ
held (Some x) finer = Some x
held None finer = if finer then None else Some 0

-- the clock shows this at a second of the day
unfoldable pub shows : Option ℕ → Option ℕ → ℕ → ℕ → Bool
shows hour minute second k = agrees hour (k / 3600) && (agrees minute (k / 60 % 60) && (second == k % 60))
