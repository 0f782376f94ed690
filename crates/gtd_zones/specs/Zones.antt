-- The names of zones, and what their clocks show.
use Rattle.std.specs.Prelude.{◌≡◌, ◌==◌, ◌||◌, ◌&&◌, ◌⊎◌, ℕ, ℤ, ◌+ℤ◌, Bool, false, List, [], ◌∷◌, Ok, IsErr}
use Rattle.std.specs.List.{list_all}
use Rattle.std.specs.Char.{is_ascii_alphabetic, is_ascii_alphanumeric}
use Rattle.gtd_core.specs.Seconds.{IsMomentSecond}
use Rattle.jiff_core.specs.Timestamp.{IsTimestampNanos, nanos_of_seconds}
use Rattle.jiff_tz.specs.Tzif.{HasBadRule, RuleAgrees, tzif_view}
use Rattle.jiff_tz.specs.Tzif as table
use Rattle.jiff_tz.specs.TzifReader.{read_tzif}
use Rattle.jiff_tz.specs.declared.tzif.Tzif.{Tzif}

-- the byte is a letter, a digit, or one of `/`, `_`, `+` and `-`
abbrev pub is_name_byte : ℕ → Bool
is_name_byte byte = is_ascii_alphanumeric byte || byte == 47 || byte == 95 || byte == 43 || byte == 45

-- the text is a letter, and then such bytes
abbrev pub is_zone_name : List ℕ → Bool
is_zone_name [] = false
is_zone_name (first ∷ rest) = is_ascii_alphabetic first && list_all is_name_byte rest

-- the bytes are the file of a zone with this table: TZif, whose rule for later years agrees with its last row
abbrev pub IsTableOf : List ℕ → Tzif → Type 0
IsTableOf file z = (read_tzif file ≡ Ok (tzif_view z)) × RuleAgrees z

-- the bytes are no file of a zone: they are no TZif, or their rule does not agree with their last row
abbrev pub IsNoZone : List ℕ → Type 0
IsNoZone file = IsErr (read_tzif file) ⊎ HasBadRule (read_tzif file)

-- what the clock shows at an instant: its second, moved by the offset that the table has at the instant
abbrev pub shown_at : Tzif → ℤ → ℤ
shown_at z instant = instant +ℤ (table.offset_at z (nanos_of_seconds instant)).seconds

-- the clock of the zone with this file shows the second at the instant
abbrev pub ShowsAt : List ℕ → ℤ → ℤ → Type 0
ShowsAt file instant second = (z : Tzif) × IsTableOf file z × (second ≡ shown_at z instant)

-- what the clock shows is no moment, or `jiff` has no such instant
abbrev pub ShowsNone : Tzif → ℤ → Type 0
ShowsNone z instant = IsTimestampNanos (nanos_of_seconds instant) → IsMomentSecond (shown_at z instant) → ⊥

-- the clock of the zone with this file does so
abbrev pub IsOutOfRange : List ℕ → ℤ → Type 0
IsOutOfRange file instant = (z : Tzif) × IsTableOf file z × ShowsNone z instant
