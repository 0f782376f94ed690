-- Where two numbers of four digits are times.
use Rattle.std.specs.Prelude.{ℕ, zero, suc, ◌/◌, ◌%◌, ◌&&◌, ◌||◌, ◌==◌, nat_le, nat_lt, Bool, true, false, List, [], ◌∷◌}
use Rattle.std.specs.Prelude.{Option, Some, None}
use Rattle.std.specs.Prelude.{if◌then◌else◌}
use Rattle.gtd_hours_loose_tokens.specs.declared.token.LooseKind.{LooseKind}
use Rattle.gtd_hours_loose_tokens.specs.declared.token.LooseKind.TheVariants as kind
use Rattle.gtd_hours_loose_tokens.specs.declared.token.LooseToken.{LooseToken}

-- A weekday, a holiday, or the bracket behind places of a weekday.
abbrev pub names_days : LooseKind → Bool
names_days (kind.Weekday d) = true
names_days kind.CloseBracket = true
names_days kind.PublicHoliday = true
names_days kind.SchoolHoliday = true
names_days k = false

abbrev pub is_dash : LooseKind → Bool
is_dash kind.Dash = true
is_dash k = false

-- Four digits that could be a time up to 48:00, and fewer than 1800, so that they are no year.
abbrev pub is_clock_number : LooseKind → Bool
is_clock_number (kind.Number v digits) = (digits == 4) && nat_lt (v % 100) 60 && nat_le v 4800
is_clock_number k = false

abbrev pub is_before_years : LooseKind → Bool
is_before_years (kind.Number v digits) = nat_lt v 1800
is_before_years k = false

-- The time that four digits are.
abbrev pub clock_of : LooseKind → LooseKind
clock_of (kind.Number v digits) = kind.Time (v / 100) (v % 100)
clock_of k = k

-- Three tokens are two such numbers, and a dash between them.
abbrev pub is_pair : LooseToken → LooseToken → LooseToken → Bool
is_pair a dash b = is_clock_number a.kind && is_dash dash.kind && is_clock_number b.kind

-- They are times, where days are named directly before them or not.
abbrev pub is_read : Bool → LooseToken → LooseToken → LooseToken → Bool
is_read days a dash b = is_pair a dash b && (days || is_before_years a.kind)

-- The tokens begin with a pair that is times.
abbrev pub begins_read : Bool → List LooseToken → Bool
begins_read days (a ∷ dash ∷ b ∷ ts) = is_read days a dash b
begins_read days ts = false

-- Some pair is times.
abbrev pub reads_pair : Bool → List LooseToken → Bool
reads_pair days [] = false
reads_pair days (t ∷ ts) = if begins_read days (t ∷ ts) then true else reads_pair (names_days t.kind) ts

abbrev pub begins_pair : List LooseToken → Bool
begins_pair (a ∷ dash ∷ b ∷ ts) = is_pair a dash b
begins_pair ts = false

-- The place of the first pair that is no times, where so many tokens are left out.
abbrev pub pair_left : ℕ → Bool → List LooseToken → Option ℕ
pair_left n days [] = None
pair_left (suc n) days (t ∷ ts) = pair_left n days ts
pair_left zero days (t ∷ ts) =
    if begins_read days (t ∷ ts) then pair_left 2 false ts
    else if begins_pair (t ∷ ts) then Some t.from
    else pair_left 0 (names_days t.kind) ts

-- Years or times: where one pair is read as times, the first pair that is not is refused.
abbrev pub pair_fault : List LooseToken → Option ℕ
pair_fault tokens = if reads_pair false tokens then pair_left 0 false tokens else None
