-- What names the day of a start.
use Rattle.std.specs.Prelude.{ℕ, ◌==◌, ◌||◌, Bool, true, false, Option, Some, None, if◌then◌else◌}
use Rattle.gtd_core.specs.declared.start.StartParts.{StartParts}
use Rattle.gtd_ends.specs.declared.anchor.Anchor.{Anchor}
use Rattle.gtd_ends.specs.declared.anchor.Anchor.TheVariants.{Day, Place, PlaceBack, Weekdays, EveryDay, TheMonday, Beginning}

abbrev pub is_given : {A : Type 0} → Option A → Bool
is_given None = false
is_given (Some field) = true

-- a start with an hour, a minute or a second
abbrev pub has_clock : StartParts → Bool
has_clock start = is_given start.hour || (is_given start.minute || is_given start.second)

-- What names the day: the day of the month, else a place, else weekdays. If none is given, it is each day if the clock is
-- given, else the Monday of a given week, else the beginning of the month or year.
abbrev pub anchor_from : Option ℕ → Option (ℕ × ℕ) → Option (ℕ × ℕ) → ℕ → Bool → Bool → Anchor
anchor_from (Some day) nth nth_back weekdays clock week = Day day
anchor_from None (Some place) nth_back weekdays clock week = Place place
anchor_from None None (Some place) weekdays clock week = PlaceBack place
anchor_from None None None weekdays clock week =
    if weekdays == 0 then (if clock then EveryDay else (if week then TheMonday else Beginning)) else Weekdays weekdays

unfoldable pub anchor_of : StartParts → Anchor
anchor_of start =
    anchor_from start.day start.nth start.nth_back start.weekdays (has_clock start) (is_given start.week)
