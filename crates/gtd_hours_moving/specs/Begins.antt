-- Which tokens begin a range of days that moves, or Easter of a year, by their kinds alone, whatever their numbers are: a place
-- of a weekday in a month or Easter, with its offset and a dash behind it; a day of a month and a dash, with a month and a
-- weekday or Easter behind; or a year and Easter. A year may stand before each end.
use Rattle.std.specs.Prelude.{ℕ, ◌&&◌, ◌||◌, not, Bool, List, if◌then◌else◌}
use Rattle.gtd_hours_tokens.specs.declared.token.Token.{Token}
use Rattle.gtd_hours_moving.specs.Kinds.{begins, is_bracket, is_closing, is_dash, is_day, is_month, is_number, is_sign}
use Rattle.gtd_hours_moving.specs.Kinds.{is_weekday, is_year, later}
use Rattle.gtd_hours_moving.specs.Words.{begins_easter}

-- what is behind a year, if the tokens begin with one
abbrev pub behind_year : List Token → List Token
behind_year ts = if begins is_year ts then later ts else ts

-- `[1]` or `[-1]`: from its number on
abbrev pub at_number : List Token → List Token
at_number ts = if begins is_dash (later ts) then later (later ts) else later ts

abbrev pub begins_brackets : List Token → Bool
begins_brackets ts = begins is_bracket ts && begins is_number (at_number ts) && begins is_closing (later (at_number ts))

abbrev pub behind_brackets : List Token → List Token
behind_brackets ts = later (later (at_number ts))

-- `+1 day`
abbrev pub begins_offset : List Token → Bool
begins_offset ts = begins is_sign ts && begins is_number (later ts) && begins is_day (later (later ts))

abbrev pub behind_offset : List Token → List Token
behind_offset ts = if begins_offset ts then later (later (later ts)) else ts

-- `Su[-1] +1 day` or `15`: what is behind the end of a month
abbrev pub behind_month : List Token → List Token
behind_month ts = if begins is_weekday ts then behind_offset (behind_brackets (later ts)) else later ts

-- `Mar Su[-1] +1 day-`
abbrev pub begins_from_place : List Token → Bool
begins_from_place ts =
    begins is_month ts && begins is_weekday (later ts) && begins_brackets (later (later ts))
    && begins is_dash (behind_month (later ts))

-- `Dec Su`
abbrev pub begins_weekday_in : List Token → Bool
begins_weekday_in ts = begins is_month ts && begins is_weekday (later ts)

-- `easter`, or `Dec Su`
abbrev pub begins_moved_end : List ℕ → List Token → Bool
begins_moved_end text ts = begins_easter text ts || begins_weekday_in ts

-- `Oct 15-Dec Su`, `Jan 6-easter`, or also with a year: `Oct 15-2027 Dec Su`
abbrev pub begins_to_moved : Bool → List ℕ → List Token → Bool
begins_to_moved dated text ts =
    begins is_month ts && begins is_number (later ts) && begins is_dash (later (later ts))
    && begins_moved_end text (if dated then behind_year (later (later (later ts))) else later (later (later ts)))

-- `+1 day-`, or a dash that is not before a weekday
abbrev pub goes_on_by_dash : List Token → Bool
goes_on_by_dash ts =
    if begins_offset ts then begins is_dash (behind_offset ts)
    else begins is_dash ts && not (begins is_weekday (later ts))

-- `easter +1 day-`
abbrev pub begins_from_easter : List ℕ → List Token → Bool
begins_from_easter text ts = begins_easter text ts && goes_on_by_dash (later ts)

-- `2026 easter`
abbrev pub begins_easter_of_year : List ℕ → List Token → Bool
begins_easter_of_year text ts = begins is_year ts && begins_easter text (later ts)

abbrev pub begins_moving : List ℕ → List Token → Bool
begins_moving text ts =
    begins_from_place (behind_year ts) || begins_to_moved (begins is_year ts) text (behind_year ts)
    || begins_from_easter text (behind_year ts) || begins_easter_of_year text ts

-- what is behind the end of a range: behind `Su[-1] +1 day` or `15` and their month, or `easter +1 day`
abbrev pub behind_end : List ℕ → List Token → List Token
behind_end text ts = if begins_easter text ts then behind_offset (later ts) else behind_month (later ts)
