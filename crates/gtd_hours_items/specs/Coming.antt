-- What items to come are.
use Rattle.std.specs.Prelude.{ℕ, ◌+◌, ◌-◌, ◌&&◌, ◌||◌, ◌==◌, not, Bool, true, false, List, [], ◌∷◌, if◌then◌else◌}
use Rattle.gtd_hours_tokens.specs.declared.token.TokenKind.TheVariants as kind
use Rattle.gtd_hours_items.specs.declared.items.Item.{Item}
use Rattle.gtd_hours_items.specs.declared.items.What.{What}
use Rattle.gtd_hours_items.specs.declared.items.What.TheVariants as what

abbrev pub is_weekday : What → Bool
is_weekday (what.Token (kind.Weekday d)) = true
is_weekday w = false

abbrev pub is_holiday : What → Bool
is_holiday (what.Holiday h) = true
is_holiday w = false

-- a range of days that moves, or Easter
abbrev pub is_dates : What → Bool
is_dates (what.Dates days) = true
is_dates (what.NoDates bad by_easter) = true
is_dates (what.Easter days place) = true
is_dates w = false

abbrev pub is_comma : What → Bool
is_comma (what.Token kind.Comma) = true
is_comma w = false

abbrev pub is_month : What → Bool
is_month (what.Token (kind.Month m)) = true
is_month w = false

abbrev pub is_slash : What → Bool
is_slash (what.Token kind.Slash) = true
is_slash w = false

abbrev pub is_dash : What → Bool
is_dash (what.Token kind.Dash) = true
is_dash w = false

-- the bracket before places of a weekday in the month
abbrev pub is_bracket : What → Bool
is_bracket (what.Token kind.OpenBracket) = true
is_bracket w = false

abbrev pub is_time : What → Bool
is_time (what.Token (kind.Time h m)) = true
is_time w = false

-- a number, or what begins with one
abbrev pub is_number : What → Bool
is_number (what.Token (kind.Number v d)) = true
is_number (what.Every place) = true
is_number w = false

-- a number of one digit
abbrev pub is_digit : What → Bool
is_digit (what.Token (kind.Number v d)) = d == 1
is_digit w = false

-- what a number stands for
abbrev pub value_of : What → ℕ
value_of (what.Token (kind.Number v d)) = v
value_of w = 0

-- a number of four digits, or what begins with one
abbrev pub is_year : What → Bool
is_year (what.Token (kind.Number v d)) = d == 4
is_year (what.Every place) = true
is_year w = false

-- The first of the items is so.
abbrev pub begins : (What → Bool) → List Item → Bool
begins is [] = false
begins is (i ∷ later) = is i.what

-- a month or a number of four digits
abbrev pub begins_date : List Item → Bool
begins_date items = begins is_month items || begins is_year items

-- a month, a number of four digits, or a number that no slash follows
abbrev pub begins_month_days : List Item → Bool
begins_month_days [] = false
begins_month_days (i ∷ later) = is_month i.what || is_year i.what || (is_number i.what && not (begins is_slash later))

-- A holiday leads if, behind it, a weekday comes directly or after other holidays with commas before them.
abbrev pub leads : Bool → List Item → Bool
leads by_comma [] = false
leads true (i ∷ later) = is_holiday i.what && leads false later
leads false (i ∷ later) = is_weekday i.what || (is_comma i.what && leads true later)

-- how many places a range of them has: a digit, a dash and a digit; any other place is one
abbrev pub places_in : What → What → What → ℕ
places_in a b c = if is_digit a && is_dash b && is_digit c then value_of c + 1 - value_of a else 1

-- How many places of a weekday in the month stand there, up to a comma or the end of the brackets: `2` and `-1` are one each, and
-- `1-3` is three.
abbrev pub places : List Item → ℕ
places (i ∷ j ∷ k ∷ later) = places_in i.what j.what k.what
places items = 1
