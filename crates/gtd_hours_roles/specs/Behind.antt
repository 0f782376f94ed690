-- What stands behind the items of a text.
use Rattle.std.specs.Prelude.{ℕ, ◌==◌, Bool, true, false, if◌then◌else◌}
use Rattle.gtd_hours_days.specs.declared.listed.EasterDays.{EasterDays}
use Rattle.gtd_hours_days.specs.declared.listed.EasterDays.TheVariants as easter
use Rattle.gtd_hours_days.specs.declared.listed.Listed.{Listed}
use Rattle.gtd_hours_days.specs.declared.listed.Listed.TheVariants as listed
use Rattle.gtd_hours_tokens.specs.declared.token.TokenKind.{TokenKind}
use Rattle.gtd_hours_tokens.specs.declared.token.TokenKind.TheVariants as kind
use Rattle.gtd_hours_items.specs.declared.items.Item.{Item}
use Rattle.gtd_hours_items.specs.declared.items.What.{What}
use Rattle.gtd_hours_items.specs.declared.items.What.TheVariants as what
use Rattle.gtd_hours_roles.specs.declared.behind.Behind.{Behind}
use Rattle.gtd_hours_roles.specs.declared.behind.Behind.TheVariants as behind
use Rattle.gtd_hours_roles.specs.declared.behind.Last.{Last}
use Rattle.gtd_hours_roles.specs.declared.behind.Last.TheVariants as last
use Rattle.gtd_hours_roles.specs.declared.behind.Position.{Position}
use Rattle.gtd_hours_roles.specs.declared.role.Role.{Role}
use Rattle.gtd_hours_roles.specs.declared.role.Role.TheVariants as role

-- a comment that says something of its rule
abbrev pub is_commented : Behind → Bool
is_commented behind.Commented = true
is_commented b = false

-- the beginning of a range of days that has a fault
abbrev pub is_faulty : Last → Bool
is_faulty (last.NoDates bad) = true
is_faulty l = false

abbrev pub after_leading : Behind → ℕ → Behind
after_leading (behind.Led at) from = behind.Led at
after_leading b from = behind.Led from

abbrev pub after_listed : Behind → Behind
after_listed behind.Front = behind.Holidays
after_listed behind.Years = behind.Holidays
after_listed behind.MonthDays = behind.Holidays
after_listed (behind.Moving beside) = behind.Holidays
after_listed behind.Weeks = behind.Holidays
after_listed behind.Colon = behind.Holidays
after_listed (behind.Weekdays l) = behind.Mixed
after_listed b = b

abbrev pub after_number : Behind → ℕ → Behind
after_number behind.Front digits = if digits == 4 then behind.Years else behind.Done
after_number b digits = b

abbrev pub after_month : Behind → Behind
after_month behind.Front = behind.MonthDays
after_month behind.Years = behind.MonthDays
after_month (behind.Moving beside) = behind.Moving true
after_month b = b

-- behind a range of days that moves or Easter, beside months and dates or not
abbrev pub after_dated : Behind → Behind
after_dated behind.Front = behind.Moving false
after_dated behind.Years = behind.Moving false
after_dated behind.MonthDays = behind.Moving true
after_dated b = b

abbrev pub after_weekday : Behind → Behind
after_weekday (behind.Led from) = behind.Weekdays true
after_weekday (behind.Weekdays l) = behind.Weekdays l
after_weekday (behind.Places l) = behind.Weekdays l
after_weekday b = behind.Weekdays false

abbrev pub after_open : Behind → Behind
after_open (behind.Weekdays l) = behind.Places l
after_open b = b

abbrev pub after_close : Behind → Behind
after_close (behind.Places l) = behind.Weekdays l
after_close b = b

-- Behind a colon days and times can stand, and no list goes on.
abbrev pub after_colon : Behind → Behind
after_colon behind.Years = behind.Colon
after_colon behind.MonthDays = behind.Colon
after_colon (behind.Moving beside) = behind.Colon
after_colon behind.Weeks = behind.Colon
after_colon b = b

abbrev pub after_token : Behind → TokenKind → Behind
after_token b (kind.Number v d) = after_number b d
after_token b (kind.Month m) = after_month b
after_token b (kind.Weekday d) = after_weekday b
after_token b kind.Week = behind.Weeks
after_token b (kind.Time h m) = behind.Times
after_token b kind.Open = behind.Done
after_token b kind.Closed = behind.Done
after_token b kind.OpenBracket = after_open b
after_token b kind.CloseBracket = after_close b
after_token b kind.Colon = after_colon b
after_token b k = b

abbrev pub after_what : Behind → What → Behind
after_what b (what.Token k) = after_token b k
after_what b (what.Every place) = after_number b 4
after_what b w = b

-- Behind an item with this role.
abbrev pub behind_after : Behind → Role → Item → Behind
behind_after b (role.Begins l) item = behind.Front
behind_after b role.Fallback item = behind.Front
behind_after b (role.Leading h) item = after_leading b item.from
behind_after b (role.Listed h) item = after_listed b
behind_after b (role.Dated days) item = after_dated b
behind_after b (role.Known days place) item = after_dated b
behind_after b role.Misfit item = b
behind_after b role.Silent item = behind.Done
behind_after b role.UnknownWord item = behind.Done
behind_after b role.Remark item = behind.Commented
behind_after b role.UnknownComment item = behind.Commented
behind_after b r item = after_what b item.what

-- ---- what the last item is

abbrev pub last_token : TokenKind → Last
last_token kind.Comma = last.Comma
last_token (kind.Number v d) = last.Unfinished
last_token kind.Plus = last.Unfinished
last_token kind.Dash = last.Dash
last_token kind.Open = last.Modifier
last_token kind.Closed = last.Modifier
last_token kind.Week = last.NoComment
last_token kind.CloseBracket = last.Bracket
last_token k = last.Other

abbrev pub last_holiday : Listed → Last
last_holiday (listed.Public offset) = last.Public
last_holiday h = last.Other

-- behind a range to or from Easter it is as behind any other
abbrev pub last_easter : EasterDays → Last
last_easter (easter.Day offset) = last.Easter
last_easter (easter.Range range) = last.Dates

abbrev pub last_of : What → Last
last_of (what.Token k) = last_token k
last_of (what.Holiday h) = last_holiday h
last_of (what.Dates days) = last.Dates
last_of (what.NoDates bad by_easter) = last.NoDates bad
last_of (what.Easter days place) = last_easter days
last_of (what.Every place) = last.Unfinished
last_of what.Comment = last.NoComment
last_of what.Unknown = last.Modifier
last_of what.Fallback = last.Other

abbrev pub front : Position
front = record { behind = behind.Front; last = last.Other }

-- The position behind an item with this role.
abbrev pub after : Position → Role → Item → Position
after p r item = record { behind = behind_after p.behind r item; last = last_of item.what }
