-- What becomes of an item, by what stands behind and before it.
use Rattle.std.specs.Prelude.{ℕ, Bool, true, false, ◌&&◌, ◌||◌, ◌==◌, not, List, if◌then◌else◌}
use Rattle.gtd_hours.specs.declared.hours.Link.TheVariants as link
use Rattle.gtd_hours_days.specs.declared.listed.Listed.{Listed}
use Rattle.gtd_hours_days.specs.declared.listed.EasterDays.{EasterDays}
use Rattle.gtd_hours_tokens.specs.declared.token.TokenKind.{TokenKind}
use Rattle.gtd_hours_tokens.specs.declared.token.TokenKind.TheVariants as kind
use Rattle.gtd_hours_items.specs.declared.items.Item.{Item}
use Rattle.gtd_hours_items.specs.declared.items.What.{What}
use Rattle.gtd_hours_items.specs.declared.items.What.TheVariants as what
use Rattle.gtd_hours_roles.specs.declared.behind.Behind.{Behind}
use Rattle.gtd_hours_roles.specs.declared.behind.Behind.TheVariants as behind
use Rattle.gtd_hours_roles.specs.declared.behind.Last.{Last}
use Rattle.gtd_hours_roles.specs.declared.behind.Last.TheVariants as last
use Rattle.gtd_hours_roles.specs.declared.behind.Position.{Position}
use Rattle.gtd_hours_roles.specs.declared.role.Role.{Role}
use Rattle.gtd_hours_roles.specs.declared.role.Role.TheVariants as role
use Rattle.gtd_hours_roles.specs.Behind.{is_commented, is_faulty}
use Rattle.gtd_hours_items.specs.Coming.{begins, begins_date, begins_month_days, is_bracket, is_dates, is_holiday}
use Rattle.gtd_hours_items.specs.Coming.{is_month, is_number, is_time, is_weekday, is_year, leads, places}

-- a holiday where a list of days begins
abbrev pub first_role : Listed → List Item → Role
first_role h later = if leads false later then role.Leading h else role.Listed h

-- A holiday in a list with weekdays, where holidays lead it or not. A comma joins it, unless holidays lead.
abbrev pub joined_role : Bool → Last → Listed → Role
joined_role false last.Comma h = role.Listed h
joined_role led last.Unfinished h = role.Misfit
joined_role led last.Dash h = role.Misfit
joined_role led l h = role.Doubtful

abbrev pub holiday_role : Behind → Last → Listed → List Item → Role
holiday_role behind.Front l h later = first_role h later
holiday_role behind.Years l h later = first_role h later
holiday_role behind.MonthDays l h later = first_role h later
holiday_role (behind.Moving beside) l h later = first_role h later
holiday_role behind.Weeks l h later = first_role h later
holiday_role behind.Colon l h later = first_role h later
holiday_role (behind.Led from) l h later = role.Leading h
holiday_role (behind.Weekdays led) l h later = joined_role led l h
holiday_role b l h later = role.Listed h

-- a comma goes on with a list, or a rule begins
abbrev pub kept_if : Bool → Role
kept_if b = if b then role.Kept else role.Begins link.Also

-- a comma behind a list of days, with weekdays or without: in the rule's own text it stands between weekdays alone
abbrev pub days_comma : Bool → List Item → Role
days_comma weekdays later =
    if begins is_weekday later then if weekdays then role.Kept else role.Unwritten
    else if begins is_holiday later then role.Unwritten
    else role.Begins link.Also

-- Month days go on behind a comma: directly behind a range that moves or Easter not with the number of a day.
abbrev pub dates_go_on : Last → List Item → Bool
dates_go_on last.Dates later = begins_date later
dates_go_on last.Easter later = begins_date later
dates_go_on l later = begins_month_days later

-- A comma behind a list of month days, with months or dates or without: in the rule's own text it stands between these alone, and
-- with it the next of them begins.
abbrev pub dates_comma : Bool → Last → List Item → Role
dates_comma beside l later =
    if begins is_dates later then role.Unwritten
    else if dates_go_on l later then if beside then role.MonthDay else role.Unwritten
    else role.Begins link.Also

abbrev pub comma_role : Behind → Last → List Item → Role
comma_role (behind.Led from) l later = role.Gone
comma_role behind.Holidays l later = days_comma false later
comma_role (behind.Weekdays led) l later = days_comma true later
comma_role behind.Mixed l later = days_comma true later
comma_role behind.Years l later = kept_if (begins is_year later)
comma_role behind.MonthDays l later = dates_comma true l later
comma_role (behind.Moving beside) l later = dates_comma beside l later
comma_role behind.Weeks l later = kept_if (begins is_number later)
comma_role behind.Times l later = kept_if (begins is_time later)
comma_role (behind.Places led) l later = role.Weekdays (places later)
comma_role b l later = role.Begins link.Also

-- a weekday that does not end a range is one selector; of one with places in brackets each place is one
abbrev pub begun_role : List Item → Role
begun_role later = if begins is_bracket later then role.Kept else role.Weekdays 1

-- a weekday: directly behind a holiday in a list of weekdays people read it in two ways
abbrev pub weekday_role : Behind → Last → List Item → Role
weekday_role behind.Mixed last.Comma later = begun_role later
weekday_role behind.Mixed l later = role.Doubtful
weekday_role b last.Dash later = role.Kept
weekday_role b l later = begun_role later

-- a sign or a bracket, which becomes this where no holidays stand: these have none
abbrev pub bracket_role : Role → Behind → Role
bracket_role r behind.Holidays = role.Misfit
bracket_role r behind.Mixed = role.Misfit
bracket_role r b = r

-- a sign: holidays and Easter have no more offsets here, and ranges that move have none
abbrev pub sign_role : Behind → Last → Role
sign_role b last.Dates = role.Misfit
sign_role b last.Easter = role.Misfit
sign_role b l = bracket_role role.Kept b

-- a dash, which is the sign of an offset or goes on with a range: with none behind places, before a month
abbrev pub dash_role : Behind → Last → List Item → Role
dash_role b last.Bracket later = if begins is_month later then role.Misfit else bracket_role role.Kept b
dash_role b l later = sign_role b l

-- a year can begin here: the first one of a rule, or one behind a comma
abbrev pub takes_year : Behind → Last → Bool
takes_year behind.Front l = true
takes_year behind.Years last.Comma = true
takes_year b l = false

-- a number: none stands directly behind a range that moves or Easter; years have four digits
abbrev pub number_role : Behind → Last → ℕ → Role
number_role b last.Dates digits = role.Misfit
number_role b last.Easter digits = role.Misfit
number_role b l digits = if takes_year b l && digits == 4 then role.Year else role.Kept

-- years without a last one, which are a number and more where no year can begin
abbrev pub every_role : Behind → Last → ℕ → Role
every_role b last.Dates place = role.Misfit
every_role b last.Easter place = role.Misfit
every_role b l place = if takes_year b l then role.Every place else role.Kept

-- days of Easter: a dash directly before them goes on with no range
abbrev pub easter_role : Last → EasterDays → ℕ → Role
easter_role last.Dash days place = role.Kept
easter_role l days place = role.Known days place

-- a colon: the rule's own text has none behind ranges that move and Easter
abbrev pub colon_role : Behind → Role
colon_role (behind.Moving beside) = role.Unwritten
colon_role b = role.Kept

-- A month: the first of a rule's own month days begins with it. Others begin with their commas.
abbrev pub month_role : Behind → Role
month_role behind.Front = role.MonthDay
month_role behind.Years = role.MonthDay
month_role (behind.Moving false) = role.MonthDay
month_role b = role.Kept

abbrev pub token_role : Behind → Last → TokenKind → List Item → Role
token_role b l kind.Comma later = comma_role b l later
token_role b l kind.Semicolon later = role.Begins link.Instead
token_role b l (kind.Month m) later = month_role b
token_role b l (kind.Weekday d) later = weekday_role b l later
token_role b l kind.OpenBracket later = bracket_role (role.Weekdays (places later)) b
token_role b l kind.Plus later = sign_role b l
token_role b l kind.Dash later = dash_role b l later
token_role b l (kind.Number v d) later = number_role b l d
token_role b l kind.Colon later = colon_role b
token_role b l k later = role.Kept

-- A comment that says something of its rule: one with times, or of all days and times, is open, and others are unknown.
abbrev pub remark_role : Behind → Role
remark_role behind.Times = role.Remark
remark_role behind.Done = role.Remark
remark_role b = role.UnknownComment

-- A comment directly behind `open`, `closed` or `unknown` says why; none stands directly behind `week` or another comment.
abbrev pub comment_role : Behind → Last → Role
comment_role b last.Modifier = role.Silent
comment_role b last.NoComment = role.Misfit
comment_role b l = remark_role b

-- another rule can begin behind it
abbrev pub separates : What → Bool
separates (what.Token kind.Comma) = true
separates (what.Token kind.Semicolon) = true
separates what.Fallback = true
separates w = false

-- What becomes of an item at a position, where these come behind it and no comment on its rule stands before it.
abbrev pub role_in : Position → What → List Item → Role
role_in p (what.Holiday h) later = holiday_role p.behind p.last h later
role_in p (what.Token k) later = token_role p.behind p.last k later
role_in p (what.Dates days) later = role.Dated days
role_in p (what.NoDates bad by_easter) later = role.Undated
role_in p (what.Easter days place) later = easter_role p.last days place
role_in p (what.Every place) later = every_role p.behind p.last place
role_in p what.Comment later = comment_role p.behind p.last
role_in p what.Fallback later = role.Fallback
role_in p what.Unknown later = role.UnknownWord

-- What becomes of an item at a position. Behind a comment on a rule only another rule can begin; a range of days with a fault has
-- it behind its first token.
abbrev pub role_of : Position → Item → List Item → Role
role_of p item later =
    if is_faulty p.last || (is_commented p.behind && not (separates item.what)) then role.Misfit else role_in p item.what later
