-- How faults of the checked text are told.
use Rattle.std.specs.Prelude.{ℕ, ◌+◌, ◌&&◌, ◌||◌, ◌==◌, nat_lt, Bool, true, false, List, [], ◌∷◌, Option, Some, None}
use Rattle.std.specs.Prelude.{if◌then◌else◌}
use Rattle.gtd_hours_grammar.specs.declared.fault.FaultKind.{FaultKind}
use Rattle.gtd_hours_grammar.specs.declared.fault.FaultKind.TheVariants as fault
use Rattle.gtd_hours_grammar.specs.declared.fault.HoursFault.{HoursFault}
use Rattle.gtd_hours_tokens.specs.declared.token.TokenKind.TheVariants as kind
use Rattle.gtd_hours_items.specs.declared.items.Item.{Item}
use Rattle.gtd_hours_items.specs.declared.items.What.{What}
use Rattle.gtd_hours_items.specs.declared.items.What.TheVariants as what
use Rattle.gtd_hours_roles.specs.declared.behind.Behind.{Behind}
use Rattle.gtd_hours_roles.specs.declared.behind.Behind.TheVariants as behind
use Rattle.gtd_hours_roles.specs.declared.behind.Last.{Last}
use Rattle.gtd_hours_roles.specs.declared.behind.Last.TheVariants as last
use Rattle.gtd_hours_roles.specs.declared.behind.Position.{Position}
use Rattle.gtd_hours_roles.specs.declared.role.Role.{Role}
use Rattle.gtd_hours_roles.specs.declared.role.Role.TheVariants as role
use Rattle.gtd_hours_holiday_rules.specs.declared.told.HolidayFault.{HolidayFault}
use Rattle.gtd_hours_holiday_rules.specs.declared.told.HolidayFault.TheVariants as holiday_fault
use Rattle.gtd_hours_holiday_rules.specs.declared.told.Instead.{Instead}
use Rattle.gtd_hours_holiday_rules.specs.declared.told.Instead.TheVariants as instead
use Rattle.gtd_hours_holiday_rules.specs.declared.told.Told.{Told}
use Rattle.gtd_hours_roles.specs.Behind.{is_commented}
use Rattle.gtd_hours_items.specs.Coming.{begins, is_weekday}

abbrev pub is_day : What → Bool
is_day (what.Token kind.Day) = true
is_day w = false

abbrev pub is_count : What → Bool
is_count (what.Token (kind.Number value digits)) = true
is_count w = false

-- a number and `day`
abbrev pub begins_days : List Item → Bool
begins_days [] = false
begins_days (i ∷ later) = is_count i.what && begins is_day later

-- the place of the first item
abbrev pub first_place : ℕ → List Item → ℕ
first_place end [] = end
first_place end (i ∷ later) = i.from

abbrev pub is_sign : What → Bool
is_sign (what.Token kind.Plus) = true
is_sign (what.Token kind.Dash) = true
is_sign w = false

-- it may have an offset of days
abbrev pub has_offset : Last → Bool
has_offset last.Public = true
has_offset last.Easter = true
has_offset l = false

abbrev pub is_dates : Last → Bool
is_dates last.Dates = true
is_dates l = false

-- What is wrong at the sign of an offset that is none, by the last item before it and those behind it. Directly behind a public
-- holiday it is the number, where there are days; or a weekday, to which no offset leads. Else it is the sign itself.
abbrev pub sign_fault : Last → ℕ → List Item → HoursFault
sign_fault l place later =
    if has_offset l && begins_days later then record { kind = fault.Range; place = first_place place later }
    else if has_offset l && begins is_weekday later then record { kind = fault.Unsupported; place = first_place place later }
    else record { kind = fault.Unexpected; place = place }

-- an item that stands there begins with `easter`
abbrev pub easter_first : What → ℕ → Bool
easter_first (what.Easter days place) from = place == from
easter_first (what.NoDates bad by_easter) from = by_easter
easter_first w from = false

abbrev pub begins_easter : Item → Bool
begins_easter item = easter_first item.what item.from

-- a word or a sign that is not read there
abbrev pub is_foreign : What → Bool
is_foreign (what.Token kind.Unsupported) = true
is_foreign (what.Token kind.Plus) = true
is_foreign w = false

-- what is wrong at an item that nothing of its kind can follow: behind a comment on its rule, or a range that moves
abbrev pub fault_at : Item → HoursFault
fault_at item =
    if is_foreign item.what || begins_easter item then record { kind = fault.Unsupported; place = item.from }
    else record { kind = fault.Unexpected; place = item.from }

-- What is wrong at an item that cannot stand where it does.
abbrev pub unfit_fault : Position → Item → List Item → HoursFault
unfit_fault p item later =
    if is_commented p.behind || is_dates p.last then fault_at item
    else if is_sign item.what then sign_fault p.last item.from later
    else record { kind = fault.Unexpected; place = item.from }

-- what is wrong with a `+` that cannot stand behind an item
abbrev pub plus_kind : What → FaultKind
plus_kind (what.Token (kind.Number value digits)) = if digits == 4 then fault.Unexpected else fault.Unsupported
plus_kind (what.Token (kind.Weekday d)) = fault.Unexpected
plus_kind (what.Token kind.Plus) = fault.Unexpected
plus_kind w = fault.Unsupported

-- and with any item: a token that a range of days does not go on with has this kind of fault
abbrev pub misfit_kind : What → What → FaultKind → FaultKind
misfit_kind before (what.Token kind.Plus) k = plus_kind before
misfit_kind before (what.Token t) k = k
misfit_kind before (what.Easter days place) k = k
misfit_kind before (what.Every place) k = k
misfit_kind before (what.NoDates bad by_easter) k = k
misfit_kind before w k = fault.Unexpected

-- with the item of this fault among these behind another
abbrev pub kind_among : What → HoursFault → List Item → FaultKind
kind_among before bad [] = bad.kind
kind_among before bad (i ∷ later) =
    if i.from == bad.place then misfit_kind before i.what bad.kind else kind_among i.what bad later

-- a token that cannot stand where it does
abbrev pub is_misfit : FaultKind → Bool
is_misfit fault.Unexpected = true
is_misfit fault.Unsupported = true
is_misfit k = false

-- What is wrong with a range of days whose first token comes directly before an item.
abbrev pub fault_in_range : HoursFault → Item → List Item → HoursFault
fault_in_range bad item later =
    if is_misfit bad.kind then record { kind = kind_among item.what bad later; place = bad.place } else bad

-- The same, or what is wrong with the range of days before it.
abbrev pub misfit_by : Last → Position → Item → List Item → HoursFault
misfit_by (last.NoDates bad) p item later = fault_in_range bad item later
misfit_by l p item later = unfit_fault p item later

abbrev pub misfit_fault : Position → Item → List Item → HoursFault
misfit_fault p item later = misfit_by p.last p item later

-- a fault at a weekday behind leading holidays is told where these begin
abbrev pub led_instead : Behind → What → Option Instead
led_instead (behind.Led from) w = if is_weekday w then Some (instead.Place from) else None
led_instead b w = None

-- `easter` that cannot stand where it does is not read there.
abbrev pub unread_instead : Item → Option Instead
unread_instead item =
    if begins_easter item then Some (instead.Fault (record { kind = fault.Unsupported; place = item.from })) else None

-- How a fault at an item with this role is told, if not as it is.
abbrev pub instead_of : Position → Role → Item → List Item → Option Instead
instead_of p role.Doubtful item later = Some (instead.Ambiguous item.from)
instead_of p role.Misfit item later = Some (instead.Fault (misfit_fault p item later))
instead_of p (role.Known days place) item later = unread_instead item
instead_of p role.Undated item later = unread_instead item
instead_of p role.Remark item later = Some (instead.Place item.from)
instead_of p role.UnknownComment item later = Some (instead.Place item.from)
instead_of p r item later = led_instead p.behind item.what

-- the place behind the first byte of an item
abbrev pub behind_first : Item → ℕ
behind_first item = if nat_lt item.from item.to then item.from + 1 else item.from

-- Where a fault at an item with this role stands in the checked text. The word for a comment of at least three bytes stands
-- behind a space; in two bytes no fault stands at the second.
abbrev pub told_at : Role → Item → ℕ
told_at role.Remark item = behind_first item
told_at role.UnknownComment item = behind_first item
told_at r item = item.from

-- ---- a fault

abbrev pub fault_by : HoursFault → Instead → HolidayFault
fault_by bad (instead.Ambiguous place) = holiday_fault.Ambiguous place
fault_by bad (instead.Fault other) = holiday_fault.Hours other
fault_by bad (instead.Place place) = holiday_fault.Hours (record { kind = bad.kind; place = place })

-- How a fault of the checked text is told: by the first of these at its place, or as it is.
abbrev pub told_fault : HoursFault → List Told → HolidayFault
told_fault bad [] = holiday_fault.Hours bad
told_fault bad (t ∷ ts) = if t.at == bad.place then fault_by bad t.instead else told_fault bad ts
