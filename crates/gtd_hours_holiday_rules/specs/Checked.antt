-- The checked text: plain hours of the same length, with a fault exactly where the text has one.
use Rattle.std.specs.Prelude.{ℕ, zero, suc, ◌+◌, ◌-◌, List, [], ◌∷◌, Option, Some, None, codes, drop, set}
use Rattle.std.specs.Prelude.{get_or, length, nat_lt, if◌then◌else◌}
use Rattle.std.specs.Char.{is_ascii_alphabetic}
use Rattle.gtd_hours_moving.specs.Words.{stretch}
use Rattle.gtd_hours_items.specs.declared.items.Item.{Item}
use Rattle.gtd_hours_holiday_rules.specs.declared.parts.Part.{Part}
use Rattle.gtd_hours_roles.specs.declared.role.Role.{Role}
use Rattle.gtd_hours_roles.specs.declared.role.Role.TheVariants as role

-- the first byte, or a space (32)
abbrev pub first_or_space : List ℕ → ℕ
first_or_space [] = 32
first_or_space (byte ∷ bytes) = byte

-- So many bytes from a place on are written over by these, and by spaces behind them.
abbrev pub put_over : ℕ → List ℕ → ℕ → List ℕ → List ℕ
put_over zero bytes place form = bytes
put_over (suc n) bytes place form = put_over n (set bytes place (first_or_space form)) (place + 1) (drop 1 form)

-- the byte before a place, or a space
abbrev pub byte_before : List ℕ → ℕ → ℕ
byte_before text place = if nat_lt 0 place then get_or text (place - 1) 32 else 32

-- What a comment on a rule is written over by: a word, apart from a word directly before it. Two bytes behind a letter have no
-- room for it.
abbrev pub comment_form : List ℕ → Item → List ℕ
comment_form text item =
    if nat_lt 2 (length (stretch text item.from item.to)) then codes " on"
    else if is_ascii_alphabetic (byte_before text item.from) then []
    else codes "on"

-- What a range of days that moves is written over by: a month, or a bracket directly behind a letter, where it cannot stand.
abbrev pub dates_form : List ℕ → Item → List ℕ
dates_form text item = if is_ascii_alphabetic (byte_before text item.from) then codes "]" else codes "Jan"

-- What an item of the text is written over by, if it does not stay.
abbrev pub form_of : List ℕ → Item → Role → Option (List ℕ)
form_of text item (role.Leading h) = Some []
form_of text item role.Gone = Some []
form_of text item (role.Listed h) = Some (codes "Mo")
form_of text item (role.Dated days) = Some (dates_form text item)
form_of text item (role.Known days place) = Some (dates_form text item)
form_of text item role.Undated = Some (dates_form text item)
form_of text item (role.Every place) = Some (codes "/9")
form_of text item role.Doubtful = Some (codes "PH")
form_of text item role.Misfit = Some (codes "]")
form_of text item role.Fallback = Some (codes ";")
form_of text item role.UnknownWord = Some (codes "off")
form_of text item role.Silent = Some []
form_of text item role.Remark = Some (comment_form text item)
form_of text item role.UnknownComment = Some (comment_form text item)
form_of text item r = None

abbrev pub written_over : List ℕ → ℕ → ℕ → Option (List ℕ) → List ℕ
written_over bytes from to None = bytes
written_over bytes from to (Some form) = put_over (to - from) bytes from form

-- Where its form begins: of years without a last one it is a slash and a step of which there are few.
abbrev pub form_place : Role → Item → ℕ
form_place (role.Every place) item = place
form_place r item = item.from

-- The bytes with each of the parts of the text written over.
abbrev pub checked_from : List ℕ → List ℕ → List Part → List ℕ
checked_from text bytes [] = bytes
checked_from text bytes (p ∷ parts) =
    checked_from text (written_over bytes (form_place p.role p.item) p.item.to (form_of text p.item p.role)) parts

abbrev pub checked_text : List ℕ → List Part → List ℕ
checked_text text parts = checked_from text text parts
