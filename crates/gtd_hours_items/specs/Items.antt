-- The items of a text: its tokens. Some are holidays or Easter, with the offsets that belong to them, ranges of days that move or
-- Easter of a year, years without a last one, comments, `||` or `unknown`.
use Rattle.std.specs.Prelude.{◌≡◌, ℕ, zero, suc, ◌-◌, ◌&&◌, ◌||◌, ◌==◌, Bool, false, List, [], ◌∷◌, Option, Some, None}
use Rattle.std.specs.Prelude.{codes, if◌then◌else◌, is_some}
use Rattle.gtd_hours_days.specs.declared.listed.EasterDays.TheVariants as easter
use Rattle.gtd_hours_days.specs.declared.listed.Listed.TheVariants as listed
use Rattle.gtd_hours_tokens.specs.declared.token.Token.{Token}
use Rattle.gtd_hours_moving.specs.Words.{is_easter, is_unread, is_word, stretch}
use Rattle.gtd_hours_moving.specs.declared.front.MovingFront.{MovingFront}
use Rattle.gtd_hours_moving.specs.declared.front.MovingFront.TheVariants as moving
use Rattle.gtd_hours_items.specs.Every.{Slashed, every_front}
use Rattle.gtd_hours_items.specs.Fronts.{IsFrontAt, before_after}
use Rattle.gtd_hours_items.specs.Offsets.{Placed, later, offset_front}
use Rattle.gtd_hours_items.specs.declared.fronts.Before.{Before}
use Rattle.gtd_hours_items.specs.declared.fronts.Before.TheVariants as before
use Rattle.gtd_hours_items.specs.declared.items.Item.{Item}
use Rattle.gtd_hours_items.specs.declared.items.What.{What}
use Rattle.gtd_hours_items.specs.declared.items.What.TheVariants as what

abbrev pub is_public : List ℕ → Token → Bool
is_public text token = is_word text token (codes "PH")

abbrev pub is_school : List ℕ → Token → Bool
is_school text token = is_word text token (codes "SH")

-- The bytes begin with a quote (34).
abbrev pub begins_quoted : List ℕ → Bool
begins_quoted [] = false
begins_quoted (byte ∷ bytes) = byte == 34

-- The token is a comment.
abbrev pub is_comment : List ℕ → Token → Bool
is_comment text token = is_unread token.kind && begins_quoted (stretch text token.from token.to)

-- What a token is that is no public holiday.
abbrev pub what_of : List ℕ → Token → What
what_of text token =
    if is_school text token then what.Holiday listed.School
    else if is_comment text token then what.Comment
    else if is_word text token (codes "||") then what.Fallback
    else if is_word text token (codes "unknown") then what.Unknown
    else what.Token token.kind

-- A public holiday, with the offset behind it if there is one.
abbrev pub public_with : Token → Option Placed → Item
public_with token None = record { what = what.Holiday (listed.Public (later 0)); from = token.from; to = token.to }
public_with token (Some (offset, to)) = record { what = what.Holiday (listed.Public offset); from = token.from; to = to }

-- Easter Sunday, with the offset behind it if there is one.
abbrev pub easter_with : Token → Option Placed → Item
easter_with token None = record { what = what.Easter (easter.Day (later 0)) token.from; from = token.from; to = token.to }
easter_with token (Some (offset, to)) = record { what = what.Easter (easter.Day offset) token.from; from = token.from; to = to }

-- Years without a last one, of which there are more than a domain holds, or what the token is by itself.
abbrev pub token_with : List ℕ → Token → Option Slashed → Item
token_with text token None = record { what = what_of text token; from = token.from; to = token.to }
token_with text token (Some (place, to)) = record { what = what.Every place; from = token.from; to = to }

-- The item that begins with a token, where these come behind it.
abbrev pub item_at : List ℕ → Token → List Token → Item
item_at text token ts =
    if is_public text token then public_with token (offset_front ts)
    else if is_easter text token then easter_with token (offset_front ts)
    else token_with text token (every_front token ts)

-- How many of these belong to it: a sign, a number and `day`; a slash and a step; or none.
abbrev pub more_at : List ℕ → Token → List Token → ℕ
more_at text token ts =
    if is_public text token || is_easter text token then if is_some (offset_front ts) then 3 else 0
    else if is_some (every_front token ts) then 2
    else 0

-- The item of a range of days that moves, or of its first token if it has a fault.
abbrev pub range_item : List ℕ → Token → MovingFront → Item
range_item text token (moving.Range days tokens to) = record { what = what.Dates days; from = token.from; to = to }
range_item text token (moving.Easter days place tokens to) =
    record { what = what.Easter (easter.Range days) place; from = token.from; to = to }
range_item text token (moving.Fault bad) =
    record { what = what.NoDates bad (is_easter text token); from = token.from; to = token.to }

abbrev pub more_of_range : MovingFront → ℕ
more_of_range (moving.Range days tokens to) = tokens - 1
more_of_range (moving.Easter days place tokens to) = tokens - 1
more_of_range (moving.Fault bad) = 0

-- The item where a range of days that moves begins with the token, or none does.
abbrev pub item_by : List ℕ → Token → List Token → Option MovingFront → Item
item_by text token ts None = item_at text token ts
item_by text token ts (Some found) = range_item text token found

abbrev pub more_by : List ℕ → Token → List Token → Option MovingFront → ℕ
more_by text token ts None = more_at text token ts
more_by text token ts (Some found) = more_of_range found

-- These are the items of the tokens that are left behind something, of which so many belong to the item before.
abbrev pub AreItemsLeft : ℕ → Before → List ℕ → List Token → List Item → Type 0
AreItemsLeft n b text [] items = items ≡ []
AreItemsLeft (suc n) b text (t ∷ ts) items = AreItemsLeft n b text ts items
AreItemsLeft zero b text (t ∷ ts) items =
    (front : Option MovingFront) × (more : List Item) × IsFrontAt text b (t ∷ ts) front
    × (items ≡ item_by text t ts front ∷ more)
    × AreItemsLeft (more_by text t ts front) (before_after b t.kind front) text ts more

-- These are the items of a text with these tokens.
abbrev pub AreItems : List ℕ → List Token → List Item → Type 0
AreItems text tokens items = AreItemsLeft 0 before.Other text tokens items
