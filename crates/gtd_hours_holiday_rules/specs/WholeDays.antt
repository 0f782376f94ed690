-- The rules that say days alone, and behind which a comma begins another rule: they hold all day, although who wrote them may
-- have meant the times or the word of the rule behind the comma.
use Rattle.std.specs.Prelude.{ℕ, ◌==◌, Bool, true, false, List, [], ◌∷◌, ◌++◌, Option, Some, None}
use Rattle.gtd_hours.specs.declared.hours.Link.{Link}
use Rattle.gtd_hours.specs.declared.hours.Link.TheVariants as link
use Rattle.gtd_hours_items.specs.declared.items.Item.{Item}
use Rattle.gtd_hours_items.specs.declared.items.What.{What}
use Rattle.gtd_hours_items.specs.declared.items.What.TheVariants as what
use Rattle.gtd_hours_tokens.specs.declared.token.TokenKind.{TokenKind}
use Rattle.gtd_hours_tokens.specs.declared.token.TokenKind.TheVariants as kind
use Rattle.gtd_hours_holiday_rules.specs.Rules.{link_behind}
use Rattle.gtd_hours_holiday_rules.specs.declared.parts.Part.{Part}
use Rattle.gtd_hours_holiday_rules.specs.declared.whole_days.SoFar.{SoFar}
use Rattle.gtd_hours_holiday_rules.specs.declared.whole_days.SoFar.TheVariants as so_far

-- A token that says on which days a rule holds.
abbrev pub is_of_days : TokenKind → Bool
is_of_days kind.Open = false
is_of_days kind.Closed = false
is_of_days kind.Unsupported = false
is_of_days (kind.Time hour minute) = false
is_of_days kind.Semicolon = false
is_of_days k = true

-- A number begins a rule of days if it is a year, of four digits: that of `24/7` has two.
abbrev pub begins_days : TokenKind → Bool
begins_days (kind.Number value digits) = digits == 4
begins_days k = is_of_days k

abbrev pub says_days : What → Bool
says_days (what.Token k) = is_of_days k
says_days (what.Holiday h) = true
says_days (what.Dates days) = true
says_days (what.Easter days place) = true
says_days (what.Every place) = true
says_days w = false

abbrev pub says_first_days : What → Bool
says_first_days (what.Token k) = begins_days k
says_first_days w = says_days w

-- ---- a rule, item by item

-- days alone, the first of which stands here, or more than days
abbrev pub days_from : Bool → ℕ → SoFar
days_from true place = so_far.Days place
days_from false place = so_far.More

abbrev pub with_item : SoFar → Item → SoFar
with_item so_far.Nothing item = days_from (says_first_days item.what) item.from
with_item (so_far.Days place) item = days_from (says_days item.what) place
with_item so_far.More item = so_far.More

-- where the rule begins, if it has said days alone
abbrev pub place_of : SoFar → Option ℕ
place_of (so_far.Days place) = Some place
place_of s = None

-- and if a comma begins another rule behind it
abbrev pub place_before : SoFar → Link → Option ℕ
place_before s link.Also = place_of s
place_before s other = None

-- ---- all

-- where the rule begins, by the link of the rule that begins behind an item, if one does
abbrev pub place_behind : SoFar → Option Link → Option ℕ
place_behind s None = None
place_behind s (Some l) = place_before s l

abbrev pub after_part : SoFar → Option Link → Item → SoFar
after_part s None item = with_item s item
after_part s (Some l) item = so_far.Nothing

abbrev pub list_of : Option ℕ → List ℕ
list_of None = []
list_of (Some place) = place ∷ []

abbrev pub whole_days_from : SoFar → List Part → List ℕ
whole_days_from s [] = []
whole_days_from s (part ∷ parts) =
    list_of (place_behind s (link_behind part.role)) ++ whole_days_from (after_part s (link_behind part.role) part.item) parts

-- the places of such rules
abbrev pub whole_days_of : List Part → List ℕ
whole_days_of parts = whole_days_from so_far.Nothing parts
