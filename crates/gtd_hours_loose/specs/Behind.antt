-- What stands behind the tokens that have been read, and what becomes of the next one there.
use Rattle.std.specs.Prelude.{◌&&◌, ◌||◌, not, Bool, true, false, List, [], ◌∷◌, if◌then◌else◌}
use Rattle.gtd_hours_loose.specs.declared.behind.Behind.{Behind}
use Rattle.gtd_hours_loose.specs.declared.behind.Behind.TheVariants as behind
use Rattle.gtd_hours_loose.specs.declared.behind.Fate.{Fate}
use Rattle.gtd_hours_loose.specs.declared.behind.Fate.TheVariants as fate
use Rattle.gtd_hours_loose_tokens.specs.declared.token.LooseKind.{LooseKind}
use Rattle.gtd_hours_loose_tokens.specs.declared.token.LooseKind.TheVariants as kind
use Rattle.gtd_hours_loose_tokens.specs.declared.token.LooseToken.{LooseToken}
use Rattle.gtd_hours_loose.specs.Pairs.{begins_read, clock_of, is_clock_number, names_days}

abbrev pub is_days : Behind → Bool
is_days behind.Days = true
is_days b = false

-- The second of two numbers that are times comes next.
abbrev pub is_pair_dash : Behind → Bool
is_pair_dash behind.PairDash = true
is_pair_dash b = false

abbrev pub is_range : Behind → Bool
is_range behind.Range = true
is_range b = false

-- A separator may be left out at the end behind this.
abbrev pub may_end : Behind → Bool
may_end behind.Front = false
may_end behind.Comma = false
may_end behind.Semicolon = false
may_end b = true

-- A number that is read as a time stands here.
abbrev pub is_clock_here : Behind → List LooseToken → Bool
is_clock_here b ts = is_pair_dash b || begins_read (is_days b) ts

-- What a token stands for, where these tokens begin with it.
abbrev pub kind_here : Behind → LooseKind → List LooseToken → LooseKind
kind_here b k ts = if is_clock_here b ts && is_clock_number k then clock_of k else k

-- ---- what is left out or put in

abbrev pub is_comma : LooseKind → Bool
is_comma kind.Comma = true
is_comma k = false

abbrev pub is_semicolon : LooseKind → Bool
is_semicolon kind.Semicolon = true
is_semicolon k = false

abbrev pub all_commas : List LooseToken → Bool
all_commas [] = true
all_commas (t ∷ ts) = is_comma t.kind && all_commas ts

abbrev pub all_semicolons : List LooseToken → Bool
all_semicolons [] = true
all_semicolons (t ∷ ts) = is_semicolon t.kind && all_semicolons ts

-- The first token of a moment: a time, an event of the sun, or the parenthesis around one.
abbrev pub begins_moment : LooseKind → Bool
begins_moment (kind.Time h m) = true
begins_moment kind.Event = true
begins_moment kind.OpenParenthesis = true
begins_moment k = false

-- The first token of a moment, a modifier or a comment.
abbrev pub begins_hours : LooseKind → Bool
begins_hours kind.Open = true
begins_hours kind.Closed = true
begins_hours kind.Comment = true
begins_hours kind.Quoted = true
begins_hours k = begins_moment k

abbrev pub hours_follow : List LooseToken → Bool
hours_follow [] = false
hours_follow (t ∷ ts) = begins_hours t.kind || begins_read false (t ∷ ts)

abbrev pub drop_if : Bool → Fate
drop_if b = if b then fate.Dropped else fate.Kept

-- A comma directly behind a comma, or commas at the end; the same of semicolons.
abbrev pub comma_fate : Behind → List LooseToken → Fate
comma_fate behind.Comma later = fate.Dropped
comma_fate b later = drop_if (may_end b && all_commas later)

abbrev pub semicolon_fate : Behind → List LooseToken → Fate
semicolon_fate behind.Semicolon later = fate.Dropped
semicolon_fate b later = drop_if (may_end b && all_semicolons later)

-- What becomes of a token that stands for this, where these come behind it.
abbrev pub fate_of : Behind → LooseKind → List LooseToken → Fate
fate_of b kind.Comma later = comma_fate b later
fate_of b kind.Semicolon later = semicolon_fate b later
fate_of b kind.Colon later = drop_if (is_days b && hours_follow later)
fate_of b k later = if is_range b && begins_moment k then fate.Joined else fate.Kept

-- ---- what stands behind it then

abbrev pub behind_time : Behind → Behind
behind_time behind.PairDash = behind.Range
behind_time behind.TimeDash = behind.Range
behind_time behind.Inside = behind.Inside
behind_time behind.EndInside = behind.EndInside
behind_time b = behind.Time

abbrev pub behind_dash : Behind → Behind
behind_dash behind.Time = behind.TimeDash
behind_dash behind.PairTime = behind.PairDash
behind_dash behind.Inside = behind.Inside
behind_dash behind.EndInside = behind.EndInside
behind_dash b = behind.Other

-- the sign of what is added to an event, or another word or sign
abbrev pub behind_unread : Behind → Behind
behind_unread behind.Inside = behind.Inside
behind_unread behind.EndInside = behind.EndInside
behind_unread b = behind.Other

abbrev pub behind_open : Behind → Behind
behind_open behind.TimeDash = behind.EndInside
behind_open b = behind.Inside

abbrev pub behind_close : Behind → Behind
behind_close behind.Inside = behind.Time
behind_close behind.EndInside = behind.Range
behind_close b = behind.Other

abbrev pub behind_kind : Behind → LooseKind → Behind
behind_kind b (kind.Time h m) = behind_time b
behind_kind b kind.Event = behind_time b
behind_kind b kind.Dash = behind_dash b
behind_kind b kind.Unread = behind_unread b
behind_kind b kind.OpenParenthesis = behind_open b
behind_kind b kind.CloseParenthesis = behind_close b
behind_kind b kind.Comma = behind.Comma
behind_kind b kind.Semicolon = behind.Semicolon
behind_kind b k = if names_days k then behind.Days else behind.Other

-- behind a token, where these tokens begin with it
abbrev pub after_kept : Behind → LooseKind → List LooseToken → Behind
after_kept b k ts =
    if not (is_pair_dash b) && begins_read (is_days b) ts then behind.PairTime else behind_kind b (kind_here b k ts)

abbrev pub after : Fate → Behind → LooseKind → List LooseToken → Behind
after fate.Dropped b k ts = b
after f b k ts = after_kept b k ts
