-- Which texts are opening hours, and what the first fault of another text is.
use Rattle.std.specs.Prelude.{List, ◌≡◌, ◌==◌, ℕ, Bool, true, false, [], ◌∷◌, ◌++◌, length, Option, Some, None}
use Rattle.std.specs.Prelude.{◌&&◌, ◌||◌, if◌then◌else◌, nat_le}
use Rattle.gtd_hours_tokens.specs.Lexing.{AreTokens, IsTokenFault}
use Rattle.gtd_hours_tokens.specs.declared.token.TokenKind.TheVariants as token
use Rattle.gtd_hours_grammar.specs.declared.fault.FaultKind.{FaultKind}
use Rattle.gtd_hours_grammar.specs.declared.fault.FaultKind.TheVariants as fault
use Rattle.gtd_hours_grammar.specs.declared.fault.HoursFault.{HoursFault}
use Rattle.gtd_hours_moves.specs.Terms.{Token, TokenKind, Piece}
use Rattle.gtd_hours_moves.specs.declared.stage.Stage.TheVariants as stage
use Rattle.gtd_hours_moves.specs.Grammar.{AreHours, CanGoOn, Follow, by_place, with_years}

abbrev pub kinds : List Token → List TokenKind
kinds [] = []
kinds (t ∷ ts) = t.kind ∷ kinds ts

-- The text is opening hours with these pieces.
pub record IsHoursText (text : List ℕ) (p : List Piece) : Type 0 where
  pub tokens : List Token
  pub are : AreTokens text tokens
  pub hours : AreHours p (kinds tokens)

abbrev pub is_slash : TokenKind → Bool
is_slash token.Slash = true
is_slash t = false

-- Both are numbers, both are times, or both are the same month or a slash.
abbrev pub are_alike : TokenKind → TokenKind → Bool
are_alike (token.Number v d) (token.Number w c) = true
are_alike (token.Time h m) (token.Time g n) = true
are_alike (token.Month m) (token.Month l) = m == l
are_alike token.Slash token.Slash = true
are_alike t u = false

-- The token is a number where some number can stand, a time where some time can, a last month with a year, or the slash before
-- the step of weeks that go back.
pub record FitsByPlace (before : List TokenKind) (t : TokenKind) : Type 0 where
  pub other : TokenKind
  pub alike : are_alike t other ≡ true
  pub p : List Piece
  pub after : List TokenKind
  pub follow : Follow by_place stage.Front p (before ++ other ∷ after)

-- The token is the step of years without a last one, which are more than a domain holds.
pub record NeedsYears (before : List TokenKind) (t : TokenKind) : Type 0 where
  pub p : List Piece
  pub follow : Follow with_years stage.Front p (before ++ t ∷ [])

abbrev pub last_kind : List TokenKind → Option TokenKind
last_kind [] = None
last_kind (t ∷ []) = Some t
last_kind (t ∷ u ∷ ts) = last_kind (u ∷ ts)

-- the kind of the token before the last one
abbrev pub kind_before : List TokenKind → Option TokenKind
kind_before [] = None
kind_before (t ∷ []) = None
kind_before (t ∷ u ∷ []) = Some t
kind_before (t ∷ u ∷ v ∷ ts) = kind_before (u ∷ v ∷ ts)

-- of two tokens, the second is the sign of an offset: it stands directly behind brackets
abbrev pub is_offset : Option TokenKind → Option TokenKind → Bool
is_offset (Some token.CloseBracket) (Some token.Plus) = true
is_offset (Some token.CloseBracket) (Some token.Dash) = true
is_offset before last = false

-- What is wrong with a `+` behind a token: behind brackets, no offset suits the places; behind years and weekdays it is
-- unexpected; elsewhere it is an open end or an offset that is not read.
abbrev pub plus_kind : Option TokenKind → FaultKind
plus_kind (Some token.CloseBracket) = fault.Range
plus_kind (Some (token.Number value digits)) = if digits == 4 then fault.Unexpected else fault.Unsupported
plus_kind (Some (token.Weekday k)) = fault.Unexpected
plus_kind (Some token.Plus) = fault.Unexpected
plus_kind t = fault.Unsupported

-- and with a `-`
abbrev pub dash_kind : Option TokenKind → FaultKind
dash_kind (Some token.CloseBracket) = fault.Range
dash_kind t = fault.Unexpected

-- a weekday behind the sign of an offset is an offset to a weekday
abbrev pub weekday_kind : Bool → FaultKind
weekday_kind offset = if offset then fault.Unsupported else fault.Unexpected

-- `day` behind a range of dates is an offset of a date
abbrev pub day_kind : Option TokenKind → Option TokenKind → FaultKind
day_kind (Some token.Dash) (Some (token.Number value digits)) = fault.Unsupported
day_kind before last = fault.Unexpected

-- a number that is an offset's by its digits and its value
abbrev pub is_few : TokenKind → Bool
is_few (token.Number value digits) = nat_le 1 digits && nat_le digits 2 && nat_le 1 value && nat_le value 27
is_few t = false

-- the place of the last token
abbrev pub last_from : List Token → ℕ
last_from [] = 0
last_from (t ∷ []) = t.from
last_from (t ∷ u ∷ ts) = last_from (u ∷ ts)

-- a token out of range is told at the one before it: the slash behind weeks that go back, at the second week; and the number
-- of an offset that leads back too far, at its sign
abbrev pub is_told_before : Bool → TokenKind → Bool
is_told_before offset t = is_slash t || (offset && is_few t)

-- where a fault is told: at the token, or the one before it; there too if it is a step of too many years
abbrev pub told_at : List Token → Token → FaultKind → ℕ
told_at before t fault.Years = last_from before
told_at before t fault.Range =
    if is_told_before (is_offset (kind_before (kinds before)) (last_kind (kinds before))) t.kind then last_from before
    else t.from
told_at before t kind = t.from

-- what is wrong with the first token that does not go on
abbrev pub IsMisfitKind : List TokenKind → TokenKind → FaultKind → Type 0
IsMisfitKind before token.Unsupported kind = kind ≡ fault.Unsupported
IsMisfitKind before token.Plus kind = kind ≡ plus_kind (last_kind before)
IsMisfitKind before token.Dash kind = kind ≡ dash_kind (last_kind before)
IsMisfitKind before token.Day kind = kind ≡ day_kind (kind_before before) (last_kind before)
IsMisfitKind before (token.Weekday k) kind = kind ≡ weekday_kind (is_offset (kind_before before) (last_kind before))
IsMisfitKind before (token.Number v d) fault.Years = NeedsYears before (token.Number v d)
IsMisfitKind before (token.Number v d) fault.Range =
    FitsByPlace before (token.Number v d) × (NeedsYears before (token.Number v d) → ⊥)
IsMisfitKind before (token.Number v d) fault.Unexpected =
    (FitsByPlace before (token.Number v d) → ⊥) × (NeedsYears before (token.Number v d) → ⊥)
IsMisfitKind before t fault.Range = FitsByPlace before t
IsMisfitKind before t fault.Unexpected = FitsByPlace before t → ⊥
IsMisfitKind before t kind = ⊥

-- The tokens before one can go on, but not with it.
pub record IsMisfit (text : List ℕ) (bad : HoursFault) : Type 0 where
  pub before : List Token
  pub here : Token
  pub after : List Token
  pub are : AreTokens text (before ++ here ∷ after)
  pub goes : CanGoOn (kinds before)
  pub no_further : CanGoOn (kinds before ++ here.kind ∷ []) → ⊥
  pub kind : IsMisfitKind (kinds before) here.kind bad.kind
  pub place : bad.place ≡ told_at before here bad.kind

-- All tokens together can go on, but are no opening hours yet.
pub record IsIncomplete (text : List ℕ) (bad : HoursFault) : Type 0 where
  pub tokens : List Token
  pub are : AreTokens text tokens
  pub goes : CanGoOn (kinds tokens)
  pub no_hours : (p : List Piece) → AreHours p (kinds tokens) → ⊥
  pub kind : bad.kind ≡ fault.Incomplete
  pub place : bad.place ≡ length text

-- The first fault of a text: a byte with which no token begins, wherever there is one; else a token that does not go on; else
-- that tokens are missing.
pub data IsFirstFault (text : List ℕ) (bad : HoursFault) : Type 0 where
  bad_token : bad.kind ≡ fault.BadToken → IsTokenFault text bad.place → IsFirstFault text bad
  misfit : IsMisfit text bad → IsFirstFault text bad
  incomplete : IsIncomplete text bad → IsFirstFault text bad
