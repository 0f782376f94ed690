-- The tokens of texts with times of all forms: those of plain hours, and parentheses.
use Rattle.std.specs.Prelude.{ℕ, ◌≡◌, ◌≢◌, ◌+◌, ◌-◌, ◌<◌, ◌==◌, ◌||◌, Bool, false, List, [], ◌∷◌, length, drop, take, slice_index}
use Rattle.std.specs.Prelude.{codes, option_map, Option, Some, None, Result, Ok, Err, if◌then◌else◌}
use Rattle.gtd_scan.specs.Spaces.{AreSpaces}
use Rattle.gtd_scan.specs.Tokens.{ReadsTokens}
use Rattle.gtd_hours_tokens.specs.Lexing.{IsToken}
use Rattle.gtd_hours_tokens.specs.Words.{is_word}
use Rattle.gtd_hours_tokens.specs.declared.token.BadToken.{BadToken}
use Rattle.gtd_hours_tokens.specs.declared.token.Token.{Token}
use Rattle.gtd_hours_tokens.specs.declared.token.TokenKind.{TokenKind}
use Rattle.gtd_hours_tokens.specs.declared.token.TokenKind.TheVariants as token_kind
use Rattle.gtd_hours_times.specs.declared.moment.Event.{Event}
use Rattle.gtd_hours_times.specs.declared.moment.Event.TheVariants as event
use Rattle.gtd_hours_times.specs.declared.stop.NoMomentText.{NoMomentText}
use Rattle.gtd_hours_times.specs.declared.stop.NoMomentText.TheVariants as stop
use Rattle.gtd_hours_times.specs.declared.times.TimeKind.{TimeKind}
use Rattle.gtd_hours_times.specs.declared.times.TimeKind.TheVariants as kind
use Rattle.gtd_hours_times.specs.declared.times.TimeToken.{TimeToken}

-- From one place of a text up to but not including another.
abbrev pub stretch : List ℕ → ℕ → ℕ → List ℕ
stretch text from to = take (to - from) (drop from text)

-- ---- what a token is here

abbrev pub event_of : List ℕ → Option Event
event_of word =
    if is_word word (codes "sunrise") then Some event.Sunrise
    else if is_word word (codes "sunset") then Some event.Sunset
    else if is_word word (codes "dawn") then Some event.Dawn
    else if is_word word (codes "dusk") then Some event.Dusk
    else None

-- The bytes begin with a quote (34).
abbrev pub begins_quoted : List ℕ → Bool
begins_quoted [] = false
begins_quoted (byte ∷ bytes) = byte == 34

-- A holiday, `unknown`, `||` or a comment: these are read, but not in times.
abbrev pub is_of_rules : List ℕ → Bool
is_of_rules word =
    is_word word (codes "PH")
    || (is_word word (codes "SH") || (is_word word (codes "unknown") || (is_word word (codes "||") || begins_quoted word)))

-- A word or a sign that plain hours do not read is an event, or one of rules, or it is not read here either.
abbrev pub unread : Option Event → Bool → TimeKind
unread None of_rules = if of_rules then kind.Other else kind.Unread
unread (Some e) of_rules = kind.Event e

abbrev pub kind_of : TokenKind → List ℕ → TimeKind
kind_of (token_kind.Time h m) written = kind.Time h m
kind_of (token_kind.Number v digits) written = kind.Number v
kind_of token_kind.Plus written = kind.Plus
kind_of token_kind.Dash written = kind.Dash
kind_of token_kind.Slash written = kind.Slash
kind_of token_kind.Unsupported written = unread (event_of written) (is_of_rules written)
kind_of k written = kind.Other

abbrev pub time_token : List ℕ → Token → TimeToken
time_token text t = record { kind = kind_of t.kind (stretch text t.from t.to); from = t.from; to = t.to }

-- The parenthesis that a byte is: ( 40, ) 41.
abbrev pub parenthesis : ℕ → Option TimeKind
parenthesis byte = if byte == 40 then Some kind.Opening else if byte == 41 then Some kind.Closing else None

abbrev pub sign_at : ℕ → TimeKind → TimeToken
sign_at place k = record { kind = k; from = place; to = place + 1 }

abbrev pub parenthesis_at : List ℕ → ℕ → Option TimeToken
parenthesis_at text place = option_map (sign_at place) (parenthesis (slice_index text place))

-- ---- the tokens of a text

-- The token is in the text: it is one of plain hours, or a parenthesis.
pub data IsTimeToken (text : List ℕ) (token : TimeToken) : Type 0 where
  plain : (t : Token) → IsToken text t → token ≡ time_token text t → IsTimeToken text token
  sign : token.from < length text → parenthesis_at text token.from ≡ Some token → IsTimeToken text token

-- No token begins at this place.
abbrev pub BeginsNone : List ℕ → ℕ → Type 0
BeginsNone text place = (token : TimeToken) → IsTimeToken text token → token.from ≡ place → ⊥

-- The first byte from a place on that is no space is here, and no token begins with it.
pub record IsTimeStop (text : List ℕ) (from place : ℕ) : Type 0 where
  pub spaces : AreSpaces text from place
  pub inside : place < length text
  pub no_space : slice_index text place ≢ 32
  pub no_token : BeginsNone text place

-- What comes next from a place on.
abbrev pub IsNextTime : List ℕ → ℕ → Result (Option TimeToken) BadToken → Type 0
IsNextTime text from (Ok (Some token)) = AreSpaces text from token.from × IsTimeToken text token
IsNextTime text from (Ok None) = AreSpaces text from (length text)
IsNextTime text from (Err bad) = IsTimeStop text from bad.place

-- From one place to another the text is these tokens, with spaces or none before, between and after them.
abbrev pub Reads : List ℕ → ℕ → List TimeToken → ℕ → Type 0
Reads text = ReadsTokens (λ (token : TimeToken). token.from) (λ (token : TimeToken). token.to) (IsTimeToken text) text

-- The whole text is spaces and these tokens, each at its place.
abbrev pub AreTimeTokens : List ℕ → List TimeToken → Type 0
AreTimeTokens text tokens = Reads text 0 tokens (length text)

-- The first byte other than a space with which no token begins is here. Before it there are at most spaces and tokens.
pub record IsTimeFault (text : List ℕ) (place : ℕ) : Type 0 where
  pub before : List TimeToken
  pub reads : Reads text 0 before place
  pub inside : place < length text
  pub no_space : slice_index text place ≢ 32
  pub no_token : BeginsNone text place

-- Why there is none: a byte with which no token begins, or want of memory.
abbrev pub IsNoMomentText : List ℕ → NoMomentText → Type 0
IsNoMomentText text (stop.BadToken place) = IsTimeFault text place
IsNoMomentText text stop.NoMemory = Unit {0}
