-- Which tokens a text is made of, strict and loose, or its first fault at these.
use Rattle.std.specs.Prelude.{ℕ, zero, suc, ◌+◌, ◌-◌, ◌/◌, ◌%◌, ◌&&◌, ◌||◌, ◌==◌, not, nat_le, nat_lt, Bool, true, false}
use Rattle.std.specs.Prelude.{List, [], ◌∷◌, length, drop, Option, Some, None, Result, Ok, Err, if◌then◌else◌}
use Rattle.std.specs.List.{prefix_len, take_while}
use Rattle.std.specs.Option.{option_or}
use Rattle.std.specs.Char.{is_ascii_alphabetic, is_ascii_digit}
use Rattle.gtd_hours_tokens2.specs.declared.token.DayNames.{DayNames}
use Rattle.gtd_hours_tokens2.specs.declared.token.DayNames.TheVariants as names
use Rattle.gtd_hours_tokens2.specs.declared.token.TokenKind.{TokenKind}
use Rattle.gtd_hours_tokens2.specs.declared.token.TokenKind.TheVariants as token
use Rattle.gtd_hours_tokens2.specs.declared.token.Token.{Token}
use Rattle.gtd_hours_tokens2.specs.declared.token.TokenFaultKind.{TokenFaultKind}
use Rattle.gtd_hours_tokens2.specs.declared.token.TokenFaultKind.TheVariants as fault
use Rattle.gtd_hours_tokens2.specs.declared.token.TokenFault.{TokenFault}
use Rattle.gtd_hours_tokens2.specs.declared.found.Found.{Found}
use Rattle.gtd_hours_tokens2.specs.declared.words.Name.{Name}
use Rattle.gtd_hours_tokens2.specs.declared.words.Name.TheVariants.{Capital, Upper, Lower, Other, German}
use Rattle.gtd_hours_tokens2.specs.declared.lexer.Raw.{Raw}
use Rattle.gtd_hours_tokens2.specs.declared.lexer.Raw.TheVariants as raw
use Rattle.gtd_hours_tokens2.specs.declared.pairs.Before.{Before}
use Rattle.gtd_hours_tokens2.specs.declared.pairs.Before.TheVariants as before
use Rattle.gtd_hours_tokens2.specs.declared.pairs.Paired.{Paired}
use Rattle.gtd_hours_tokens2.specs.Words.{name_of, is_capital, is_upper, is_lower}
use Rattle.gtd_hours_tokens2.specs.Clock.{Front, found, digits_of, after_digits, digits_front}
use Rattle.gtd_hours_tokens2.specs.Signs.{sign_front, loose_space}

-- ---- the token that bytes begin with

abbrev pub begins_stop : List ℕ → Bool
begins_stop [] = false
begins_stop (byte ∷ rest) = byte == 46

-- a full stop (46) directly after the name of a month or weekday belongs to it
abbrev pub with_stop : TokenKind → Bool → ℕ → List ℕ → Front
with_stop kind is_loose n rest = if begins_stop rest then found kind (n + 1) true else found kind n is_loose

abbrev pub named : TokenKind → Bool → ℕ → List ℕ → Front
named (token.Month m) is_loose n rest = with_stop (token.Month m) is_loose n rest
named (token.Weekday d) is_loose n rest = with_stop (token.Weekday d) is_loose n rest
named kind is_loose n rest = found kind n is_loose

abbrev pub german : DayNames → ℕ → ℕ → List ℕ → Front
german names.Unsaid d n rest = Err fault.Ambiguous
german names.German d n rest = with_stop (token.Weekday d) true n rest

abbrev pub word_front : DayNames → List ℕ → List ℕ → Option Name → Front
word_front names letters rest None = Err fault.BadToken
word_front names letters rest (Some (Capital kind)) = named kind (not (is_capital letters)) (length letters) rest
word_front names letters rest (Some (Upper kind)) = named kind (not (is_upper letters)) (length letters) rest
word_front names letters rest (Some (Lower kind)) = named kind (not (is_lower letters)) (length letters) rest
word_front names letters rest (Some (Other kind)) = named kind true (length letters) rest
word_front names letters rest (Some (German d)) = german names d (length letters) rest

abbrev pub letters_of : List ℕ → List ℕ
letters_of bytes = take_while is_ascii_alphabetic bytes

abbrev pub after_letters : List ℕ → List ℕ
after_letters bytes = drop (prefix_len is_ascii_alphabetic bytes) bytes

abbrev pub front : DayNames → List ℕ → Front
front names [] = Err fault.BadToken
front names (byte ∷ rest) =
    if is_ascii_alphabetic byte
    then word_front names (letters_of (byte ∷ rest)) (after_letters (byte ∷ rest)) (name_of (letters_of (byte ∷ rest)))
    else if is_ascii_digit byte then digits_front (digits_of (byte ∷ rest)) (after_digits (byte ∷ rest))
    else sign_front byte rest

-- ---- tokens of a text

-- tokens, and the places of loose spaces
pub record Tokens : Type 0 where
  pub tokens : List Token
  pub spaces : List ℕ

abbrev pub Lexed : Type 0
Lexed = Result Tokens TokenFault

abbrev pub nothing : Tokens
nothing = record { tokens = []; spaces = [] }

abbrev pub with_token : Token → Lexed → Lexed
with_token t (Ok x) = Ok (record { tokens = t ∷ x.tokens; spaces = x.spaces })
with_token t (Err why) = Err why

abbrev pub with_space : ℕ → Lexed → Lexed
with_space place (Ok x) = Ok (record { tokens = x.tokens; spaces = place ∷ x.spaces })
with_space place (Err why) = Err why

abbrev pub placed : ℕ → Found → Token
placed place f = record { kind = f.kind; from = place; to = place + f.length; is_loose = f.is_loose }

abbrev pub wrong : TokenFaultKind → ℕ → TokenFault
wrong kind place = record { kind = kind; place = place }

abbrev pub raw_of : Front → Raw
raw_of (Ok f) = raw.Token f
raw_of (Err kind) = raw.Fault kind

-- what a text goes on with: a plain space (32), a loose one of so many bytes, a token, or a fault
abbrev pub raw_at : DayNames → ℕ → List ℕ → Raw
raw_at names byte rest =
    if byte == 32 then raw.Blank
    else if nat_lt 0 (loose_space byte rest) then raw.Space (loose_space byte rest)
    else raw_of (front names (byte ∷ rest))

abbrev pub raw_front : DayNames → List ℕ → Raw
raw_front names [] = raw.Fault fault.BadToken
raw_front names (byte ∷ rest) = raw_at names byte rest

abbrev pub raw_length : Raw → ℕ
raw_length raw.Blank = 1
raw_length (raw.Space n) = n
raw_length (raw.Token f) = f.length
raw_length (raw.Fault kind) = 1

abbrev pub by_raw : ℕ → Raw → Lexed → Lexed
by_raw place raw.Blank later = later
by_raw place (raw.Space n) later = with_space place later
by_raw place (raw.Token f) later = with_token (placed place f) later
by_raw place (raw.Fault kind) later = Err (wrong kind place)

-- The tokens of bytes that begin at a place, where the first so many bytes have been read.
abbrev pub tokens_from : DayNames → ℕ → ℕ → List ℕ → Lexed
tokens_from names k place [] = Ok nothing
tokens_from names (suc k) place (byte ∷ rest) = tokens_from names k (place + 1) rest
tokens_from names zero place (byte ∷ rest) =
    by_raw place (raw_at names byte rest) (tokens_from names (raw_length (raw_at names byte rest) - 1) (place + 1) rest)

-- ---- two numbers of four digits with a dash between: years, or times

abbrev pub four : TokenKind → Option ℕ
four (token.Number value count) = if count == 4 then Some value else None
four kind = None

abbrev pub is_dash_kind : TokenKind → Bool
is_dash_kind token.Dash = true
is_dash_kind kind = false

-- a dash and a number of four digits come first
abbrev pub second : List Token → Option ℕ
second (dash ∷ t ∷ ts) = if is_dash_kind dash.kind then four t.kind else None
second ts = None

-- the number can be a time
abbrev pub is_clock : ℕ → Bool
is_clock v = nat_lt (v % 100) 60 && nat_le v 4800

-- they are times, if the first can be no year or comes directly after a day
abbrev pub are_times : Bool → ℕ → ℕ → Bool
are_times is_day v w = (nat_lt v 1800 || is_day) && (is_clock v && is_clock w)

-- the number as a time, if it can be one
abbrev pub as_time : Token → ℕ → Token
as_time t v =
    if is_clock v then record { kind = token.Time (v / 100) (v % 100); from = t.from; to = t.to; is_loose = true } else t

abbrev pub after_kind : TokenKind → Before
after_kind (token.Weekday d) = before.Day
after_kind token.Close = before.Day
after_kind token.PublicHoliday = before.Day
after_kind token.SchoolHoliday = before.Day
after_kind kind = before.Other

-- the token as it is, and what it is to the next one
abbrev pub plain : Token → Before → Paired
plain t b = record { token = t; before = b; is_time = false; year = None }

-- the first of two such numbers
abbrev pub first_of : Bool → Token → ℕ → Paired
first_of true t v = record { token = as_time t v; before = before.Times; is_time = true; year = None }
first_of false t v = record { token = t; before = before.Years; is_time = false; year = Some t.from }

-- a number of four digits, or not, and the second one, or none
abbrev pub at_first : Bool → Token → Option ℕ → Option ℕ → Paired
at_first is_day t (Some v) (Some w) = first_of (are_times is_day v w) t v
at_first is_day t v w = plain t (after_kind t.kind)

-- the second of two times, or the dash before it
abbrev pub at_second_time : Token → Option ℕ → Paired
at_second_time t (Some v) = plain (as_time t v) before.Other
at_second_time t None = plain t before.Times

abbrev pub at_second_year : Token → Option ℕ → Paired
at_second_year t (Some v) = plain t before.Other
at_second_year t None = plain t before.Years

-- what becomes of a token, by what came before, with the second number after it
abbrev pub paired : Before → Token → Option ℕ → Paired
paired before.Other t w = at_first false t (four t.kind) w
paired before.Day t w = at_first true t (four t.kind) w
paired before.Times t w = at_second_time t (four t.kind)
paired before.Years t w = at_second_year t (four t.kind)

-- all tokens so, whether some are times, and the first number that is read as a year of two
pub record Pairs : Type 0 where
  pub tokens : List Token
  pub are_times : Bool
  pub year : Option ℕ

abbrev pub with_pair : Paired → Pairs → Pairs
with_pair p x = record { tokens = p.token ∷ x.tokens; are_times = p.is_time || x.are_times; year = option_or p.year x.year }

abbrev pub pairs : Before → List Token → Pairs
pairs b [] = record { tokens = []; are_times = false; year = None }
pairs b (t ∷ ts) = with_pair (paired b t (second ts)) (pairs (paired b t (second ts)).before ts)

-- Where one pair is read as times, one that is not is read in two ways.
abbrev pub checked : Bool → Option ℕ → List Token → List ℕ → Lexed
checked true (Some place) tokens spaces = Err (wrong fault.Ambiguous place)
checked times year tokens spaces = Ok (record { tokens = tokens; spaces = spaces })

-- after pairs that were times or years
abbrev pub and_pairs : Bool → Option ℕ → Before → Lexed → Lexed
and_pairs times year b (Ok x) =
    checked (times || (pairs b x.tokens).are_times) (option_or year (pairs b x.tokens).year) (pairs b x.tokens).tokens x.spaces
and_pairs times year b (Err why) = Err why

-- the tokens of a text, or its first fault
abbrev pub tokens_of : DayNames → List ℕ → Lexed
tokens_of names text =
    if nat_lt 65536 (length text) then Err (wrong fault.TooLong 65536)
    else and_pairs false None before.Other (tokens_from names 0 0 text)
