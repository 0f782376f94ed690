-- Which tokens a text is made of. Texts are lists of bytes, by their numbers in ASCII.
use Rattle.std.specs.Prelude.{List, ◌≡◌, ◌≢◌, ℕ, ◌+◌, ◌≤◌, ◌<◌, ◌&&◌, ◌==◌, not, Bool, true, false, [], ◌∷◌, ◌++◌, length, drop}
use Rattle.std.specs.Prelude.{slice_index, Option, Some, None, Result, Ok, Err}
use Rattle.std.specs.Char.{is_ascii_alphabetic, is_ascii_digit}
use Rattle.std.specs.List.{list_all}
use Rattle.std.specs.Str.Parse.{digits_value}
use Rattle.gtd_scan.specs.Tokens.{ReadsTokens}
pub use Rattle.gtd_scan.specs.Runs.{begins, IsRun}
pub use Rattle.gtd_scan.specs.Spaces.{AreSpaces}
use Rattle.gtd_hours_tokens.specs.declared.token.Token.{Token}
use Rattle.gtd_hours_tokens.specs.declared.token.BadToken.{BadToken}
use Rattle.gtd_hours_tokens.specs.declared.token.TokenKind.{TokenKind}
use Rattle.gtd_hours_tokens.specs.declared.token.TokenKind.TheVariants.{Comma, Semicolon, Dash, Slash, Colon, OpenBracket}
use Rattle.gtd_hours_tokens.specs.declared.token.TokenKind.TheVariants.{CloseBracket, Plus}
use Rattle.gtd_hours_tokens.specs.declared.token.TokenKind.TheVariants.{Unsupported, Number, Time}
use Rattle.gtd_hours_tokens.specs.Words.{word_of}

-- The bytes begin with a colon (58) and a digit.
abbrev pub begins_minutes : List ℕ → Bool
begins_minutes [] = false
begins_minutes (byte ∷ bytes) = byte == 58 && begins is_ascii_digit bytes

-- The byte is not a quote (34).
abbrev pub is_no_quote : ℕ → Bool
is_no_quote byte = not (byte == 34)

-- The byte is the sign: , 44, ; 59, - 45, / 47, : 58, [ 91, ] 93, + 43. A word, a number or a time is not a sign.
abbrev pub IsSign : TokenKind → ℕ → Type 0
IsSign Comma byte = byte ≡ 44
IsSign Semicolon byte = byte ≡ 59
IsSign Dash byte = byte ≡ 45
IsSign Slash byte = byte ≡ 47
IsSign Colon byte = byte ≡ 58
IsSign OpenBracket byte = byte ≡ 91
IsSign CloseBracket byte = byte ≡ 93
IsSign Plus byte = byte ≡ 43
IsSign kind byte = ⊥

-- The bytes are a token of this kind where the rest follows:
-- a word is a longest run of letters that is in the list of words;
-- a number is a longest run of one to four digits, and no colon with a digit follows;
-- a time is two digits, a colon and two digits, and neither a digit nor a colon with a digit follows;
-- a sign is one byte, or two bars (124);
-- a comment goes from a quote (34) to the next quote, or to the end of the text if there is none.
pub data IsTokenText (kind : TokenKind) (here rest : List ℕ) : Type 0 where
  word : IsRun is_ascii_alphabetic here rest → word_of here ≡ Some kind → IsTokenText kind here rest
  number : IsRun is_ascii_digit here rest → 1 ≤ length here → length here ≤ 4 → begins_minutes rest ≡ false
      → kind ≡ Number (digits_value 10 here) (length here) → IsTokenText kind here rest
  time : (hour minute : List ℕ) → here ≡ hour ++ 58 ∷ minute → list_all is_ascii_digit hour ≡ true
      → IsRun is_ascii_digit minute rest → length hour ≡ 2 → length minute ≡ 2 → begins_minutes rest ≡ false
      → kind ≡ Time (digits_value 10 hour) (digits_value 10 minute) → IsTokenText kind here rest
  sign : (byte : ℕ) → here ≡ byte ∷ [] → IsSign kind byte → IsTokenText kind here rest
  bars : here ≡ 124 ∷ 124 ∷ [] → kind ≡ Unsupported → IsTokenText kind here rest
  comment : (inside : List ℕ) → here ≡ 34 ∷ (inside ++ 34 ∷ []) → list_all is_no_quote inside ≡ true → kind ≡ Unsupported
      → IsTokenText kind here rest
  last_comment : (inside : List ℕ) → here ≡ 34 ∷ inside → list_all is_no_quote inside ≡ true → rest ≡ []
      → kind ≡ Unsupported → IsTokenText kind here rest

-- The token is in the text, from its first byte up to its end.
pub record IsToken (text : List ℕ) (token : Token) : Type 0 where
  pub here : List ℕ
  pub rest : List ℕ
  pub stand : drop token.from text ≡ here ++ rest
  pub is : IsTokenText token.kind here rest
  pub to : token.to ≡ token.from + length here

-- No token begins at this place of the text.
abbrev pub BeginsNoToken : List ℕ → ℕ → Type 0
BeginsNoToken text place = (token : Token) → IsToken text token → token.from ≡ place → ⊥

-- The first byte from a place on that is no space is here, and no token begins with it.
pub record IsStop (text : List ℕ) (from place : ℕ) : Type 0 where
  pub spaces : AreSpaces text from place
  pub inside : place < length text
  pub no_space : slice_index text place ≢ 32
  pub no_token : BeginsNoToken text place

-- What comes next from a place on: a token after spaces, spaces up to the end, or a byte with which no token begins.
abbrev pub IsNext : List ℕ → ℕ → Result (Option Token) BadToken → Type 0
IsNext text from (Ok (Some token)) = AreSpaces text from token.from × IsToken text token
IsNext text from (Ok None) = AreSpaces text from (length text)
IsNext text from (Err bad) = IsStop text from bad.place

-- From one place to another the text is these tokens, with spaces or none before, between and after them.
abbrev pub Reads : List ℕ → ℕ → List Token → ℕ → Type 0
Reads text = ReadsTokens (λ (token : Token). token.from) (λ (token : Token). token.to) (IsToken text) text

-- The whole text is spaces and these tokens, each at its place.
abbrev pub AreTokens : List ℕ → List Token → Type 0
AreTokens text tokens = Reads text 0 tokens (length text)

-- The first byte other than a space with which no token begins is here. Before it there are at most spaces and tokens.
pub record IsTokenFault (text : List ℕ) (place : ℕ) : Type 0 where
  pub before : List Token
  pub reads : Reads text 0 before place
  pub inside : place < length text
  pub no_space : slice_index text place ≢ 32
  pub no_token : BeginsNoToken text place
