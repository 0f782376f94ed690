-- Which tokens a text is made of, in the form in which proofs take them apart: the digits of a field are apart from what
-- follows them, and each sign stands for itself. `Lexing` is the definition, and `facts/LexingForms` proves that both say the
-- same.
use Rattle.std.specs.Prelude.{List, reverse, ◌≡◌, ◌≢◌, ℕ, ◌+◌, ◌≤◌, ◌<◌, true, false, ◌∷◌, ◌++◌, length, drop}
use Rattle.std.specs.Prelude.{slice_index}
use Rattle.gtd_scan.specs.Runs.{begins}
use Rattle.gtd_scan.specs.Tokens.{ReadsTokens}
use Rattle.gtd_text.specs.declared.token.Token.{Token}
use Rattle.gtd_text.specs.declared.token.TokenKind.{TokenKind}
use Rattle.std.specs.Char.{is_ascii_digit}
use Rattle.std.specs.Str.{all_ascii_digits}
use Rattle.std.specs.Str.Parse.{digits_value}
use Rattle.gtd_core.specs.declared.fault.Fault.{Fault}
use Rattle.gtd_core.specs.declared.fault.Fault.TheVariants as faults
use Rattle.gtd_core.specs.declared.fault.TextFault.{TextFault}
use Rattle.gtd_text.specs.declared.token.TokenKind.TheVariants.{OpenBracket, CloseBracket, OpenParenthesis, CloseParenthesis}
use Rattle.gtd_text.specs.declared.token.TokenKind.TheVariants.{OpenBrace, CloseBrace, Plus, Star, Minus, Field}
use Rattle.gtd_text.specs.ComputedFields.{is_start_letter}
use Rattle.gtd_text.specs.Lexing.{kinds}

-- What each token is, the newest first.
unfoldable pub newest_first : List Token → List TokenKind
newest_first tokens = reverse (kinds tokens)

-- The byte is the sign: [ 91, ] 93, ( 40, ) 41, { 123, } 125, + 43, * 42, - 45. A field is not a sign.
abbrev pub IsSign : TokenKind → ℕ → Type 0
IsSign OpenBracket byte = byte ≡ 91
IsSign CloseBracket byte = byte ≡ 93
IsSign OpenParenthesis byte = byte ≡ 40
IsSign CloseParenthesis byte = byte ≡ 41
IsSign OpenBrace byte = byte ≡ 123
IsSign CloseBrace byte = byte ≡ 125
IsSign Plus byte = byte ≡ 43
IsSign Star byte = byte ≡ 42
IsSign Minus byte = byte ≡ 45
IsSign (Field letter value digits) byte = ⊥

-- The bytes do not begin with a decimal digit: there are none, or the first is another byte.
abbrev pub BeginsNoDigit : List ℕ → Type 0
BeginsNoDigit bytes = begins is_ascii_digit bytes ≡ false

-- At this place of the text are the letter and all the decimal digits that directly follow it, one to six.
pub record HasDigits (text : List ℕ) (place letter : ℕ) (digits : List ℕ) : Type 0 where
  pub rest : List ℕ
  pub stand : drop place text ≡ letter ∷ (digits ++ rest)
  pub all : all_ascii_digits digits ≡ true
  pub some : 1 ≤ length digits
  pub few : length digits ≤ 6
  pub no_more : BeginsNoDigit rest

-- The token is in the text, from its first byte up to its end: one byte that is its sign, or a letter of a start and all
-- the digits that follow it, as many as it says and with its number. Each letter of a duration is one of a start.
pub data IsToken (text : List ℕ) (token : Token) : Type 0 where
  sign : (byte : ℕ) (rest : List ℕ) → drop token.from text ≡ byte ∷ rest → IsSign token.kind byte
      → token.to ≡ token.from + 1 → IsToken text token
  field : (letter : ℕ) (digits : List ℕ) → is_start_letter letter ≡ true → HasDigits text token.from letter digits
      → token.kind ≡ Field letter (digits_value 10 digits) (length digits)
      → token.to ≡ token.from + 1 + length digits → IsToken text token

-- No token begins at this place of the text.
abbrev pub BeginsNoToken : List ℕ → ℕ → Type 0
BeginsNoToken text place = (token : Token) → IsToken text token → token.from ≡ place → ⊥

-- The fault if no token begins here: `Fuzzy` for a `z` (122) that is followed by one to six digits and no more, and
-- `BadToken` otherwise.
pub data IsFaultAt (text : List ℕ) (place : ℕ) (fault : Fault) : Type 0 where
  fuzzy : (digits : List ℕ) → HasDigits text place 122 digits → fault ≡ faults.Fuzzy → IsFaultAt text place fault
  bad : ((digits : List ℕ) → HasDigits text place 122 digits → ⊥) → fault ≡ faults.BadToken
      → IsFaultAt text place fault

-- From one place to another the text is these tokens, with spaces or none before, between and after them.
abbrev pub Reads : List ℕ → ℕ → List Token → ℕ → Type 0
Reads text = ReadsTokens (λ (token : Token). token.from) (λ (token : Token). token.to) (IsToken text) text

-- The whole text is spaces and these tokens, each at its place.
abbrev pub AreTokens : List ℕ → List Token → Type 0
AreTokens text tokens = Reads text 0 tokens (length text)

-- The fault is at the first byte other than a space at which no token begins. Before it there are at most spaces and
-- tokens.
pub record IsTokenFault (text : List ℕ) (fault : TextFault) : Type 0 where
  pub before : List Token
  pub reads : Reads text 0 before fault.place
  pub inside : fault.place < length text
  pub no_space : slice_index text fault.place ≢ 32
  pub no_token : BeginsNoToken text fault.place
  pub kind : IsFaultAt text fault.place fault.kind
