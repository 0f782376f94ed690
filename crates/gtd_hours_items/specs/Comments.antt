-- Comments that end, and have bytes that can be written.
use Rattle.std.specs.Prelude.{◌≡◌, ◌⊎◌, ℕ, ◌&&◌, ◌||◌, ◌==◌, not, nat_le, Bool, true, false, List, [], ◌∷◌, ◌++◌, drop}
use Rattle.std.specs.Prelude.{if◌then◌else◌}
use Rattle.std.specs.List.{list_all}
use Rattle.gtd_hours_tokens.specs.Lexing.{IsTokenFault, Reads}
use Rattle.gtd_hours_tokens.specs.declared.token.Token.{Token}
use Rattle.gtd_hours_moving.specs.Words.{stretch}
use Rattle.gtd_hours_items.specs.Items.{is_comment}
use Rattle.gtd_hours_items.specs.declared.stop.NoHolidayText.{NoHolidayText}
use Rattle.gtd_hours_items.specs.declared.stop.NoHolidayText.TheVariants as stop

-- The byte is no control byte: none below a space (32), and not 127.
abbrev pub is_written : ℕ → Bool
is_written byte = nat_le 32 byte && not (byte == 127)

-- The bytes are written up to a quote (34).
abbrev pub goes_to_quote : List ℕ → Bool
goes_to_quote [] = false
goes_to_quote (byte ∷ bytes) = byte == 34 || (is_written byte && goes_to_quote bytes)

-- The token is no comment, or one that is written up to a second quote.
abbrev pub is_whole : List ℕ → Token → Bool
is_whole text token =
    if is_comment text token then goes_to_quote (drop 1 (stretch text token.from token.to)) else true

abbrev pub are_whole : List ℕ → List Token → Bool
are_whole text tokens = list_all (is_whole text) tokens

-- A comment that is not whole begins at this place, and it is the first one: the text up to its end is whole tokens and it.
pub record IsBrokenComment (text : List ℕ) (place : ℕ) : Type 0 where
  pub before : List Token
  pub comment : Token
  pub reads : Reads text 0 (before ++ comment ∷ []) comment.to
  pub whole : are_whole text before ≡ true
  pub broken : is_whole text comment ≡ false
  pub from : place ≡ comment.from

-- No token begins with the byte at this place, and the tokens before it are whole.
pub record IsBadByte (text : List ℕ) (place : ℕ) : Type 0 where
  pub fault : IsTokenFault text place
  pub whole : are_whole text fault.before ≡ true

-- The first place at which a text is not whole tokens and spaces.
abbrev pub IsBadPlace : List ℕ → ℕ → Type 0
IsBadPlace text place = IsBadByte text place ⊎ IsBrokenComment text place

-- Why a text is not whole tokens: a byte with which no token begins or a comment that is not whole, whichever stands first, or
-- want of memory.
abbrev pub IsNoHolidayText : List ℕ → NoHolidayText → Type 0
IsNoHolidayText text (stop.BadToken place) = IsBadPlace text place
IsNoHolidayText text stop.NoMemory = Unit {0}
