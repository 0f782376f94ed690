-- Which fields fit, and what they give, as it is computed: for a start and for a duration apart. `Grammar` says it of any
-- table of fields, and `facts/FieldForms` proves that both say the same.
use Rattle.std.specs.Prelude.{List, [], ◌∷◌, ◌++◌, fold, ℕ, Bool, false, ◌&&◌, ◌||◌, ◌==◌, not}
use Rattle.gtd_core.specs.FieldTable.{start_fields, duration_fields, at_letter}
use Rattle.gtd_core.specs.declared.start.StartParts.{StartParts}
use Rattle.gtd_core.specs.declared.duration.DurationParts.{DurationParts}
use Rattle.gtd_text.specs.declared.token.TokenKind.{TokenKind}
use Rattle.gtd_text.specs.declared.token.TokenKind.TheVariants.{CloseParenthesis, OpenParenthesis, OpenBrace, CloseBrace, Field}
use Rattle.gtd_text.specs.Grammar.{each_fits, is_letter_of, with_field}

-- A field of a start has the letter, and a field of a duration.
abbrev pub is_start_letter : ℕ → Bool
is_start_letter letter = is_letter_of start_fields letter

abbrev pub is_duration_letter : ℕ → Bool
is_duration_letter letter = is_letter_of duration_fields letter

-- The field of a start with this letter may have this number, written in this many digits.
abbrev pub is_start_value : ℕ → ℕ → ℕ → Bool
is_start_value letter value digits = at_letter start_fields (λ row. row.takes value digits) false letter

-- A field with this letter is among these tokens, the newest first, back to the last sign: in the same parentheses or
-- braces.
abbrev pub has_letter : ℕ → List TokenKind → Bool
has_letter letter [] = false
has_letter letter (Field other value digits ∷ before) = other == letter || has_letter letter before
has_letter letter (sign ∷ before) = false

-- In a start no letter may occur twice, except `t`, which gives alternatives.
abbrev pub is_repeated_in_start : List TokenKind → ℕ → Bool
is_repeated_in_start before letter = not (letter == 116) && has_letter letter before

-- The token is a field that fits in parentheses after these fields.
abbrev pub fits_start : List TokenKind → TokenKind → Bool
fits_start before (Field letter value digits) =
    is_start_letter letter && not (is_repeated_in_start before letter) && is_start_value letter value digits
fits_start before token = false

-- The token is a field that fits in braces after these fields. Its number has no range of its own.
abbrev pub fits_duration : List TokenKind → TokenKind → Bool
fits_duration before (Field letter value digits) = is_duration_letter letter && not (has_letter letter before)
fits_duration before token = false

abbrev pub all_fit_start : List TokenKind → List TokenKind → Bool
all_fit_start before tokens = each_fits fits_start before tokens

abbrev pub all_fit_duration : List TokenKind → List TokenKind → Bool
all_fit_duration before tokens = each_fits fits_duration before tokens

-- The start with one more field, and the duration.
abbrev pub with_start_field : StartParts → TokenKind → StartParts
with_start_field parts token = with_field start_fields parts token

abbrev pub with_duration_field : DurationParts → TokenKind → DurationParts
with_duration_field parts token = with_field duration_fields parts token

-- What fields give together.
abbrev pub with_start_fields : StartParts → List TokenKind → StartParts
with_start_fields parts tokens = fold with_start_field parts tokens

abbrev pub with_duration_fields : DurationParts → List TokenKind → DurationParts
with_duration_fields parts tokens = fold with_duration_field parts tokens

-- The tokens of a basic domain with these fields.
abbrev pub basic_tokens : List TokenKind → List TokenKind → List TokenKind
basic_tokens start duration = OpenParenthesis ∷ (start ++ CloseParenthesis ∷ OpenBrace ∷ (duration ++ CloseBrace ∷ []))
