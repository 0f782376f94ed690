-- Words and comparisons, and the normal form of a comparison.
use Rattle.std.specs.Prelude.{ℕ, Bool, ◌&&◌, ◌||◌, not, false, if◌then◌else◌, List, [], ◌∷◌, ◌++◌, ◌-◌, ◌==◌, nat_lt, length}
use Rattle.std.specs.Prelude.{take, drop, codes, Option, Some, None}
use Rattle.std.specs.Char.{is_ascii_digit, is_ascii_lowercase}
use Rattle.std.specs.List.{list_all, prefix_len, suffix_len, take_while}
use Rattle.gtd_rows.specs.Columns.{is_word}

-- a lower case letter or `_`; a space; the digit 0
abbrev pub is_word_byte : ℕ → Bool
is_word_byte byte = is_ascii_lowercase byte || byte == 95

abbrev pub is_space : ℕ → Bool
is_space byte = byte == 32

abbrev pub is_zero : ℕ → Bool
is_zero byte = byte == 48

-- there is a byte at least
abbrev pub is_some_text : List ℕ → Bool
is_some_text text = nat_lt 0 (length text)

-- a word: one or more such bytes
abbrev pub is_lower_word : List ℕ → Bool
is_lower_word text = is_some_text text && list_all is_word_byte text

-- what comes after the bytes of a kind that a text begins with
abbrev pub after : (ℕ → Bool) → List ℕ → List ℕ
after is text = drop (prefix_len is text) text

-- the first byte is this one
abbrev pub begins_with : ℕ → List ℕ → Bool
begins_with byte [] = false
begins_with byte (first ∷ rest) = first == byte

-- ---- the parts of a comparison, one after another, with spaces or none before the sign, the number and the unit

-- how many bytes the sign has with which a text begins, `=`, `<`, `<=`, `>` or `>=`; 0, if it does not
abbrev pub sign_length : List ℕ → ℕ
sign_length [] = 0
sign_length (first ∷ rest) =
    if first == 61 then 1
    else if first == 60 || first == 62 then (if begins_with 61 rest then 2 else 1)
    else 0

-- the text from the sign on, from the number on, and from behind its first digits on
abbrev pub from_sign : List ℕ → List ℕ
from_sign text = after is_space (after is_word_byte text)

abbrev pub from_number : List ℕ → List ℕ
from_number text = after is_space (drop (sign_length (from_sign text)) (from_sign text))

abbrev pub from_point : List ℕ → List ℕ
from_point text = after is_ascii_digit (from_number text)

-- the digits after a point, and what comes after these
abbrev pub fraction_digits : List ℕ → List ℕ
fraction_digits text = if begins_with 46 text then take_while is_ascii_digit (drop 1 text) else []

abbrev pub after_fraction : List ℕ → List ℕ
after_fraction text = if begins_with 46 text then after is_ascii_digit (drop 1 text) else text

-- the parts
abbrev pub word_of : List ℕ → List ℕ
word_of text = take_while is_word_byte text

abbrev pub sign_of : List ℕ → List ℕ
sign_of text = take (sign_length (from_sign text)) (from_sign text)

abbrev pub whole_of : List ℕ → List ℕ
whole_of text = take_while is_ascii_digit (from_number text)

abbrev pub fraction_of : List ℕ → List ℕ
fraction_of text = fraction_digits (from_point text)

abbrev pub unit_of : List ℕ → List ℕ
unit_of text = after is_space (after_fraction (from_point text))

-- there are digits after a point, if there is one
abbrev pub is_number_end : List ℕ → Bool
is_number_end text = not (begins_with 46 text) || is_some_text (fraction_digits text)

-- the text is a comparison: a word, a sign, a number, and a unit of lower case letters or none
abbrev pub is_comparison : List ℕ → Bool
is_comparison text =
    is_some_text (word_of text) && is_some_text (sign_of text) && is_some_text (whole_of text)
    && is_number_end (from_point text) && list_all is_ascii_lowercase (unit_of text)

-- ---- the normal form

-- without zeros at the front, but with one digit at least
abbrev pub short_whole : List ℕ → List ℕ
short_whole digits = if is_some_text (after is_zero digits) then after is_zero digits else codes "0"

-- without zeros at the end; the point stands only before digits
abbrev pub without_end : List ℕ → List ℕ
without_end digits = take (length digits - suffix_len is_zero digits) digits

abbrev pub short_fraction : List ℕ → List ℕ
short_fraction digits = if is_some_text (without_end digits) then 46 ∷ without_end digits else []

-- the words of lengths
abbrev pub is_of_length : List ℕ → Bool
is_of_length word = is_word word (codes "length") || is_word word (codes "width") || is_word word (codes "height")

-- the unit that is meant where there is none
abbrev pub is_usual_unit : List ℕ → List ℕ → Bool
is_usual_unit word unit = is_word unit (codes "t") || is_word unit (codes "m") && is_of_length word

abbrev pub short_unit : List ℕ → List ℕ → List ℕ
short_unit word unit = if is_usual_unit word unit then [] else unit

-- the comparison in its normal form
abbrev pub normal : List ℕ → List ℕ
normal text =
    word_of text ++ sign_of text ++ short_whole (whole_of text) ++ short_fraction (fraction_of text)
    ++ short_unit (word_of text) (unit_of text)

abbrev pub normal_of : List ℕ → Option (List ℕ)
normal_of text = if is_comparison text then Some (normal text) else None
