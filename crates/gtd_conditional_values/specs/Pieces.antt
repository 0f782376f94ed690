-- The pieces of a part: its name and its condition, without spaces around them, and what parentheses enclose.
use Rattle.std.specs.Prelude.{ℕ, Bool, ◌&&◌, not, false, if◌then◌else◌, List, [], ◌∷◌, ◌+◌, ◌-◌, ◌==◌, nat_eq, nat_lt, length}
use Rattle.std.specs.Prelude.{take, drop}
use Rattle.std.specs.Prelude.{Option, Some, None}
use Rattle.std.specs.List.{prefix_len, suffix_len}
use Rattle.gtd_conditional_values.specs.Nesting.{nested, quoted}

-- a space, and any byte but `@`
abbrev pub is_space : ℕ → Bool
is_space byte = byte == 32

abbrev pub is_no_at : ℕ → Bool
is_no_at byte = not (byte == 64)

-- how many spaces a text begins with, and the text without spaces at both ends
abbrev pub front_spaces : List ℕ → ℕ
front_spaces text = prefix_len is_space text

abbrev pub without_end : List ℕ → List ℕ
without_end text = take (length text - suffix_len is_space text) text

abbrev pub trimmed : List ℕ → List ℕ
trimmed text = without_end (drop (front_spaces text) text)

-- the place of the first `@` of a part: its name is before it, and its condition after it
abbrev pub at_sign : List ℕ → Option ℕ
at_sign part = if nat_lt (prefix_len is_no_at part) (length part) then Some (prefix_len is_no_at part) else None

-- a `)` that closes the only parenthesis that is open
abbrev pub is_closing : Bool → ℕ → ℕ → Bool
is_closing comment depth byte = not comment && depth == 1 && byte == 41

-- How many bytes a text has before the first such `)`: all, if there is none.
abbrev pub closed_length : Bool → ℕ → List ℕ → ℕ
closed_length comment depth [] = 0
closed_length comment depth (byte ∷ text) =
    if is_closing comment depth byte then 0
    else closed_length (quoted comment byte) (nested comment depth byte) text + 1

-- the first byte of a text is a `(`, and its last byte closes that
abbrev pub begins_inside : List ℕ → Bool
begins_inside [] = false
begins_inside (byte ∷ text) = byte == 40

abbrev pub is_enclosed : List ℕ → Bool
is_enclosed text = begins_inside text && nat_eq (closed_length false 0 text + 1) (length text)

-- what stands between these, if there are two bytes at least
abbrev pub enclosed : List ℕ → Option (List ℕ)
enclosed text =
    if nat_lt 1 (length text) && is_enclosed text then Some (take (length text - 1 - 1) (drop 1 text)) else None
