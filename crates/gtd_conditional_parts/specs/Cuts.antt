-- Where a value and a condition are cut.
use Rattle.std.specs.Prelude.{ℕ, Bool, ◌&&◌, ◌+◌, ◌-◌, ◌==◌, false, if◌then◌else◌, List, length, take, drop, nat_lt, slice_index}
use Rattle.std.specs.List.{suffix_len}
use Rattle.gtd_conditional_values.specs.Parts.{part_length}
use Rattle.gtd_conditional_values.specs.Pieces.{is_space}
use Rattle.gtd_conditional_values.specs.Terms.{term_length}

-- ---- parts: a `;` of one byte comes after each but the last

abbrev pub part_bytes : List ℕ → ℕ
part_bytes text = part_length false 0 text

abbrev pub first_part : List ℕ → List ℕ
first_part text = take (part_bytes text) text

abbrev pub after_part : List ℕ → List ℕ
after_part text = drop (part_bytes text + 1) text

-- ---- terms: an `AND` of three bytes comes after each but the last

abbrev pub term_bytes : List ℕ → ℕ
term_bytes text = term_length false false 0 text

abbrev pub first_term : List ℕ → List ℕ
first_term text = take (term_bytes text) text

abbrev pub after_term : List ℕ → List ℕ
after_term text = drop (term_bytes text + 3) text

-- ---- the end of a value

-- how many bytes a text has without the spaces at its end
abbrev pub filled : List ℕ → ℕ
filled text = length text - suffix_len is_space text

-- its last byte, but for these, is `;`
abbrev pub ends_with_semicolon : List ℕ → Bool
ends_with_semicolon text = nat_lt 0 (filled text) && slice_index text (filled text - 1) == 59

-- the value without one `;` at its end
abbrev pub body : List ℕ → List ℕ
body value = if ends_with_semicolon value then take (filled value - 1) value else value
