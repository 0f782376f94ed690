-- What the check keeps of the tokens before a place, and what this says of the next. It is not part of what texts mean:
-- it is proved that this says the same as all the tokens before.
use Rattle.std.specs.Prelude.{ℕ, ◌/◌, ◌%◌, ◌^◌, nat_lt, bit_or, Bool, false, ◌&&◌, ◌||◌, ◌==◌, not, List, [], ◌∷◌, Option, Some}
use Rattle.std.specs.Prelude.{None, if◌then◌else◌}
use Rattle.gtd_core.specs.declared.fault.Fault.{Fault}
use Rattle.gtd_core.specs.declared.fault.Fault.TheVariants as faults
use Rattle.gtd_text.specs.declared.token.TokenKind.{TokenKind}
use Rattle.gtd_text.specs.declared.token.TokenKind.TheVariants.{OpenBracket, CloseBracket, OpenParenthesis, CloseParenthesis}
use Rattle.gtd_text.specs.declared.token.TokenKind.TheVariants.{OpenBrace, CloseBrace, Plus, Star, Minus, Field}
use Rattle.gtd_text.specs.declared.check.grammar.Seen.{Seen}
use Rattle.gtd_text.specs.declared.check.letters.Letters.{Letters}
use Rattle.gtd_text.specs.ComputedFields.{is_start_letter, is_duration_letter, is_start_value}
use Rattle.gtd_text.specs.Fitting.{begins_item, follows_item, is_open_brace, is_close_parenthesis, is_close_brace}
use Rattle.gtd_text.specs.Fitting.{may_end_after}
use Rattle.gtd_text.specs.Found.{depth_after}
use Rattle.gtd_text.specs.FirstFault.{depth}
use Rattle.gtd_text.specs.ComputedFaults.{last_token, last_sign, minus_fault}

-- The letters of a set with one more: bit k stands for the letter that is k in ASCII.
abbrev pub with_letter : Letters → ℕ → Letters
with_letter found letter = if nat_lt letter 128 then record { bits = bit_or found.bits (2 ^ letter) } else found

-- The letters of the fields since the last sign.
abbrev pub letters : List TokenKind → Letters
letters [] = record { bits = 0 }
letters (Field letter value digits ∷ before) = with_letter (letters before) letter
letters (sign ∷ before) = record { bits = 0 }

-- Whether a field has this letter of ASCII.
abbrev pub has_found : Letters → ℕ → Bool
has_found found letter = nat_lt letter 128 && found.bits / 2 ^ letter % 2 == 1

abbrev pub is_found_in_start : Letters → ℕ → Bool
is_found_in_start found letter = not (letter == 116) && has_found found letter

-- The token is a field that fits in parentheses after fields with these letters.
abbrev pub start_takes : Letters → TokenKind → Bool
start_takes found (Field letter value digits) =
    is_start_letter letter && not (is_found_in_start found letter) && is_start_value letter value digits
start_takes found token = false

-- The token is a field that fits in braces after fields with these letters.
abbrev pub duration_takes : Letters → TokenKind → Bool
duration_takes found (Field letter value digits) = is_duration_letter letter && not (has_found found letter)
duration_takes found token = false

-- The last token, the last sign, how many brackets are open, and the letters since that sign.
abbrev pub seen : List TokenKind → Seen
seen before = record {
  last = last_token before;
  sign = last_sign before;
  depth = depth before;
  letters = letters before;
}

-- The last sign, and the letters since then, after one more token.
abbrev pub sign_with : Option TokenKind → TokenKind → Option TokenKind
sign_with sign (Field letter value digits) = sign
sign_with sign token = Some token

abbrev pub letters_with : Letters → TokenKind → Letters
letters_with found (Field letter value digits) = with_letter found letter
letters_with found token = letters []

abbrev pub seen_with : Seen → TokenKind → Seen
seen_with before token = record {
  last = Some token;
  sign = sign_with before.sign token;
  depth = depth_after before.depth token;
  letters = letters_with before.letters token;
}

-- After a field comes one more that fits, or the sign that closes.
abbrev pub field_takes : Option TokenKind → Letters → TokenKind → Bool
field_takes (Some OpenParenthesis) found token = start_takes found token || is_close_parenthesis token
field_takes (Some OpenBrace) found token = duration_takes found token || is_close_brace token
field_takes sign found token = false

abbrev pub takes_after : Option TokenKind → Seen → TokenKind → Bool
takes_after None before token = begins_item token
takes_after (Some OpenBracket) before token = begins_item token
takes_after (Some Plus) before token = begins_item token
takes_after (Some Star) before token = begins_item token
takes_after (Some Minus) before token = begins_item token
takes_after (Some OpenParenthesis) before token = start_takes before.letters token
takes_after (Some CloseParenthesis) before token = is_open_brace token
takes_after (Some OpenBrace) before token = duration_takes before.letters token
takes_after (Some CloseBrace) before token = follows_item before.depth token
takes_after (Some CloseBracket) before token = follows_item before.depth token
takes_after (Some (Field letter value digits)) before token = field_takes before.sign before.letters token

-- The token may come next.
abbrev pub takes : Seen → TokenKind → Bool
takes before token = takes_after before.last before token

-- The fault of a token that may not come next.
abbrev pub field_misfit : Option TokenKind → Letters → ℕ → Fault
field_misfit (Some OpenParenthesis) found letter =
    if is_start_letter letter then (if is_found_in_start found letter then faults.Repeated else faults.FieldRange)
    else faults.Unexpected
field_misfit (Some OpenBrace) found letter =
    if is_duration_letter letter then (if has_found found letter then faults.Repeated else faults.FieldRange)
    else faults.Unexpected
field_misfit sign found letter = faults.Unexpected

abbrev pub misfit : Seen → TokenKind → Fault
misfit before (Field letter value digits) = field_misfit before.sign before.letters letter
misfit before Minus = minus_fault before.last
misfit before token = faults.Unexpected

-- The tokens may end here.
abbrev pub ends : Seen → Bool
ends before = may_end_after before.last before.depth
