-- What is computed of the faults of tokens: in each phase the fault of a token by those around it, if it has one. `FirstFault`
-- is the definition, and `facts/Phases` proves that both say the same.
use Rattle.std.specs.Prelude.{List, ◌++◌, [], ◌∷◌, Bool, true, false, nat_lt, ℕ, Option, Some, None, if◌then◌else◌, ◌≡◌, ◌==◌}
use Rattle.std.specs.Prelude.{fold}
use Rattle.std.specs.List.{take_while}
use Rattle.gtd_text.specs.declared.token.TokenKind.{TokenKind}
use Rattle.gtd_text.specs.FirstFault.{depth, parenthesis_count}
use Rattle.gtd_text.specs.Grammar.{zero_parts}
use Rattle.gtd_text.specs.ComputedFields.{with_duration_field, has_letter, is_start_letter, is_duration_letter}
use Rattle.gtd_text.specs.ComputedFields.{is_repeated_in_start}
use Rattle.gtd_core.specs.Limits.{most_bound, most_basic_domains, most_depth}
use Rattle.gtd_core.specs.Ranges.{bound_of}
use Rattle.gtd_text.specs.declared.token.TokenKind.TheVariants.{OpenBrace, Field, OpenBracket, OpenParenthesis}
use Rattle.gtd_text.specs.declared.token.TokenKind.TheVariants.{Minus}
use Rattle.gtd_core.specs.declared.fault.Fault.{Fault}
use Rattle.gtd_core.specs.declared.fault.Fault.TheVariants as faults
use Rattle.gtd_text.specs.declared.token.Token.{Token}
use Rattle.gtd_text.specs.Lexing.{kinds}
use Rattle.gtd_text.specs.ComputedLexing.{newest_first}

abbrev pub is_field : TokenKind → Bool
is_field (Field letter value digits) = true
is_field sign = false

-- The fields that tokens begin with.
abbrev pub fields_at_front : List TokenKind → List TokenKind
fields_at_front tokens = take_while is_field tokens

-- The bound of the duration of these fields is over 3,162,240,000 seconds, which is 36,600 days.
abbrev pub is_too_long : List TokenKind → Bool
is_too_long fields = nat_lt most_bound (bound_of (fold with_duration_field zero_parts fields))

-- A brace opens before these tokens, and the duration of the fields that follow it is too long.
abbrev pub opens_too_long : TokenKind → List TokenKind → Bool
opens_too_long OpenBrace after = is_too_long (fields_at_front after)
opens_too_long token after = false

-- Tokens before a place are listed the newest first.

-- The last token that is not a field.
abbrev pub last_sign : List TokenKind → Option TokenKind
last_sign [] = None
last_sign (Field letter value digits ∷ before) = last_sign before
last_sign (sign ∷ before) = Some sign

-- The token directly before.
abbrev pub last_token : List TokenKind → Option TokenKind
last_token [] = None
last_token (token ∷ before) = Some token

-- The fault of a field that does not fit. By its letter, a field belongs here if the last sign is `(` and a start has
-- the letter, or `{` and a duration has it. Then the fault is that it is repeated, or otherwise that it is out of
-- range.
abbrev pub misfit_of : Bool → Bool → Fault
misfit_of belongs repeated = if belongs then (if repeated then faults.Repeated else faults.FieldRange) else faults.Unexpected

abbrev pub field_fault : Option TokenKind → List TokenKind → ℕ → Fault
field_fault (Some OpenParenthesis) before letter = misfit_of (is_start_letter letter) (is_repeated_in_start before letter)
field_fault (Some OpenBrace) before letter = misfit_of (is_duration_letter letter) (has_letter letter before)
field_fault sign before letter = faults.Unexpected

-- A minus directly after `{` would make a duration negative.
abbrev pub minus_fault : Option TokenKind → Fault
minus_fault (Some OpenBrace) = faults.Negative
minus_fault last = faults.Unexpected

-- The fault of a token that does not fit after these.
abbrev pub fault_of : List TokenKind → TokenKind → Fault
fault_of before (Field letter value digits) = field_fault (last_sign before) before letter
fault_of before Minus = minus_fault (last_token before)
fault_of before token = faults.Unexpected

-- The fault of a token in a phase, if it has one, by the tokens before it, the newest first, by itself, and by those
-- after it.
abbrev pub Phase : Type 0
Phase = List TokenKind → TokenKind → List TokenKind → Option Fault

-- A bracket opens when 128 are open, and makes the depth 129.
abbrev pub bracket_fault : Phase
bracket_fault before OpenBracket after = if depth before == most_depth then Some faults.TooDeep else None
bracket_fault before token after = None

-- The 129th parenthesis opens.
abbrev pub parenthesis_fault : Phase
parenthesis_fault before OpenParenthesis after =
    if parenthesis_count before == most_basic_domains then Some faults.TooMany else None
parenthesis_fault before token after = None

-- A brace opens, and the fields after it make a duration of more than 36,600 days.
abbrev pub brace_fault : Phase
brace_fault before token after = if opens_too_long token after then Some faults.TooLongDuration else None

-- None of the tokens is at fault in this phase.
abbrev pub IsClean : Phase → List Token → Type 0
IsClean phase tokens = (before : List Token) (token : Token) (after : List Token) →
    tokens ≡ before ++ token ∷ after → phase (newest_first before) token.kind (kinds after) ≡ None
