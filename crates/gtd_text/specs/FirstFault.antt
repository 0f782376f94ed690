-- What a text of a domain says, and which fault its tokens have: the first phase that has one decides, and in it the first
-- token at fault.
-- The phases are the depth of brackets, the count of parentheses, the grammar, and the durations. The limits and the
-- order of the phases are this project's own.
use Rattle.std.specs.Prelude.{List, ◌++◌, [], ◌∷◌, Bool, true, false, ℕ, ◌+◌, ◌-◌, ◌<◌, ◌≡◌, ◌⊎◌, not, reverse, fold}
use Rattle.std.specs.Prelude.{if◌then◌else◌, length, Result, Ok, Err}
use Rattle.gtd_core.specs.FieldTable.{start_fields, duration_fields}
use Rattle.gtd_core.specs.Ranges.{bound_of}
use Rattle.gtd_core.specs.Trees.{Tree}
use Rattle.gtd_core.specs.declared.fault.Fault.{Fault}
use Rattle.gtd_core.specs.declared.fault.Fault.TheVariants as faults
use Rattle.gtd_core.specs.declared.fault.TextFault.{TextFault}
use Rattle.gtd_text.specs.declared.token.Token.{Token}
use Rattle.gtd_text.specs.declared.token.TokenKind.{TokenKind}
use Rattle.gtd_text.specs.declared.token.TokenKind.TheVariants.{OpenBracket, CloseBracket, OpenParenthesis, OpenBrace, CloseBrace}
use Rattle.gtd_text.specs.declared.token.TokenKind.TheVariants.{Field, Minus}
use Rattle.gtd_text.specs.Grammar.{Stands, Sum, each_fits, fits, is_letter_of, is_repeated, with_field, zero_parts}
use Rattle.gtd_text.specs.Lexing.{IsTokenFault, Reads, kinds}

-- More tokens can follow these, or none, so that all together stand for an expression.
abbrev pub GoesOn : List TokenKind → Type 0
GoesOn tokens = (after : List TokenKind) × (e : Tree) × Stands Sum (tokens ++ after) e

-- Tokens before a place are listed the newest first.

-- How many brackets are open. A bracket that closes when none is open leaves it 0.
abbrev pub depth : List TokenKind → ℕ
depth [] = 0
depth (OpenBracket ∷ before) = depth before + 1
depth (CloseBracket ∷ before) = depth before - 1
depth (token ∷ before) = depth before

-- How many parentheses open.
abbrev pub parenthesis_count : List TokenKind → ℕ
parenthesis_count [] = 0
parenthesis_count (OpenParenthesis ∷ tokens) = parenthesis_count tokens + 1
parenthesis_count (token ∷ tokens) = parenthesis_count tokens

-- By its letter a field belongs after these: the last sign is `(` and a start has the letter, or `{` and a duration has it.
abbrev pub belongs : List TokenKind → ℕ → Bool
belongs (Field other value digits ∷ before) letter = belongs before letter
belongs (OpenParenthesis ∷ before) letter = is_letter_of start_fields letter
belongs (OpenBrace ∷ before) letter = is_letter_of duration_fields letter
belongs before letter = false

-- The fault of a token that does not fit after these. A minus directly after `{` would make a duration negative.
abbrev pub fault_of : List TokenKind → TokenKind → Fault
fault_of before (Field letter value digits) = if not (belongs before letter) then faults.Unexpected
    else if is_repeated before letter then faults.Repeated else faults.FieldRange
fault_of (OpenBrace ∷ before) Minus = faults.Negative
fault_of before token = faults.Unexpected

-- A phase says which fault a token has, by the tokens before it, by itself, and by those after it.
abbrev pub Phase : Type 1
Phase = List TokenKind → TokenKind → List TokenKind → Fault → Type 0

-- A bracket opens when 128 are open, and makes the depth 129.
abbrev pub IsTooDeep : Phase
IsTooDeep before token after kind = (token ≡ OpenBracket) × (depth before ≡ 128) × (kind ≡ faults.TooDeep)

-- The 129th parenthesis opens.
abbrev pub IsTooMany : Phase
IsTooMany before token after kind = (token ≡ OpenParenthesis) × (parenthesis_count before ≡ 128) × (kind ≡ faults.TooMany)

-- No expression goes on with the token.
abbrev pub IsMisfit : Phase
IsMisfit before token after kind = (GoesOn (reverse (token ∷ before)) → ⊥) × (kind ≡ fault_of before token)

-- The token begins `{ fields }`, and the bound of their duration is over 3,162,240,000 seconds, which is 36,600 days.
abbrev pub IsTooLong : Phase
IsTooLong before token after kind = (fields : List TokenKind) × (rest : List TokenKind)
    × (token ≡ OpenBrace) × (after ≡ fields ++ CloseBrace ∷ rest) × (each_fits (fits duration_fields) [] fields ≡ true)
    × (3_162_240_000 < bound_of (fold (with_field duration_fields) zero_parts fields)) × (kind ≡ faults.TooLongDuration)

-- The fault that the first of two finds, if it finds one, and otherwise one that the other finds.
abbrev pub OrElse : (TextFault → Type 0) → (TextFault → Type 0) → TextFault → Type 0
OrElse one other fault = one fault ⊎ (((earlier : TextFault) → one earlier → ⊥) × other fault)

-- The fault is that of the first of the tokens that has one in the phase. They come after others.
abbrev pub IsFirst : Phase → List TokenKind → List Token → TextFault → Type 0
IsFirst phase before [] fault = ⊥
IsFirst phase before (token ∷ after) fault =
    OrElse (λ here. phase before token.kind (kinds after) here.kind × (here.place ≡ token.from))
    (IsFirst phase (token.kind ∷ before) after) fault

-- The tokens stand for no expression: they end too early, and the fault is at the end of the text, which has this length.
abbrev pub IsIncomplete : ℕ → List TokenKind → TextFault → Type 0
IsIncomplete length tokens fault =
    ((e : Tree) → Stands Sum tokens e → ⊥) × (fault ≡ record { kind = faults.Incomplete; place = length })

-- The first phase with a fault decides, for the tokens of a text of this length.
abbrev pub IsFirstFault : ℕ → List Token → TextFault → Type 0
IsFirstFault length tokens =
    OrElse (IsFirst IsTooDeep [] tokens) (OrElse (IsFirst IsTooMany [] tokens) (OrElse (IsFirst IsMisfit [] tokens)
    (OrElse (IsIncomplete length (kinds tokens)) (IsFirst IsTooLong [] tokens))))

-- The text is made of tokens that stand for the expression and have no fault; or the fault is that of its bytes, or that of
-- its tokens if it is made of tokens. A refusal of memory is not a fault of a text.
abbrev pub IsReading : List ℕ → Result Tree TextFault → Type 0
IsReading text (Ok e) = (tokens : List Token) × Reads text 0 tokens (length text) × Stands Sum (kinds tokens) e
    × ((fault : TextFault) → IsFirstFault (length text) tokens fault → ⊥)
IsReading text (Err fault) = IsTokenFault text fault
    ⊎ ((tokens : List Token) × Reads text 0 tokens (length text) × IsFirstFault (length text) tokens fault)
