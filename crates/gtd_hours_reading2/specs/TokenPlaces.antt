-- Where a later token of a part is.
use Rattle.std.specs.Prelude.{◌≡◌, ℕ, ◌-◌, ◌==◌, ◌&&◌, nat_le, Bool, true, false, List, [], ◌∷◌, Ok, if◌then◌else◌}
use Rattle.gtd_hours_grammar2.specs.Steps.{code}
use Rattle.gtd_hours_grammar2.specs.declared.class.Class.{Class}
use Rattle.gtd_hours_tokens2.specs.Cursors.{ahead}
use Rattle.gtd_hours_tokens2.specs.Tokens.{Tokens, tokens_of}
use Rattle.gtd_hours_tokens2.specs.declared.cursor.Cursor.{Cursor}
use Rattle.gtd_hours_tokens2.specs.declared.token.DayNames.{DayNames}
use Rattle.gtd_hours_tokens2.specs.declared.token.Token.{Token}
use Rattle.gtd_hours_text2.specs.Parts.{class_of}

-- the token is of a class, and not before an offset
abbrev pub counts : ℕ → Class → Token → Bool
counts from c t = nat_le from t.from && (code (class_of t.kind) == code c)

abbrev pub left_after : Bool → ℕ → ℕ
left_after true k = k - 1
left_after false k = k

-- the offset of such a token after so many others, or the offset itself if there is none
abbrev pub nth_offset : ℕ → Class → ℕ → List Token → ℕ
nth_offset from c k [] = from
nth_offset from c k (t ∷ ts) =
    if counts from c t && (k == 0) then t.from else nth_offset from c (left_after (counts from c t) k) ts

-- it is that of the tokens of a text, if these have no fault
abbrev pub IsNthOffset : DayNames → List ℕ → ℕ → Class → ℕ → ℕ → Type 0
IsNthOffset names text from c k offset = (x : Tokens) → tokens_of names text ≡ Ok x → offset ≡ nth_offset from c k x.tokens

-- it is that of the tokens to come
abbrev pub IsOffsetAhead : DayNames → List ℕ → Cursor → ℕ → Class → ℕ → ℕ → Type 0
IsOffsetAhead names text cursor from c k offset =
    (x : Tokens) → ahead names text cursor ≡ Ok x → offset ≡ nth_offset from c k x.tokens
