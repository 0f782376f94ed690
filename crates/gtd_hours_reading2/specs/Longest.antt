-- Where the first fault of a text is.
use Rattle.std.specs.Prelude.{◌≡◌, ℕ, List, [], ◌∷◌, ◌++◌, length, Ok, Err}
use Rattle.gtd_hours_grammar2.specs.Endings.{IsLongest}
use Rattle.gtd_hours_grammar2.specs.declared.class.Class.{Class}
use Rattle.gtd_hours_grammar2.specs.declared.class.Class.TheVariants as class
use Rattle.gtd_hours_tokens2.specs.Tokens.{Tokens, tokens_of}
use Rattle.gtd_hours_tokens2.specs.declared.token.DayNames.{DayNames}
use Rattle.gtd_hours_tokens2.specs.declared.token.Token.{Token}
use Rattle.gtd_hours_tokens2.specs.declared.token.TokenFault.{TokenFault}
use Rattle.gtd_hours_text2.specs.Parts.{class_of}
use Rattle.gtd_hours_reading2.specs.Reading.{fault_at}
use Rattle.gtd_hours_reading2.specs.declared.fault.HoursFault.{HoursFault}
use Rattle.gtd_hours_reading2.specs.declared.fault.HoursFaultKind.TheVariants as fault

abbrev pub classes : List Token → List Class
classes [] = []
classes (t ∷ ts) = class_of t.kind ∷ classes ts

-- what comes next, or the end of the text
abbrev pub class_at : List Token → Class
class_at [] = class.End
class_at (t ∷ ts) = class_of t.kind

abbrev pub offset_at : ℕ → List Token → ℕ
offset_at size [] = size
offset_at size (t ∷ ts) = t.from

-- The tokens before it can go on, and with what comes next they cannot.
pub record EndsLongest (size : ℕ) (tokens : List Token) (offset : ℕ) : Type 0 where
  pub before : List Token
  pub rest : List Token
  pub parted : tokens ≡ before ++ rest
  pub there : offset ≡ offset_at size rest
  pub longest : IsLongest (classes before) (class_at rest)

pub data IsWhyUnread (names : DayNames) (text : List ℕ) (why : HoursFault) : Type 0 where
  at_tokens : (bad : TokenFault) → tokens_of names text ≡ Err bad → why ≡ fault_at bad → IsWhyUnread names text why
  in_range : why.kind ≡ fault.Range → IsWhyUnread names text why
  at_longest : (x : Tokens) → tokens_of names text ≡ Ok x → EndsLongest (length text) x.tokens why.offset
      → IsWhyUnread names text why
