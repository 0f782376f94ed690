-- The strict form of a text, and why it has none.
use Rattle.std.specs.Prelude.{ℕ, List, [], ◌∷◌, ◌≡◌, ◌++◌, map, Some, None, Result, Ok, Err}
use Rattle.std.specs.Char.{to_ascii_lowercase}
use Rattle.gtd_hours_loose.specs.declared.behind.Behind.{Behind}
use Rattle.gtd_hours_loose_tokens.specs.declared.stop.LooseStop.{LooseStop}
use Rattle.gtd_hours_loose_tokens.specs.declared.stop.LooseStop.TheVariants as stop
use Rattle.gtd_hours_loose.specs.declared.strict.StrictForm.{StrictForm}
use Rattle.gtd_hours_loose_tokens.specs.declared.token.DayNames.{DayNames}
use Rattle.gtd_hours_loose_tokens.specs.declared.token.LooseToken.{LooseToken}
use Rattle.gtd_hours_loose_tokens.specs.declared.token.TokenFault.{TokenFault}
use Rattle.gtd_hours_loose_tokens.specs.declared.token.TokenFault.TheVariants as fault
use Rattle.gtd_hours_loose_tokens.specs.Lexing.{tokens_of}
use Rattle.gtd_hours_loose.specs.Mending.{Holds, Mended, behind_at, mended, mended_token}
use Rattle.gtd_hours_loose.specs.Pairs.{pair_fault}

-- The tokens of a text, in which case ever its letters are written.
abbrev pub text_tokens : DayNames → List ℕ → Result (List LooseToken) TokenFault
text_tokens names text = tokens_of names (map to_ascii_lowercase text)

-- The strict form of a text: that of its tokens.
pub record IsStrictForm (names : DayNames) (text : List ℕ) (form : StrictForm) : Type 0 where
  pub tokens : List LooseToken
  pub are : text_tokens names text ≡ Ok tokens
  pub sure : pair_fault tokens ≡ None
  pub holds : Holds form (mended text tokens)

-- What is wrong with its tokens: the first one, or two numbers that are years or times.
pub data IsLooseFault (names : DayNames) (text : List ℕ) (bad : TokenFault) : Type 0 where
  token : text_tokens names text ≡ Err bad → IsLooseFault names text bad
  pair : (tokens : List LooseToken) → (place : ℕ) → text_tokens names text ≡ Ok tokens → pair_fault tokens ≡ Some place
      → bad ≡ fault.Ambiguous place → IsLooseFault names text bad

abbrev pub IsLooseStop : DayNames → List ℕ → LooseStop → Type 0
IsLooseStop names text (stop.Token bad) = IsLooseFault names text bad
IsLooseStop names text stop.NoMemory = Unit {0}

-- The first of these tokens was put to a strict form.
abbrev pub IsPushed : List ℕ → Behind → List LooseToken → StrictForm → StrictForm → Behind → Type 0
IsPushed text b [] old new behind = (behind ≡ b) × (new ≡ old)
IsPushed text b (t ∷ ts) old new behind =
    (behind ≡ behind_at b t ts) × ((ms : List Mended) → Holds old ms → Holds new (ms ++ mended_token text b t ts))
