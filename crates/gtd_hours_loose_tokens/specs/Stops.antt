-- Where the tokens of a text are wrong.
use Rattle.std.specs.Prelude.{ℕ, List, ◌≡◌, ◌≤◌, true, false, Option, Some, None, Result, Err}
use Rattle.gtd_hours_loose_tokens.specs.declared.stop.LooseStop.{LooseStop}
use Rattle.gtd_hours_loose_tokens.specs.declared.stop.LooseStop.TheVariants as stop
use Rattle.gtd_hours_loose_tokens.specs.declared.token.LooseToken.{LooseToken}
use Rattle.gtd_hours_loose_tokens.specs.declared.token.TokenFault.{TokenFault}
use Rattle.gtd_hours_loose_tokens.specs.declared.token.TokenFault.TheVariants as fault
use Rattle.gtd_hours_loose_tokens.specs.Lexing.{is_ambiguous, placed}
use Rattle.gtd_hours_loose_tokens.specs.Signs.{Front}

-- The tokens are wrong as it says, or memory was refused.
abbrev pub IsTokenStop : Result (List LooseToken) TokenFault → LooseStop → Type 0
IsTokenStop tokens (stop.Token bad) = tokens ≡ Err bad
IsTokenStop tokens stop.NoMemory = Unit {0}

-- Nothing begins at a place, or what is refused.
abbrev pub IsFaultHere : ℕ → Option Front → TokenFault → Type 0
IsFaultHere place None bad = bad ≡ fault.BadToken place
IsFaultHere place (Some (k, n)) bad = (is_ambiguous k ≡ true) × (bad ≡ fault.Ambiguous place)

-- The token is what begins at a place.
abbrev pub IsFound : ℕ → Option Front → LooseToken → Type 0
IsFound place None token = ⊥
IsFound place (Some (k, n)) token = (is_ambiguous k ≡ false) × (1 ≤ n) × (token ≡ placed place k n)
