-- Each text is a list of tokens, or has a first byte with which no token begins.
use Rattle.std.proofs.Common.{◌≡◌, ◌≢◌, ℕ, zero, suc, ◌+◌, ◌<◌, ◌≤◌, ◌⊎◌, inl, inr, List, length, Option, Some, None}
use Rattle.std.proofs.Common.{Result, Ok, Err, refl, subst, arith}
use Rattle.std.specs.Prelude.{slice_index}
use Rattle.std.proofs.lemmas.Bool.{cases_lt}
use Rattle.gtd_scan.specs.facts.SpaceRuns.{spaces_from}
use Rattle.gtd_hours_tokens.specs.declared.token.Token.{Token}
use Rattle.gtd_hours_tokens.specs.declared.token.BadToken.{BadToken}
use Rattle.gtd_hours_tokens.specs.Lexing.{AreSpaces, AreTokens, IsNext, IsToken, IsTokenFault}
use Rattle.gtd_hours_tokens.specs.TokenAt.{token_at}
use Rattle.gtd_hours_tokens.specs.facts.NextToken.{stop_next, token_next}
use Rattle.gtd_hours_tokens.specs.facts.TokenForms.{begins_inside, ends_inside, goes_on}
use Rattle.gtd_hours_tokens.specs.facts.WholeText.{HasRead, all_read, at_front, fault_read, with_token}

abbrev pub Next : List ℕ → ℕ → Type 0
Next text from = (next : Result (Option Token) BadToken) × IsNext text from next

next_at : (text : List ℕ) (from to : ℕ) (token : Option Token) → AreSpaces text from to → to < length text
    → slice_index text to ≢ 32 → token_at text to ≡ token → Next text from
next_at text from to None spaces lt other e = (Err (record { place = to }), stop_next text from to spaces lt other e)
next_at text from to (Some token) spaces lt other e = (Ok (Some token), token_next text from to token spaces e)

-- from each place of a text on, something comes next
pub each_next : (text : List ℕ) (from : ℕ) → from ≤ length text → Next text from
each_next text from le =
    let s = spaces_from (length text) text from le (omega arith) in
    elim (cases_lt s.to (length text)) [
      | inl lt ↦ next_at text from s.to (token_at text s.to) s.spaces lt (s.ends lt) refl
      | inr end ↦
          let same : s.to ≡ length text = omega (arith, end, s.inside) in
          (Ok None, subst (λ (n : ℕ). AreSpaces text from n) same s.spaces)
    ]

abbrev pub Read : List ℕ → Type 0
Read text = ((tokens : List Token) × AreTokens text tokens) ⊎ ((place : ℕ) × IsTokenFault text place)

-- behind a token the text is read on
read_next : (text : List ℕ) (place : ℕ) (next : Result (Option Token) BadToken) → HasRead text place → IsNext text place next
    → ((token : Token) → AreSpaces text place token.from → IsToken text token → Read text) → Read text
read_next text place (Ok (Some token)) h is on = on token is.0 is.1
read_next text place (Ok None) h is on = inl (all_read text place h is)
read_next text place (Err bad) h is on = inr (bad.place, fault_read text place bad.place h is)

read_from : (fuel : ℕ) (text : List ℕ) (place : ℕ) → place ≤ length text → length text ≤ place + fuel → HasRead text place
    → Read text
read_from zero text place le all h =
    let next = each_next text place le in
    read_next text place next.0 h next.1
    (λ token spaces is. absurd (omega (arith, all, spaces.0, begins_inside text token is)))
read_from (suc fuel) text place le all h =
    let next = each_next text place le in
    read_next text place next.0 h next.1
    (λ token spaces is. read_from fuel text token.to (ends_inside text token is)
    (omega (arith, all, spaces.0, goes_on text token is)) (with_token text place token h spaces is))

pub each_text : (text : List ℕ) → Read text
each_text text = read_from (length text) text 0 (omega arith) (omega arith) (at_front text)
