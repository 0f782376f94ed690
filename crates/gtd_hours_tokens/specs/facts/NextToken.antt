-- What comes next from a place on: there is one answer, and the one that is computed is it.
use Rattle.std.proofs.Common.{◌≡◌, ◌≢◌, ℕ, ◌<◌, ◌≤◌, List, length, Option, Some, None, Result, Ok, Err, refl, sym, ap, subst}
use Rattle.std.proofs.Common.{arith}
use Rattle.std.specs.Prelude.{slice_index}
use Rattle.gtd_scan.specs.facts.Computed.{no_token, one_token}
use Rattle.gtd_scan.specs.facts.SpaceRuns.{same_end}
use Rattle.gtd_hours_tokens.specs.declared.token.Token.{Token}
use Rattle.gtd_hours_tokens.specs.declared.token.BadToken.{BadToken}
use Rattle.gtd_hours_tokens.specs.Lexing.{IsToken, AreSpaces, IsStop, IsNext}
use Rattle.gtd_hours_tokens.specs.TokenAt.{token_at}
use Rattle.gtd_hours_tokens.specs.facts.TokenForms.{are_computed, stands, begins_inside, no_space}

token_end : (text : List ℕ) (token : Token) → IsToken text token → token.from < length text → slice_index text token.from ≢ 32
token_end text token is lt space = no_space text token is space

same_bad : (a b : BadToken) → a.place ≡ b.place → a ≡ b
same_bad a b e = let make : ℕ → BadToken = λ n. record { place = n } in ap make e

inside : (text : List ℕ) (token : Token) → IsToken text token → token.from ≤ length text
inside text token is = let lt = begins_inside text token is in omega (arith, lt)

at_end : (text : List ℕ) → length text < length text → slice_index text (length text) ≢ 32
at_end text lt = absurd (omega (arith, lt))

pub one_next : (text : List ℕ) (from : ℕ) (a b : Result (Option Token) BadToken) → IsNext text from a → IsNext text from b → a ≡ b
one_next text from (Ok (Some x)) (Ok (Some y)) h k =
    let same = same_end text from x.from y.from h.0 k.0 (token_end text x h.1) (token_end text y k.1) (inside text x h.1)
    (inside text y k.1) in
    ap (λ (t : Token). Ok (Some t)) (one_token (are_computed text) x y h.1 k.1 same)
one_next text from (Ok (Some x)) (Ok None) h k =
    let same = same_end text from x.from (length text) h.0 k (token_end text x h.1) (at_end text) (inside text x h.1)
    (omega arith) in
    absurd (omega (arith, same, begins_inside text x h.1))
one_next text from (Ok (Some x)) (Err bad) h k =
    let same = same_end text from x.from bad.place h.0 k.spaces (token_end text x h.1) (λ lt. k.no_space) (inside text x h.1)
    (omega (arith, k.inside)) in
    absurd (k.no_token x h.1 same)
one_next text from (Ok None) (Ok (Some y)) h k =
    let same = same_end text from y.from (length text) k.0 h (token_end text y k.1) (at_end text) (inside text y k.1)
    (omega arith) in
    absurd (omega (arith, same, begins_inside text y k.1))
one_next text from (Ok None) (Ok None) h k = refl
one_next text from (Ok None) (Err bad) h k =
    let same = same_end text from bad.place (length text) k.spaces h (λ lt. k.no_space) (at_end text) (omega (arith, k.inside))
    (omega arith) in
    absurd (omega (arith, same, k.inside))
one_next text from (Err bad) (Ok (Some y)) h k =
    let same = same_end text from y.from bad.place k.0 h.spaces (token_end text y k.1) (λ lt. h.no_space) (inside text y k.1)
    (omega (arith, h.inside)) in
    absurd (h.no_token y k.1 same)
one_next text from (Err bad) (Ok None) h k =
    let same = same_end text from bad.place (length text) h.spaces k (λ lt. h.no_space) (at_end text) (omega (arith, h.inside))
    (omega arith) in
    absurd (omega (arith, same, h.inside))
one_next text from (Err bad) (Err other) h k =
    let same = same_end text from bad.place other.place h.spaces k.spaces (λ lt. h.no_space) (λ lt. k.no_space)
    (omega (arith, h.inside)) (omega (arith, k.inside)) in
    ap Err (same_bad bad other same)

-- ---- what is computed

pub token_next : (text : List ℕ) (from place : ℕ) (token : Token) → AreSpaces text from place → token_at text place ≡ Some token
    → AreSpaces text from token.from × IsToken text token
token_next text from place token spaces e =
    let found = stands text place token e in
    (subst (λ (n : ℕ). AreSpaces text from n) (sym found.0) spaces, found.1)

pub stop_next : (text : List ℕ) (from place : ℕ) → AreSpaces text from place → place < length text → slice_index text place ≢ 32
    → token_at text place ≡ None → IsStop text from place
stop_next text from place spaces lt none e =
    record { spaces = spaces; inside = lt; no_space = none; no_token = no_token (are_computed text) place e }
