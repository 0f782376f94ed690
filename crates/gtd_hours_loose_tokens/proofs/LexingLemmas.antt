-- The tokens of a text, read from place to place.
use Rattle.std.proofs.Common.{◌≡◌, ℕ, zero, suc, ◌+◌, ◌-◌, ◌<◌, ◌≤◌, Bool, true, false, List, [], ◌∷◌, ◌++◌, length, drop}
use Rattle.std.proofs.Common.{refl, sym, ap, subst}
use Rattle.std.proofs.Common.{Option, Some, None, Result, Ok, Err, ◌∙◌, arith, append_assoc}
use Rattle.std.proofs.lemmas.Bool.{le-ltb, lt-ltb}
use Rattle.std.specs.Prelude.{if◌then◌else◌, nat_lt}
use Rattle.gtd_hours_loose_tokens.specs.declared.token.DayNames.{DayNames}
use Rattle.gtd_hours_loose_tokens.specs.declared.token.LooseKind.{LooseKind}
use Rattle.gtd_hours_loose_tokens.specs.declared.token.LooseToken.{LooseToken}
use Rattle.gtd_hours_loose_tokens.specs.declared.token.TokenFault.{TokenFault}
use Rattle.gtd_hours_loose_tokens.specs.Lexing.{by_front, front, front_length, is_ambiguous, onto, placed, tokens_from, tokens_of}
use Rattle.gtd_hours_loose_tokens.specs.Signs.{Front, space_length}
use Rattle.gtd_hours_loose_tokens.specs.Stops.{IsFaultHere, IsFound}

-- bytes that have been read are left behind
pub skip : (names : DayNames) (k place : ℕ) (bytes : List ℕ)
    → tokens_from names k place bytes ≡ tokens_from names 0 (place + k) (drop k bytes)
skip names zero place [] = refl
skip names zero place (b ∷ bytes) = let e : place + 0 ≡ place = omega arith in rw e refl
skip names (suc k) place [] = refl
skip names (suc k) place (b ∷ bytes) =
    let e : place + 1 + k ≡ place + suc k = omega arith in
    skip names k (place + 1) bytes ∙ ap (λ (n : ℕ). tokens_from names 0 n (drop k bytes)) e

if_true : {A : Type 0} (b : Bool) (x y : A) → b ≡ true → (if b then x else y) ≡ x
if_true true x y e = refl
if_true false x y e = absurd cc

if_false : {A : Type 0} (b : Bool) (x y : A) → b ≡ false → (if b then x else y) ≡ y
if_false false x y e = refl
if_false true x y e = absurd cc

one_off : (n place : ℕ) (b : ℕ) (bytes : List ℕ) (names : DayNames) → 1 ≤ n
    → tokens_from names (n - 1) (place + 1) bytes ≡ tokens_from names 0 (place + n) (drop n (b ∷ bytes))
one_off zero place b bytes names h = absurd (omega arith)
one_off (suc n) place b bytes names h =
    let e : suc n - 1 ≡ n = omega arith in
    let e' : place + 1 + n ≡ place + suc n = omega arith in
    ap (λ (k : ℕ). tokens_from names k (place + 1) bytes) e ∙ skip names n (place + 1) bytes
    ∙ ap (λ (k : ℕ). tokens_from names 0 k (drop n bytes)) e'

lt_true : (n : ℕ) → 0 < n → nat_lt 0 n ≡ true
lt_true n h = lt-ltb 0 n h

-- a space is left behind
pub past_space : (names : DayNames) (place : ℕ) (bytes : List ℕ) → 0 < space_length bytes
    → tokens_from names 0 place bytes ≡ tokens_from names 0 (place + space_length bytes) (drop (space_length bytes) bytes)
past_space names place [] h = absurd (omega arith)
past_space names place (b ∷ bytes) h =
    if_true (nat_lt 0 (space_length (b ∷ bytes))) _ _ (lt_true (space_length (b ∷ bytes)) h)
    ∙ one_off (space_length (b ∷ bytes)) place b bytes names (omega (arith, h))

lt_false : (n : ℕ) → n ≤ 0 → nat_lt 0 n ≡ false
lt_false n h = le-ltb 0 n h

no_space : (names : DayNames) (place : ℕ) (b : ℕ) (bytes : List ℕ) (found : Option Front) → space_length (b ∷ bytes) ≤ 0
    → front names (b ∷ bytes) ≡ found
    → tokens_from names 0 place (b ∷ bytes) ≡ by_front place found (tokens_from names (front_length found - 1) (place + 1) bytes)
no_space names place b bytes found none e =
    if_false (nat_lt 0 (space_length (b ∷ bytes))) _ _ (lt_false (space_length (b ∷ bytes)) none)
    ∙ ap (λ (o : Option Front). by_front place o (tokens_from names (front_length o - 1) (place + 1) bytes)) e

-- a token comes first
pub past_token : (names : DayNames) (place : ℕ) (bytes : List ℕ) (k : LooseKind) (n : ℕ) → 1 ≤ length bytes
    → space_length bytes ≤ 0 → front names bytes ≡ Some (k, n) → is_ambiguous k ≡ false → 1 ≤ n
    → tokens_from names 0 place bytes ≡ onto (placed place k n ∷ []) (tokens_from names 0 (place + n) (drop n bytes))
past_token names place [] k n some none e plain one = absurd (omega arith)
past_token names place (b ∷ bytes) k n some none e plain one =
    no_space names place b bytes (Some (k, n)) none e
    ∙ if_false (is_ambiguous k) _ _ plain
    ∙ ap (onto (placed place k n ∷ [])) (one_off n place b bytes names one)

-- or a fault
fault_by : (place : ℕ) (found : Option Front) (bad : TokenFault) (later : Result (List LooseToken) TokenFault)
    → IsFaultHere place found bad → by_front place found later ≡ Err bad
fault_by place None bad later h = ap Err (sym h)
fault_by place (Some (k, n)) bad later h = if_true (is_ambiguous k) _ _ h.0 ∙ ap Err (sym h.1)

pub at_fault : (names : DayNames) (place : ℕ) (bytes : List ℕ) (bad : TokenFault) → 1 ≤ length bytes → space_length bytes ≤ 0
    → IsFaultHere place (front names bytes) bad → tokens_from names 0 place bytes ≡ Err bad
at_fault names place [] bad some none h = absurd (omega arith)
at_fault names place (b ∷ bytes) bad some none h =
    no_space names place b bytes (front names (b ∷ bytes)) none refl
    ∙ fault_by place (front names (b ∷ bytes)) bad _ h

onto_onto : (one two : List LooseToken) (later : Result (List LooseToken) TokenFault)
    → onto one (onto two later) ≡ onto (one ++ two) later
onto_onto one two (Ok later) = ap Ok (sym (append_assoc one two later))
onto_onto one two (Err bad) = refl

-- What was read so far, and what is to be read.
abbrev pub HasRead : DayNames → List ℕ → List LooseToken → ℕ → Type 0
HasRead names text tokens place = tokens_of names text ≡ onto tokens (tokens_from names 0 place (drop place text))

drop_nil : (n : ℕ) → drop {A = ℕ} n [] ≡ []
drop_nil zero = refl
drop_nil (suc n) = refl

drop_more : (n m : ℕ) (bytes : List ℕ) → drop m (drop n bytes) ≡ drop (n + m) bytes
drop_more zero m bytes = let e : 0 + m ≡ m = omega arith in ap (λ (k : ℕ). drop k bytes) (sym e)
drop_more (suc n) m [] = drop_nil m ∙ sym (drop_nil (suc n + m))
drop_more (suc n) m (b ∷ bytes) =
    let e : suc n + m ≡ suc (n + m) = omega arith in
    drop_more n m bytes ∙ ap (λ (k : ℕ). drop k (b ∷ bytes)) (sym e)

pub read_space : (names : DayNames) (text : List ℕ) (tokens : List LooseToken) (place : ℕ) → HasRead names text tokens place
    → 0 < space_length (drop place text) → HasRead names text tokens (place + space_length (drop place text))
read_space names text tokens place h some =
    h ∙ ap (onto tokens) (past_space names place (drop place text) some
    ∙ ap (tokens_from names 0 (place + space_length (drop place text)))
    (drop_more place (space_length (drop place text)) text))

pub read_token : (names : DayNames) (text : List ℕ) (tokens : List LooseToken) (place : ℕ) (k : LooseKind) (n : ℕ)
    → HasRead names text tokens place → 1 ≤ length (drop place text) → space_length (drop place text) ≤ 0
    → front names (drop place text) ≡ Some (k, n) → is_ambiguous k ≡ false → 1 ≤ n
    → HasRead names text (tokens ++ placed place k n ∷ []) (place + n)
read_token names text tokens place k n h some none e plain one =
    h ∙ ap (onto tokens) (past_token names place (drop place text) k n some none e plain one)
    ∙ onto_onto tokens (placed place k n ∷ []) _
    ∙ ap (λ (l : List ℕ). onto (tokens ++ placed place k n ∷ []) (tokens_from names 0 (place + n) l)) (drop_more place n text)

pub read_fault : (names : DayNames) (text : List ℕ) (tokens : List LooseToken) (place : ℕ) (bad : TokenFault)
    → HasRead names text tokens place → 1 ≤ length (drop place text) → space_length (drop place text) ≤ 0
    → IsFaultHere place (front names (drop place text)) bad → tokens_of names text ≡ Err bad
read_fault names text tokens place bad h some none f =
    h ∙ ap (onto tokens) (at_fault names place (drop place text) bad some none f)

found_by : (names : DayNames) (text : List ℕ) (tokens : List LooseToken) (place : ℕ) (found : Option Front) (token : LooseToken)
    → HasRead names text tokens place → 1 ≤ length (drop place text) → space_length (drop place text) ≤ 0
    → front names (drop place text) ≡ found → IsFound place found token
    → HasRead names text (tokens ++ token ∷ []) token.to × (place < token.to)
found_by names text tokens place None token h some none e is = absurd is
found_by names text tokens place (Some (k, n)) token h some none e is =
    let more = read_token names text tokens place k n h some none e is.0 is.1 in
    let P : LooseToken → Type 0 = λ t. HasRead names text (tokens ++ t ∷ []) t.to × (place < t.to) in
    let one = is.1 in
    subst P (sym is.2) (more, omega arith)

pub read_found : (names : DayNames) (text : List ℕ) (tokens : List LooseToken) (place : ℕ) (token : LooseToken)
    → HasRead names text tokens place → 1 ≤ length (drop place text) → space_length (drop place text) ≤ 0
    → IsFound place (front names (drop place text)) token
    → HasRead names text (tokens ++ token ∷ []) token.to × (place < token.to)
read_found names text tokens place token h some none is =
    found_by names text tokens place (front names (drop place text)) token h some none refl is

-- ---- where the bytes from a place on stand by themselves

pub space_read : (names : DayNames) (text : List ℕ) (tokens : List LooseToken) (place n : ℕ) (bytes : List ℕ)
    → HasRead names text tokens place → bytes ≡ drop place text → n ≡ space_length bytes → 0 < n
    → HasRead names text tokens (place + n)
space_read names text tokens place n bytes h e k some =
    let same : n ≡ space_length (drop place text) = k ∙ ap space_length e in
    let more : 0 < space_length (drop place text) = subst (λ (m : ℕ). 0 < m) same some in
    subst (λ (m : ℕ). HasRead names text tokens (place + m)) (sym same) (read_space names text tokens place h more)

pub token_read : (names : DayNames) (text : List ℕ) (tokens : List LooseToken) (place n : ℕ) (bytes : List ℕ)
    (token : LooseToken) → HasRead names text tokens place → bytes ≡ drop place text → n ≡ space_length bytes → n ≤ 0
    → 1 ≤ length bytes → IsFound place (front names bytes) token
    → HasRead names text (tokens ++ token ∷ []) token.to × (place < token.to)
token_read names text tokens place n bytes token h e k none some is =
    let P : List ℕ → Type 0 = λ l. (space_length l ≤ 0) × (1 ≤ length l) × IsFound place (front names l) token in
    let x = subst P e (subst (λ (m : ℕ). m ≤ 0) k none, some, is) in
    read_found names text tokens place token h x.1 x.0 x.2

pub fault_read : (names : DayNames) (text : List ℕ) (tokens : List LooseToken) (place n : ℕ) (bytes : List ℕ) (bad : TokenFault)
    → HasRead names text tokens place → bytes ≡ drop place text → n ≡ space_length bytes → n ≤ 0 → 1 ≤ length bytes
    → IsFaultHere place (front names bytes) bad → tokens_of names text ≡ Err bad
fault_read names text tokens place n bytes bad h e k none some is =
    let P : List ℕ → Type 0 = λ l. (space_length l ≤ 0) × (1 ≤ length l) × IsFaultHere place (front names l) bad in
    let x = subst P e (subst (λ (m : ℕ). m ≤ 0) k none, some, is) in
    read_fault names text tokens place bad h x.1 x.0 x.2
