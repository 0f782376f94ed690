-- A text of a domain without the spaces around it is read as the same expression; it serves the law of sound rows.
use Rattle.std.proofs.Common.{◌≡◌, ◌∙◌, ap, refl, sym, subst, arith, cond, inr, ℕ, zero, suc, ◌+◌, ◌-◌, ◌<◌, ◌≤◌}
use Rattle.std.proofs.Common.{Bool, true, false, List, [], ◌∷◌, ◌++◌, drop, length, length-append, Option, Some, None}
use Rattle.std.specs.Prelude.{◌==◌, ◌&&◌, ◌||◌, ⊤, Ok, map, nat_lt, slice_index}
use Rattle.std.specs.Char.{is_ascii_digit, is_ascii_whitespace}
use Rattle.std.specs.Option.{option_or}
use Rattle.std.specs.Str.{all_ascii_digits}
use Rattle.std.proofs.lemmas.Bool.{eqb-true}
use Rattle.std.proofs.lemmas.Bool.Decides.{nat_tests}
use Rattle.std.proofs.lemmas.List.{get_or-append-add, get_or_append_left, length-drop}
use Rattle.gtd_core.specs.FieldTable.{FieldRow, at_letter, start_fields}
use Rattle.gtd_core.specs.Trees.{Tree}
use Rattle.gtd_core.specs.declared.fault.TextFault.{TextFault}
use Rattle.gtd_text.specs.ComputedFields.{is_start_letter}
use Rattle.gtd_text.specs.ComputedLexing.{BeginsNoDigit, HasDigits, IsSign, IsToken, Reads, field, sign}
use Rattle.gtd_text.specs.Found.{depth_after, fault_of_tokens, too_deep_after}
use Rattle.gtd_text.specs.Grammar.{Stands, Sum}
use Rattle.gtd_text.specs.Lexing.{AreSpaces, AreTokens, kinds}
use Rattle.gtd_text.specs.Reading.{HasNoFault, IsReading}
use Rattle.gtd_text.specs.declared.token.Token.{Token}
use Rattle.gtd_text.specs.declared.token.TokenKind.{TokenKind}
use Rattle.gtd_text.specs.declared.token.TokenKind.TheVariants.{OpenBracket, CloseBracket, OpenParenthesis, CloseParenthesis}
use Rattle.gtd_text.specs.declared.token.TokenKind.TheVariants.{OpenBrace, CloseBrace, Plus, Star, Minus, Field}
use Rattle.gtd_text.specs.facts.Faultless.{no_fault_of_tokens}
use Rattle.gtd_text.specs.facts.LexingForms.{tokens_in_parts, tokens_of_parts}
use Rattle.gtd_text.specs.facts.Phases.{found_first}
use Rattle.gtd_text.specs.facts.Printable.{read_is_printable}
use Rattle.gtd_text.specs.facts.ReadingLaws.{no_fault}
use Rattle.gtd_text.specs.facts.Readings.{faultless, is_reading, stands_for}

-- ---- bytes

-- each byte is white space
abbrev pub AllWhite : List ℕ → Type 0
AllWhite [] = ⊤
AllWhite (c ∷ text) = (is_ascii_whitespace c ≡ true) × AllWhite text

-- the signs and letters of domains are among these bytes, and the digits
abbrev pub is_solid : ℕ → Bool
is_solid c = nat_lt 39 c && nat_lt c 126

pub solid_not_white : (c : ℕ) → is_solid c ≡ true → is_ascii_whitespace c ≡ false
solid_not_white c h = grind (arith, nat_tests)

pub digit_solid : (c : ℕ) → is_ascii_digit c ≡ true → is_solid c ≡ true
digit_solid c h = grind (arith, nat_tests)

white_not_solid : (c : ℕ) → is_ascii_whitespace c ≡ true → is_solid c ≡ true → ⊥
white_not_solid c w h = let n = solid_not_white c h in cc

pub sign_solid : (kind : TokenKind) (byte : ℕ) → IsSign kind byte → is_solid byte ≡ true
sign_solid OpenBracket byte e = rw e refl
sign_solid CloseBracket byte e = rw e refl
sign_solid OpenParenthesis byte e = rw e refl
sign_solid CloseParenthesis byte e = rw e refl
sign_solid OpenBrace byte e = rw e refl
sign_solid CloseBrace byte e = rw e refl
sign_solid Plus byte e = rw e refl
sign_solid Star byte e = rw e refl
sign_solid Minus byte e = rw e refl
sign_solid (Field letter value digits) byte e = absurd e

both : (a b : Bool) → (a && b) ≡ true → (a ≡ true) × (b ≡ true)
both true b h = (refl, h)
both false b h = absurd cc

-- each letter of the table is solid
abbrev all_solid : {Parts : Type 0} → List (FieldRow Parts) → Bool
all_solid [] = true
all_solid (row ∷ rows) = is_solid row.letter && all_solid rows

letter_of : {Parts : Type 0} (rows : List (FieldRow Parts)) (letter : ℕ) → all_solid rows ≡ true
    → at_letter rows (λ row. true) false letter ≡ true → is_solid letter ≡ true
letter_of [] letter all e = absurd cc
letter_of (row ∷ rows) letter all e =
    let p = both (is_solid row.letter) (all_solid rows) all in
    by_test (letter == row.letter) refl p.0 e (letter_of rows letter p.1)
  where
    by_test : (b : Bool) → (letter == row.letter) ≡ b → is_solid row.letter ≡ true
        → cond b true (at_letter rows (λ row. true) false letter) ≡ true
        → (at_letter rows (λ row. true) false letter ≡ true → is_solid letter ≡ true) → is_solid letter ≡ true
    by_test true is one h more = ap is_solid (eqb-true letter row.letter is) ∙ one
    by_test false is one h more = more h

pub letter_solid : (letter : ℕ) → is_start_letter letter ≡ true → is_solid letter ≡ true
letter_solid letter h = letter_of start_fields letter refl h

-- ---- white space in front

past_front : (n : ℕ) (front text : List ℕ) (byte : ℕ) (rest : List ℕ) → AllWhite front → drop n (front ++ text) ≡ byte ∷ rest
    → is_solid byte ≡ true → (length front ≤ n) × (drop (n - length front) text ≡ byte ∷ rest)
past_front zero [] text byte rest w e h = (omega arith, e)
past_front (suc n) [] text byte rest w e h =
    let same : suc n - 0 ≡ suc n = omega arith in (omega arith, ap (λ (k : ℕ). drop k text) same ∙ e)
past_front zero (c ∷ front) text byte rest w e h =
    let same : c ≡ byte = cc in absurd (white_not_solid byte (subst (λ (x : ℕ). is_ascii_whitespace x ≡ true) same w.0) h)
past_front (suc n) (c ∷ front) text byte rest w e h =
    let more = past_front n front text byte rest w.1 e h in
    let le = more.0 in
    let same : suc n - suc (length front) ≡ n - length front = omega arith in
    (omega (arith, le), ap (λ (k : ℕ). drop k text) same ∙ more.1)

abbrev shifted : ℕ → Token → Token
shifted k token = record { kind = token.kind; from = token.from - k; to = token.to - k }

token_after : (front text : List ℕ) (token : Token) → AllWhite front → IsToken (front ++ text) token
    → (length front ≤ token.from) × (token.from ≤ token.to) × IsToken text (shifted (length front) token)
token_after front text token w (sign byte rest e is to) =
    let p = past_front token.from front text byte rest w e (sign_solid token.kind byte is) in
    (p.0, omega (arith, to), sign byte rest p.1 is (let le = p.0 in omega (arith, to, le)))
token_after front text token w (field letter digits known h k to) =
    let p = past_front token.from front text letter (digits ++ h.rest) w h.stand (letter_solid letter known) in (
      p.0,
      omega (arith, to),
      field letter digits known (record {
        rest = h.rest;
        stand = p.1;
        all = h.all;
        some = h.some;
        few = h.few;
        no_more = h.no_more;
      }) k (let le = p.0 in omega (arith, to, le)),
    )

spaces_after : (front text : List ℕ) (from to : ℕ) → length front ≤ to → AreSpaces (front ++ text) from to
    → AreSpaces text (from - length front) (to - length front)
spaces_after front text from to le h = (
  (let l = h.0 in omega (arith, l, le)),
  λ place lo hi. sym (get_or-append-add front text place 0) ∙ h.1 (length front + place) (omega (arith, lo)) (omega (arith, hi)),
)

reads_after : (front text : List ℕ) (from : ℕ) (tokens : List Token) (to : ℕ) → AllWhite front → length front ≤ to
    → Reads (front ++ text) from tokens to
    → Reads text (from - length front) (map (shifted (length front)) tokens) (to - length front)
reads_after front text from [] to w le h = spaces_after front text from to le h
reads_after front text from (token ∷ tokens) to w le h =
    let t = token_after front text token w h.1 in
    (spaces_after front text from token.from t.0 h.0, t.2, reads_after front text token.to tokens to w le h.2)

-- ---- white space at the end

white_at_front : (c : ℕ) (text rest : List ℕ) → AllWhite text → text ≡ c ∷ rest → is_solid c ≡ true → ⊥
white_at_front c [] rest w e h = cc
white_at_front c (x ∷ text) rest w e h =
    let same : x ≡ c = cc in white_not_solid c (subst (λ (y : ℕ). is_ascii_whitespace y ≡ true) same w.0) h

drop_white : (n : ℕ) (text : List ℕ) → AllWhite text → AllWhite (drop n text)
drop_white zero text w = w
drop_white (suc n) [] w = tt
drop_white (suc n) (c ∷ text) w = drop_white n text w.1

before_back : (n : ℕ) (text back : List ℕ) (byte : ℕ) (rest : List ℕ) → AllWhite back → drop n (text ++ back) ≡ byte ∷ rest
    → is_solid byte ≡ true → (left : List ℕ) × (drop n text ≡ byte ∷ left) × (rest ≡ left ++ back)
before_back n [] back byte rest w e h = absurd (white_at_front byte (drop n back) rest (drop_white n back w) e h)
before_back zero (c ∷ text) back byte rest w e h =
    let first : c ≡ byte = cc in
    let others : text ++ back ≡ rest = cc in (text, ap (λ (x : ℕ). x ∷ text) first, sym others)
before_back (suc n) (c ∷ text) back byte rest w e h = before_back n text back byte rest w e h

digits_back : (digits left back more : List ℕ) → all_ascii_digits digits ≡ true → AllWhite back
    → digits ++ more ≡ left ++ back → (rest : List ℕ) × (left ≡ digits ++ rest) × (more ≡ rest ++ back)
digits_back [] left back more all w e = (left, refl, e)
digits_back (d ∷ digits) [] back more all w e =
    let p = both (is_ascii_digit d) (all_ascii_digits digits) all in
    absurd (white_at_front d back (digits ++ more) w (sym e) (digit_solid d p.0))
digits_back (d ∷ digits) (c ∷ left) back more all w e =
    let p = both (is_ascii_digit d) (all_ascii_digits digits) all in
    let first : d ≡ c = cc in
    let others : digits ++ more ≡ left ++ back = cc in
    let r = digits_back digits left back more p.1 w others in
    (r.0, ap (λ (x : ℕ). x ∷ left) (sym first) ∙ ap (λ (l : List ℕ). d ∷ l) r.1, r.2)

still_no_digit : (rest back : List ℕ) → BeginsNoDigit (rest ++ back) → BeginsNoDigit rest
still_no_digit [] back h = refl
still_no_digit (c ∷ rest) back h = h

long_enough : (n : ℕ) (text : List ℕ) (byte : ℕ) (left : List ℕ) → drop n text ≡ byte ∷ left → n + 1 + length left ≤ length text
long_enough zero [] byte left e = absurd cc
long_enough (suc n) [] byte left e = absurd cc
long_enough zero (c ∷ text) byte left e =
    let same : text ≡ left = cc in let n = ap (λ (l : List ℕ). length l) same in omega (arith, n)
long_enough (suc n) (c ∷ text) byte left e = let more = long_enough n text byte left e in omega (arith, more)

token_before : (text back : List ℕ) (token : Token) → AllWhite back → IsToken (text ++ back) token
    → IsToken text token × (token.from ≤ token.to) × (token.to ≤ length text)
token_before text back token w (sign byte rest e is to) =
    let p = before_back token.from text back byte rest w e (sign_solid token.kind byte is) in
    let n = long_enough token.from text byte p.0 p.1 in
    (sign byte p.0 p.1 is to, omega (arith, to), omega (arith, to, n))
token_before text back token w (field letter digits known h k to) =
    let p = before_back token.from text back letter (digits ++ h.rest) w h.stand (letter_solid letter known) in
    let d = digits_back digits p.0 back h.rest h.all w p.2 in
    let n = long_enough token.from text letter p.0 p.1 in
    let m : length p.0 ≡ length digits + length d.0 = ap (λ (l : List ℕ). length l) d.1 ∙ length-append digits d.0 in (
      field letter digits known (record {
        rest = d.0;
        stand = p.1 ∙ ap (λ (l : List ℕ). letter ∷ l) d.1;
        all = h.all;
        some = h.some;
        few = h.few;
        no_more = still_no_digit d.0 back (subst BeginsNoDigit d.2 h.no_more);
      }) k to,
      omega (arith, to),
      omega (arith, to, n, m),
    )

spaces_before : (text back : List ℕ) (from to : ℕ) → to ≤ length text → AreSpaces (text ++ back) from to
    → AreSpaces text from to
spaces_before text back from to le h = (
  h.0,
  λ place lo hi. sym (get_or_append_left text back 0 place (omega (arith, hi, le))) ∙ h.1 place lo hi,
)

reads_before : (text back : List ℕ) (from : ℕ) (tokens : List Token) → AllWhite back → from ≤ length text
    → Reads (text ++ back) from tokens (length (text ++ back)) → Reads text from tokens (length text)
reads_before text back from [] w le h = (
  le,
  λ place lo hi.
      let n = length-append text back in
      sym (get_or_append_left text back 0 place hi) ∙ h.1 place lo (omega (arith, n, hi)),
)
reads_before text back from (token ∷ tokens) w le h =
    let t = token_before text back token w h.1 in (
      spaces_before text back from token.from (let a = t.1 in let b = t.2 in omega (arith, a, b)) h.0,
      t.0,
      reads_before text back token.to tokens w t.2 h.2,
    )

-- ---- the expression

same_kinds : (k : ℕ) (tokens : List Token) → kinds (map (shifted k) tokens) ≡ kinds tokens
same_kinds k [] = refl
same_kinds k (token ∷ tokens) = ap (λ (l : List TokenKind). token.kind ∷ l) (same_kinds k tokens)

not_too_deep : (k depth : ℕ) (tokens : List Token) → too_deep_after depth tokens ≡ None
    → too_deep_after depth (map (shifted k) tokens) ≡ None
not_too_deep k depth [] e = refl
not_too_deep k depth (token ∷ tokens) e =
    by_test (nat_lt 128 (depth_after depth token.kind)) _ _ _ _ e (not_too_deep k (depth_after depth token.kind) tokens)
  where
    by_test : (b : Bool) (one two : TextFault) (old new : Option TextFault)
        → cond b (Some one) old ≡ None → (old ≡ None → new ≡ None) → cond b (Some two) new ≡ None
    by_test true one two old new h more = absurd cc
    by_test false one two old new h more = more h

first_none : (a b : Option TextFault) → option_or a b ≡ None → a ≡ None
first_none None b e = refl
first_none (Some x) b e = absurd cc

no_fault_found : (text : List ℕ) (tokens : List Token) → AreTokens text tokens → HasNoFault text
    → fault_of_tokens (length text) tokens ≡ None
no_fault_found text tokens are none = by_fault (fault_of_tokens (length text) tokens) refl
  where
    by_fault : (o : Option TextFault) → fault_of_tokens (length text) tokens ≡ o → fault_of_tokens (length text) tokens ≡ None
    by_fault None e = e
    by_fault (Some fault) e =
        absurd (none fault (inr (tokens, are, found_first (length text) tokens fault e)))

pub without_white : (front text back : List ℕ) (tree : Tree) → AllWhite front → AllWhite back
    → IsReading (front ++ (text ++ back)) (Ok tree) → IsReading text (Ok tree)
without_white front text back tree w v is =
    let whole = front ++ (text ++ back) in
    let stands = stands_for whole tree is in
    let none = faultless whole tree is in
    let fits = read_is_printable whole tree stands none in
    let k = length front in
    let long : length whole ≡ k + length (text ++ back) = length-append front (text ++ back) in
    let tokens = map (shifted k) stands.tokens in
    let after = reads_after front (text ++ back) 0 stands.tokens (length whole) w (omega (arith, long))
    (tokens_in_parts whole stands.tokens stands.read) in
    let from : 0 - k ≡ 0 = omega arith in
    let to : length whole - k ≡ length (text ++ back) = omega (arith, long) in
    let moved : Reads (text ++ back) 0 tokens (length (text ++ back)) =
    subst (λ (n : ℕ). Reads (text ++ back) 0 tokens n) to
    (subst (λ (n : ℕ). Reads (text ++ back) n tokens (length whole - k)) from after) in
    let read = reads_before text back 0 tokens v (omega arith) moved in
    let stand : Stands Sum (kinds tokens) tree =
    subst (λ (l : List TokenKind). Stands Sum l tree) (sym (same_kinds k stands.tokens)) stands.stand in
    let found = no_fault_found whole stands.tokens stands.read none in
    let shallow = not_too_deep k 0 stands.tokens (first_none _ _ (first_none _ _ (first_none _ _ found))) in
    let sound = no_fault_of_tokens (length text) tokens tree stand fits.valid fits.few shallow in
    is_reading text tree (record { tokens = tokens; read = tokens_of_parts text tokens read; stand = stand })
    (no_fault text tokens read sound)
