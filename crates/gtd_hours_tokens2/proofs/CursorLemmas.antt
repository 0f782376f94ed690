-- The tokens of a text, read from place to place, and paired one after another.
use Rattle.std.proofs.Common.{◌≡◌, ℕ, zero, suc, ◌+◌, ◌-◌, ◌≤◌, Bool, true, false, List, [], ◌∷◌, length, drop}
use Rattle.std.proofs.Common.{refl, sym, ap, subst}
use Rattle.std.proofs.Common.{Option, Some, None, Ok, Err, ◌∙◌, arith}
use Rattle.std.specs.Prelude.{◌||◌}
use Rattle.std.specs.Option.{option_or}
use Rattle.gtd_hours_tokens2.specs.declared.token.DayNames.{DayNames}
use Rattle.gtd_hours_tokens2.specs.declared.token.Token.{Token}
use Rattle.gtd_hours_tokens2.specs.declared.token.TokenFault.{TokenFault}
use Rattle.gtd_hours_tokens2.specs.declared.token.TokenFaultKind.{TokenFaultKind}
use Rattle.gtd_hours_tokens2.specs.declared.found.Found.{Found}
use Rattle.gtd_hours_tokens2.specs.declared.lexer.Raw.{Raw}
use Rattle.gtd_hours_tokens2.specs.declared.lexer.Raw.TheVariants as raw
use Rattle.gtd_hours_tokens2.specs.declared.pairs.Before.{Before}
use Rattle.gtd_hours_tokens2.specs.declared.pairs.Before.TheVariants as before
use Rattle.gtd_hours_tokens2.specs.declared.pairs.Paired.{Paired}
use Rattle.gtd_hours_tokens2.specs.declared.cursor.Cursor.{Cursor}
use Rattle.gtd_hours_tokens2.specs.Tokens.{Lexed, Tokens, Pairs, and_pairs, at_first, after_kind, by_raw, checked, four, is_dash_kind}
use Rattle.gtd_hours_tokens2.specs.Tokens.{nothing, paired, pairs, plain, raw_front, raw_length, second, tokens_from}
use Rattle.gtd_hours_tokens2.specs.Tokens.{placed, with_space, with_token, wrong}
use Rattle.gtd_hours_tokens2.specs.Cursors.{advanced, ahead, is_nothing, is_single, passed, first_four, raw_from, IsFirstFour, IsFirstToken, IsPaired, IsSecond}

-- bytes that have been read are left
pub skip : (names : DayNames) (k place : ℕ) (bytes : List ℕ)
    → tokens_from names k place bytes ≡ tokens_from names 0 (place + k) (drop k bytes)
skip names zero place [] = refl
skip names zero place (b ∷ bytes) = let e : place + 0 ≡ place = omega arith in rw e refl
skip names (suc k) place [] = refl
skip names (suc k) place (b ∷ bytes) =
    let e : place + 1 + k ≡ place + suc k = omega arith in
    skip names k (place + 1) bytes ∙ ap (λ (n : ℕ). tokens_from names 0 n (drop k bytes)) e

one_off : (n place : ℕ) (b : ℕ) (bytes : List ℕ) (names : DayNames) → 1 ≤ n
    → tokens_from names (n - 1) (place + 1) bytes ≡ tokens_from names 0 (place + n) (drop n (b ∷ bytes))
one_off zero place b bytes names h = absurd (omega arith)
one_off (suc n) place b bytes names h =
    let e : suc n - 1 ≡ n = omega arith in
    let e' : place + 1 + n ≡ place + suc n = omega arith in
    ap (λ (k : ℕ). tokens_from names k (place + 1) bytes) e ∙ skip names n (place + 1) bytes
    ∙ ap (λ (k : ℕ). tokens_from names 0 k (drop n bytes)) e'

raw_step : (names : DayNames) (place : ℕ) (bytes : List ℕ) (r : Raw) → 1 ≤ length bytes → raw_front names bytes ≡ r
    → 1 ≤ raw_length r
    → tokens_from names 0 place bytes ≡ by_raw place r (tokens_from names 0 (place + raw_length r) (drop (raw_length r) bytes))
raw_step names place [] r some e h = absurd (omega arith)
raw_step names place (b ∷ bytes) r some e h =
    ap (λ (r : Raw). by_raw place r (tokens_from names (raw_length r - 1) (place + 1) bytes)) e
    ∙ ap (by_raw place r) (one_off (raw_length r) place b bytes names h)

drop_nil : (n : ℕ) → drop {A = ℕ} n [] ≡ []
drop_nil zero = refl
drop_nil (suc n) = refl

drop_more : (n m : ℕ) (bytes : List ℕ) → drop m (drop n bytes) ≡ drop (n + m) bytes
drop_more zero m bytes = let e : 0 + m ≡ m = omega arith in ap (λ (k : ℕ). drop k bytes) (sym e)
drop_more (suc n) m [] = drop_nil m ∙ sym (drop_nil (suc n + m))
drop_more (suc n) m (b ∷ bytes) =
    let e : suc n + m ≡ suc (n + m) = omega arith in
    drop_more n m bytes ∙ ap (λ (k : ℕ). drop k (b ∷ bytes)) (sym e)

-- from a place of a text on, where the bytes are known by themselves
pub step_from : (names : DayNames) (text : List ℕ) (place : ℕ) (bytes : List ℕ) (r : Raw) → bytes ≡ drop place text
    → 1 ≤ length bytes → r ≡ raw_front names bytes → 1 ≤ raw_length r
    → raw_from names text place ≡ by_raw place r (raw_from names text (place + raw_length r))
step_from names text place bytes r same some e h =
    ap (tokens_from names 0 place) (sym same) ∙ raw_step names place bytes r some (sym e) h
    ∙ ap (λ (l : List ℕ). by_raw place r (tokens_from names 0 (place + raw_length r) (drop (raw_length r) l))) same
    ∙ ap (λ (l : List ℕ). by_raw place r (tokens_from names 0 (place + raw_length r) l)) (drop_more place (raw_length r) text)

pub blank_step : (names : DayNames) (text : List ℕ) (place : ℕ) (bytes : List ℕ) (r : Raw) → bytes ≡ drop place text
    → 1 ≤ length bytes → r ≡ raw_front names bytes → r ≡ raw.Blank
    → raw_from names text place ≡ raw_from names text (place + 1)
blank_step names text place bytes r same some e is =
    step_from names text place bytes raw.Blank same some (sym is ∙ e) (omega arith)

pub space_step : (names : DayNames) (text : List ℕ) (place : ℕ) (bytes : List ℕ) (r : Raw) (n : ℕ) → bytes ≡ drop place text
    → 1 ≤ length bytes → r ≡ raw_front names bytes → r ≡ raw.Space n → 1 ≤ n
    → raw_from names text place ≡ with_space place (raw_from names text (place + n))
space_step names text place bytes r n same some e is h =
    step_from names text place bytes (raw.Space n) same some (sym is ∙ e) h

pub token_step : (names : DayNames) (text : List ℕ) (place : ℕ) (bytes : List ℕ) (r : Raw) (f : Found) → bytes ≡ drop place text
    → 1 ≤ length bytes → r ≡ raw_front names bytes → r ≡ raw.Token f → 1 ≤ f.length
    → raw_from names text place ≡ with_token (placed place f) (raw_from names text (place + f.length))
token_step names text place bytes r f same some e is h =
    step_from names text place bytes (raw.Token f) same some (sym is ∙ e) h

pub fault_step : (names : DayNames) (text : List ℕ) (place : ℕ) (bytes : List ℕ) (r : Raw) (k : TokenFaultKind)
    → bytes ≡ drop place text → 1 ≤ length bytes → r ≡ raw_front names bytes → r ≡ raw.Fault k
    → raw_from names text place ≡ Err (wrong k place)
fault_step names text place bytes r k same some e is =
    step_from names text place bytes (raw.Fault k) same some (sym is ∙ e) (omega arith)

drop_whole : (n : ℕ) (bytes : List ℕ) → length bytes ≤ n → drop n bytes ≡ []
drop_whole n [] h = drop_nil n
drop_whole zero (b ∷ bytes) h = absurd (omega arith)
drop_whole (suc n) (b ∷ bytes) h = drop_whole n bytes (omega (arith, h))

pub at_end : (names : DayNames) (text : List ℕ) (place : ℕ) → length text ≤ place → raw_from names text place ≡ Ok nothing
at_end names text place h = ap (tokens_from names 0 place) (drop_whole place text h)

-- ---- pairs

checked_space : (times : Bool) (year : Option ℕ) (tokens : List Token) (spaces : List ℕ) (place : ℕ)
    → checked times year tokens (place ∷ spaces) ≡ with_space place (checked times year tokens spaces)
checked_space true (Some y) tokens spaces place = refl
checked_space true None tokens spaces place = refl
checked_space false (Some y) tokens spaces place = refl
checked_space false None tokens spaces place = refl

pub space_next : (times : Bool) (year : Option ℕ) (b : Before) (place : ℕ) (later : Lexed)
    → and_pairs times year b (with_space place later) ≡ with_space place (and_pairs times year b later)
space_next times year b place (Ok x) = checked_space _ _ _ _ place
space_next times year b place (Err bad) = refl

checked_token : (times : Bool) (year : Option ℕ) (t : Token) (tokens : List Token) (spaces : List ℕ)
    → checked times year (t ∷ tokens) spaces ≡ with_token t (checked times year tokens spaces)
checked_token true (Some y) t tokens spaces = refl
checked_token true None t tokens spaces = refl
checked_token false (Some y) t tokens spaces = refl
checked_token false None t tokens spaces = refl

or_more : (x y z : Bool) → (x || (y || z)) ≡ ((x || y) || z)
or_more true y z = refl
or_more false y z = refl

first_more : (x y z : Option ℕ) → option_or x (option_or y z) ≡ option_or (option_or x y) z
first_more (Some n) y z = refl
first_more None y z = refl

token_with : (times : Bool) (year : Option ℕ) (p : Paired) (x : Pairs) (spaces : List ℕ)
    → checked (times || (p.is_time || x.are_times)) (option_or year (option_or p.year x.year)) (p.token ∷ x.tokens) spaces
    ≡ with_token p.token
    (checked ((times || p.is_time) || x.are_times) (option_or (option_or year p.year) x.year) x.tokens spaces)
token_with times year p x spaces =
    rw (or_more times p.is_time x.are_times, first_more year p.year x.year) (checked_token _ _ p.token x.tokens spaces)

token_by : (times : Bool) (year : Option ℕ) (b : Before) (t : Token) (p : Paired) (later : Lexed)
    → ((x : Tokens) → later ≡ Ok x → p ≡ paired b t (second x.tokens))
    → and_pairs times year b (with_token t later)
    ≡ with_token p.token (and_pairs (times || p.is_time) (option_or year p.year) p.before later)
token_by times year b t p (Ok x) h =
    let P : Paired → Type 0 = λ q. and_pairs times year b (with_token t (Ok x))
    ≡ with_token q.token (and_pairs (times || q.is_time) (option_or year q.year) q.before (Ok x)) in
    subst P (sym (h x refl)) (token_with times year (paired b t (second x.tokens))
    (pairs (paired b t (second x.tokens)).before x.tokens) x.spaces)
token_by times year b t p (Err bad) h = refl

pub token_next : (names : DayNames) (text : List ℕ) (c : Cursor) (t : Token) (to : ℕ) (p : Paired)
    → raw_from names text c.place ≡ with_token t (raw_from names text to) → IsPaired names text c.before t to p
    → ahead names text c ≡ with_token p.token (ahead names text (advanced c p to))
token_next names text c t to p e h =
    ap (and_pairs c.is_time c.year c.before) e ∙ token_by c.is_time c.year c.before t p (raw_from names text to) h

at_none : (d : Bool) (t : Token) (w : Option ℕ) → at_first d t None w ≡ plain t (after_kind t.kind)
at_none d t None = refl
at_none d t (Some w) = refl

no_four_first : (d : Bool) (t : Token) (v w : Option ℕ) → v ≡ None → at_first d t v None ≡ at_first d t v w
no_four_first d t v w e = rw e (sym (at_none d t w))

pub no_four : (b : Before) (t : Token) (w : Option ℕ) → four t.kind ≡ None → paired b t None ≡ paired b t w
no_four before.Other t w e = no_four_first false t (four t.kind) w e
no_four before.Day t w e = no_four_first true t (four t.kind) w e
no_four before.Times t w e = refl
no_four before.Years t w e = refl

first_plain : (d : Bool) (t : Token) (v w : Option ℕ) → is_nothing v ≡ true → plain t (after_kind t.kind) ≡ at_first d t v w
first_plain d t None w e = sym (at_none d t w)
first_plain d t (Some v) w e = absurd cc

single_plain : (b : Before) (t : Token) (w : Option ℕ) → is_single b t.kind ≡ true → plain t (after_kind t.kind) ≡ paired b t w
single_plain before.Other t w e = first_plain false t (four t.kind) w e
single_plain before.Day t w e = first_plain true t (four t.kind) w e
single_plain before.Times t w e = absurd cc
single_plain before.Years t w e = absurd cc

or_false : (x : Bool) → (x || false) ≡ x
or_false true = refl
or_false false = refl

or_none : (x : Option ℕ) → option_or x None ≡ x
or_none None = refl
or_none (Some n) = refl

single_by : (times : Bool) (year : Option ℕ) (b : Before) (t : Token) (later : Lexed) → is_single b t.kind ≡ true
    → and_pairs times year b (with_token t later) ≡ with_token t (and_pairs times year (after_kind t.kind) later)
single_by times year b t later e =
    token_by times year b t (plain t (after_kind t.kind)) later (λ x is. single_plain b t (second x.tokens) e)
    ∙ ap (λ (z : Bool). with_token t (and_pairs z (option_or year None) (after_kind t.kind) later)) (or_false times)
    ∙ ap (λ (z : Option ℕ). with_token t (and_pairs times z (after_kind t.kind) later)) (or_none year)

pub single_next : (names : DayNames) (text : List ℕ) (c : Cursor) (t : Token) (to : ℕ)
    → raw_from names text c.place ≡ with_token t (raw_from names text to) → is_single c.before t.kind ≡ true
    → ahead names text c ≡ with_token t (ahead names text (passed c t.kind to))
single_next names text c t to e h =
    ap (and_pairs c.is_time c.year c.before) e ∙ single_by c.is_time c.year c.before t (raw_from names text to) h

-- ---- the tokens ahead of a pair

abbrev tokens_in : Lexed → List Token
tokens_in (Ok z) = z.tokens
tokens_in (Err bad) = []

some_token : (t : Token) (later : Lexed) (x : Tokens)
    → with_token t later ≡ Ok x → (y : Tokens) × (later ≡ Ok y) × (x.tokens ≡ t ∷ y.tokens)
some_token t (Ok y) x e = (y, refl, sym (ap tokens_in e))
some_token t (Err bad) x e = absurd cc

some_space : (p : ℕ) (later : Lexed) (x : Tokens)
    → with_space p later ≡ Ok x → (y : Tokens) × (later ≡ Ok y) × (x.tokens ≡ y.tokens)
some_space p (Ok y) x e = (y, refl, sym (ap tokens_in e))
some_space p (Err bad) x e = absurd cc

-- the tokens from one place on are those from another one
abbrev pub HasSameTokens : DayNames → List ℕ → ℕ → ℕ → Type 0
HasSameTokens names text from place = (x : Tokens) → raw_from names text from ≡ Ok x
    → (y : Tokens) × (raw_from names text place ≡ Ok y) × (x.tokens ≡ y.tokens)

pub same_after_space : (names : DayNames) (text : List ℕ) (from place p to : ℕ) → HasSameTokens names text from place
    → raw_from names text place ≡ with_space p (raw_from names text to) → HasSameTokens names text from to
same_after_space names text from place p to h e x is =
    let one = h x is in
    let two = some_space p (raw_from names text to) one.0 (sym e ∙ one.1) in
    (two.0, two.1, one.2 ∙ two.2)

pub first_here : (names : DayNames) (text : List ℕ) (from place to : ℕ) (t : Token) → HasSameTokens names text from place
    → raw_from names text place ≡ with_token t (raw_from names text to) → IsFirstToken names text from (Some (t, to))
first_here names text from place to t h e x is =
    let one = h x is in
    let two = some_token t (raw_from names text to) one.0 (sym e ∙ one.1) in
    (two.0, two.1, one.2 ∙ two.2)

pub none_here : (names : DayNames) (text : List ℕ) (from place : ℕ) → HasSameTokens names text from place
    → raw_from names text place ≡ Ok nothing → IsFirstToken names text from None
none_here names text from place h e x is =
    let one = h x is in one.2 ∙ ap tokens_in (sym one.1 ∙ e)

bad_is_none : (bad : TokenFault) (y : Tokens) (xs : List Token) → Err bad ≡ Ok y → xs ≡ []
bad_is_none bad y xs e = absurd cc

pub bad_here : (names : DayNames) (text : List ℕ) (from place : ℕ) (bad : TokenFault) → HasSameTokens names text from place
    → raw_from names text place ≡ Err bad → IsFirstToken names text from None
bad_here names text from place bad h e x is =
    let one = h x is in bad_is_none bad one.0 x.tokens (sym e ∙ one.1)

no_dash_second : (t : Token) (ts : List Token) → is_dash_kind t.kind ≡ false → second (t ∷ ts) ≡ None
no_dash_second t [] e = refl
no_dash_second t (u ∷ ts) e = rw e refl

dash_second : (t : Token) (ts : List Token) → is_dash_kind t.kind ≡ true → second (t ∷ ts) ≡ first_four ts
dash_second t [] e = refl
dash_second t (u ∷ ts) e = rw e refl

-- nothing comes, or no dash
pub second_none : (names : DayNames) (text : List ℕ) (from : ℕ) → IsFirstToken names text from None
    → IsSecond names text from None
second_none names text from h x is = ap second (sym (h x is))

pub second_other : (names : DayNames) (text : List ℕ) (from to : ℕ) (t : Token) → IsFirstToken names text from (Some (t, to))
    → is_dash_kind t.kind ≡ false → IsSecond names text from None
second_other names text from to t h e x is =
    let one = h x is in sym (ap second one.2 ∙ no_dash_second t one.0.tokens e)

pub second_dash : (names : DayNames) (text : List ℕ) (from to : ℕ) (t : Token) (w : Option ℕ)
    → IsFirstToken names text from (Some (t, to)) → is_dash_kind t.kind ≡ true → IsFirstFour names text to w
    → IsSecond names text from w
second_dash names text from to t w h e more x is =
    let one = h x is in more one.0 one.1 ∙ sym (ap second one.2 ∙ dash_second t one.0.tokens e)

pub four_none : (names : DayNames) (text : List ℕ) (from : ℕ) → IsFirstToken names text from None
    → IsFirstFour names text from None
four_none names text from h x is = ap first_four (sym (h x is))

pub four_here : (names : DayNames) (text : List ℕ) (from to : ℕ) (t : Token) → IsFirstToken names text from (Some (t, to))
    → IsFirstFour names text from (four t.kind)
four_here names text from to t h x is = let one = h x is in ap first_four (sym one.2)
