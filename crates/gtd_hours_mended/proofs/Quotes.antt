-- A text whose quotes are whole, byte for byte, has no comment that is not whole.
use Rattle.std.proofs.Common.{◌≡◌, ◌∙◌, refl, sym, ap, subst, arith, ℕ, zero, suc, ◌+◌, ◌-◌, ◌≤◌, ◌==◌}
use Rattle.std.proofs.Common.{Bool, true, false, List, [], ◌∷◌, ◌++◌, length, drop, drop-cons, add-one, append_assoc}
use Rattle.std.proofs.Math.Seq.{drop-append_seam, drop-length, take-append_seam}
use Rattle.std.proofs.lemmas.Bool.{eqb-true, false≢true}
use Rattle.std.proofs.lemmas.List.{append-nil, drop-drop}
use Rattle.std.proofs.lemmas.List.Folds.{list_all-append}
use Rattle.std.specs.Char.{is_ascii_alphabetic, is_ascii_digit}
use Rattle.std.specs.List.{list_all}
use Rattle.std.specs.Prelude.{◌&&◌, ◌||◌, if◌then◌else◌, not, slice_index, take}
use Rattle.gtd_hours_tokens.specs.Lexing.{AreSpaces, AreTokens, IsSign, IsToken, IsTokenText, Reads, is_no_quote}
use Rattle.gtd_hours_tokens.specs.declared.token.Token.{Token}
use Rattle.gtd_hours_tokens.specs.declared.token.TokenKind.{TokenKind}
use Rattle.gtd_hours_tokens.specs.declared.token.TokenKind.TheVariants as kind
use Rattle.gtd_hours_tokens.specs.facts.TokenForms.{begins_inside}
use Rattle.gtd_hours_moving.specs.Words.{is_unread, stretch}
use Rattle.gtd_hours_items.specs.Comments.{IsBrokenComment, are_whole, goes_to_quote, is_whole, is_written}
use Rattle.gtd_hours_items.specs.Items.{begins_quoted}
use Rattle.gtd_hours_items.proofs.TokenLemmas.{left_true, right_true}

-- Outside of quotes, or between them: each quote (34) that opens is closed, and what stands between is written.
abbrev pub ends_whole : Bool → List ℕ → Bool
ends_whole false [] = true
ends_whole true [] = false
ends_whole false (byte ∷ bytes) = ends_whole (byte == 34) bytes
ends_whole true (byte ∷ bytes) = if byte == 34 then ends_whole false bytes else is_written byte && ends_whole true bytes

-- ---- bytes without a quote

-- what is not true if it holds is false
not_true : (b : Bool) → not b ≡ true → b ≡ false
not_true true e = absurd (false≢true e)
not_true false e = refl

-- of bytes without a quote the first is none
first_quiet : (byte : ℕ) (bytes : List ℕ) → list_all is_no_quote (byte ∷ bytes) ≡ true → (byte == 34) ≡ false
first_quiet byte bytes e = not_true (byte == 34) (left_true (is_no_quote byte) (list_all is_no_quote bytes) e)

-- and there is none among the others
more_quiet : (byte : ℕ) (bytes : List ℕ) → list_all is_no_quote (byte ∷ bytes) ≡ true → list_all is_no_quote bytes ≡ true
more_quiet byte bytes e = right_true (is_no_quote byte) (list_all is_no_quote bytes) e

-- outside of quotes they change nothing
quiet : (here more : List ℕ) → list_all is_no_quote here ≡ true → ends_whole false (here ++ more) ≡ ends_whole false more
quiet [] more e = refl
quiet (byte ∷ here) more e =
    ap (λ (b : Bool). ends_whole b (here ++ more)) (first_quiet byte here e) ∙ quiet here more (more_quiet byte here e)

-- one byte between quotes
between : (q w a b g m : Bool) → q ≡ false → b ≡ (g && m) → (if q then a else w && b) ≡ ((q || (w && g)) && m)
between true w a b g m e r = absurd (false≢true (sym e))
between false true a b g m e r = r
between false false a b g m e r = refl

-- between quotes they have to be written
in_quotes : (inside more : List ℕ) → list_all is_no_quote inside ≡ true
    → ends_whole true (inside ++ 34 ∷ more) ≡ (goes_to_quote (inside ++ 34 ∷ []) && ends_whole false more)
in_quotes [] more e = refl
in_quotes (byte ∷ inside) more e =
    between (byte == 34) (is_written byte) (ends_whole false (inside ++ 34 ∷ more)) (ends_whole true (inside ++ 34 ∷ more))
    (goes_to_quote (inside ++ 34 ∷ [])) (ends_whole false more) (first_quiet byte inside e)
    (in_quotes inside more (more_quiet byte inside e))

-- one byte more, without an end
stays_false : (q w a b : Bool) → q ≡ false → b ≡ false → (if q then a else w && b) ≡ false
stays_false true w a b e r = absurd (false≢true (sym e))
stays_false false true a b e r = r
stays_false false false a b e r = refl

-- the same of what goes to a quote
or_false : (q w b : Bool) → q ≡ false → b ≡ false → (q || (w && b)) ≡ false
or_false true w b e r = absurd (false≢true (sym e))
or_false false true b e r = r
or_false false false b e r = refl

-- and a quote has to follow
never_ends : (inside : List ℕ) → list_all is_no_quote inside ≡ true → ends_whole true inside ≡ false
never_ends [] e = refl
never_ends (byte ∷ inside) e =
    stays_false (byte == 34) (is_written byte) (ends_whole false inside) (ends_whole true inside) (first_quiet byte inside e)
    (never_ends inside (more_quiet byte inside e))

-- which does not come
no_quote_comes : (inside : List ℕ) → list_all is_no_quote inside ≡ true → goes_to_quote inside ≡ false
no_quote_comes [] e = refl
no_quote_comes (byte ∷ inside) e =
    or_false (byte == 34) (is_written byte) (goes_to_quote inside) (first_quiet byte inside e)
    (no_quote_comes inside (more_quiet byte inside e))

-- ---- the bytes of a token

-- a byte of a kind that no quote is of is no quote
by_test : (is : ℕ → Bool) (byte : ℕ) (quote : Bool) → is 34 ≡ false → is byte ≡ true → (byte == 34) ≡ quote
    → not quote ≡ true
by_test is byte true none e q = absurd (false≢true (sym none ∙ ap is (sym (eqb-true byte 34 q)) ∙ e))
by_test is byte false none e q = refl

-- both hold
pub both_true : (a b : Bool) → a ≡ true → b ≡ true → (a && b) ≡ true
both_true true b e f = f
both_true false b e f = absurd (false≢true e)

-- bytes of a kind that no quote is of
of_kind : (is : ℕ → Bool) (bytes : List ℕ) → is 34 ≡ false → list_all is bytes ≡ true → list_all is_no_quote bytes ≡ true
of_kind is [] none e = refl
of_kind is (byte ∷ bytes) none e =
    both_true (is_no_quote byte) (list_all is_no_quote bytes)
    (by_test is byte (byte == 34) none (left_true (is byte) (list_all is bytes) e) refl)
    (of_kind is bytes none (right_true (is byte) (list_all is bytes) e))

-- a sign that is no quote
one_byte : (byte code : ℕ) → byte ≡ code → list_all is_no_quote (code ∷ []) ≡ true → list_all is_no_quote (byte ∷ []) ≡ true
one_byte byte code e quiet = subst (λ (b : ℕ). list_all is_no_quote (b ∷ []) ≡ true) (sym e) quiet

-- no sign is a quote
sign_quiet : (k : TokenKind) (byte : ℕ) → IsSign k byte → list_all is_no_quote (byte ∷ []) ≡ true
sign_quiet kind.Comma byte e = one_byte byte 44 e refl
sign_quiet kind.Semicolon byte e = one_byte byte 59 e refl
sign_quiet kind.Dash byte e = one_byte byte 45 e refl
sign_quiet kind.Slash byte e = one_byte byte 47 e refl
sign_quiet kind.Colon byte e = one_byte byte 58 e refl
sign_quiet kind.OpenBracket byte e = one_byte byte 91 e refl
sign_quiet kind.CloseBracket byte e = one_byte byte 93 e refl
sign_quiet kind.Plus byte e = one_byte byte 43 e refl
sign_quiet k byte e = absurd e

-- A token is a comment, or has no quote.
data Form (k : TokenKind) (here rest : List ℕ) : Type 0 where
  plain : list_all is_no_quote here ≡ true → Form k here rest
  comment : (inside : List ℕ) → here ≡ 34 ∷ (inside ++ 34 ∷ []) → list_all is_no_quote inside ≡ true → k ≡ kind.Unsupported
      → Form k here rest
  last : (inside : List ℕ) → here ≡ 34 ∷ inside → list_all is_no_quote inside ≡ true → rest ≡ [] → k ≡ kind.Unsupported
      → Form k here rest

-- bytes that equal others have no quote if those have none
quiet_as : (here other : List ℕ) → here ≡ other → list_all is_no_quote other ≡ true → list_all is_no_quote here ≡ true
quiet_as here other e quiet = ap (list_all is_no_quote) e ∙ quiet

-- each token is so
form_of : (k : TokenKind) (here rest : List ℕ) → IsTokenText k here rest → Form k here rest
form_of k here rest (IsTokenText.word run e) = Form.plain (of_kind is_ascii_alphabetic here refl run.0)
form_of k here rest (IsTokenText.number run some few none e) = Form.plain (of_kind is_ascii_digit here refl run.0)
form_of k here rest (IsTokenText.time hour minute e all run two also none f) =
    Form.plain (quiet_as here (hour ++ 58 ∷ minute) e
    (list_all-append is_no_quote hour (58 ∷ minute)
    ∙ both_true (list_all is_no_quote hour) (list_all is_no_quote minute) (of_kind is_ascii_digit hour refl all)
    (of_kind is_ascii_digit minute refl run.0)))
form_of k here rest (IsTokenText.sign byte e is) = Form.plain (quiet_as here (byte ∷ []) e (sign_quiet k byte is))
form_of k here rest (IsTokenText.bars e f) = Form.plain (quiet_as here (124 ∷ 124 ∷ []) e refl)
form_of k here rest (IsTokenText.comment inside e all f) = Form.comment inside e all f
form_of k here rest (IsTokenText.last_comment inside e all none f) = Form.last inside e all none f

-- whether a token of these bytes is whole
abbrev whole_bytes : TokenKind → List ℕ → Bool
whole_bytes k here = if is_unread k && begins_quoted here then goes_to_quote (drop 1 here) else true

-- what begins without a quote is no comment
if_not : (u q g : Bool) → q ≡ false → (if u && q then g else true) ≡ true
if_not true true g e = absurd (false≢true (sym e))
if_not true false g e = refl
if_not false q g e = refl

-- bytes without a quote begin with none
begins_quiet : (here : List ℕ) → list_all is_no_quote here ≡ true → begins_quoted here ≡ false
begins_quiet [] e = refl
begins_quiet (byte ∷ here) e = first_quiet byte here e

-- and are whole
quiet_whole : (k : TokenKind) (here : List ℕ) → list_all is_no_quote here ≡ true → whole_bytes k here ≡ true
quiet_whole k here e = if_not (is_unread k) (begins_quoted here) (goes_to_quote (drop 1 here)) (begins_quiet here e)

-- the bytes of a comment, and what follows
comment_step : (inside more : List ℕ) → list_all is_no_quote inside ≡ true
    → ends_whole false ((34 ∷ (inside ++ 34 ∷ [])) ++ more) ≡ (goes_to_quote (inside ++ 34 ∷ []) && ends_whole false more)
comment_step inside more all =
    ap (ends_whole true) (append_assoc inside (34 ∷ []) more) ∙ in_quotes inside more all

-- a comment is whole if it goes to a quote
comment_whole : (k : TokenKind) (here inside : List ℕ) → here ≡ 34 ∷ inside → k ≡ kind.Unsupported
    → whole_bytes k here ≡ goes_to_quote inside
comment_whole k here inside e f = λ i. whole_bytes (f i) (e i)

-- What a token's bytes do: they end whole if the token is whole, and what follows does.
bytes_step : (k : TokenKind) (here rest : List ℕ) → Form k here rest
    → ends_whole false (here ++ rest) ≡ (whole_bytes k here && ends_whole false rest)
bytes_step k here rest (Form.plain all) =
    quiet here rest all ∙ sym (ap (λ (b : Bool). b && ends_whole false rest) (quiet_whole k here all))
bytes_step k here rest (Form.comment inside e all f) =
    ap (λ (l : List ℕ). ends_whole false (l ++ rest)) e ∙ comment_step inside rest all
    ∙ sym (ap (λ (b : Bool). b && ends_whole false rest) (comment_whole k here (inside ++ 34 ∷ []) e f))
bytes_step k here rest (Form.last inside e all none f) =
    (λ i. ends_whole false (e i ++ none i)) ∙ ap (ends_whole true) (append-nil inside) ∙ never_ends inside all
    ∙ sym (ap (λ (b : Bool). b && ends_whole false rest) (comment_whole k here inside e f ∙ no_quote_comes inside all))

-- A whole token's bytes end whole wherever they stand.
bytes_pass : (k : TokenKind) (here rest more : List ℕ) → Form k here rest → whole_bytes k here ≡ true
    → ends_whole false (here ++ more) ≡ ends_whole false more
bytes_pass k here rest more (Form.plain all) w = quiet here more all
bytes_pass k here rest more (Form.comment inside e all f) w =
    ap (λ (l : List ℕ). ends_whole false (l ++ more)) e ∙ comment_step inside more all
    ∙ ap (λ (b : Bool). b && ends_whole false more) (sym (comment_whole k here (inside ++ 34 ∷ []) e f) ∙ w)
bytes_pass k here rest more (Form.last inside e all none f) w =
    absurd (false≢true (sym (comment_whole k here inside e f ∙ no_quote_comes inside all) ∙ w))

-- ---- a token of a text

-- the bytes of a token
token_bytes : (text : List ℕ) (t : Token) (h : IsToken text t) → stretch text t.from t.to ≡ h.here
token_bytes text t h =
    let long : t.to - t.from ≡ length h.here = omega (arith, h.to) in
    (λ i. take (long i) (h.stand i)) ∙ take-append_seam h.here h.rest

-- and those behind it
token_rest : (text : List ℕ) (t : Token) (h : IsToken text t) → drop t.to text ≡ h.rest
token_rest text t h =
    ap (λ (n : ℕ). drop n text) h.to ∙ sym (drop-drop (length h.here) t.from text) ∙ ap (drop (length h.here)) h.stand
    ∙ drop-append_seam h.here h.rest

-- a token is whole if its bytes are
token_whole : (text : List ℕ) (t : Token) (h : IsToken text t) → is_whole text t ≡ whole_bytes t.kind h.here
token_whole text t h = ap (whole_bytes t.kind) (token_bytes text t h)

-- from a token on a text ends whole if the token is whole, and so ends what follows
token_step : (text : List ℕ) (t : Token) → IsToken text t
    → ends_whole false (drop t.from text) ≡ (is_whole text t && ends_whole false (drop t.to text))
token_step text t h =
    ap (ends_whole false) h.stand
    ∙ bytes_step t.kind h.here h.rest (form_of t.kind h.here h.rest h.is)
    ∙ sym (λ i. token_whole text t h i && ends_whole false (token_rest text t h i))

-- the bytes of a whole token end whole
pub token_passes : (text : List ℕ) (t : Token) → IsToken text t → is_whole text t ≡ true → (more : List ℕ)
    → ends_whole false (stretch text t.from t.to ++ more) ≡ ends_whole false more
token_passes text t h w more =
    ap (λ (l : List ℕ). ends_whole false (l ++ more)) (token_bytes text t h)
    ∙ bytes_pass t.kind h.here h.rest more (form_of t.kind h.here h.rest h.is) (sym (token_whole text t h) ∙ w)

-- ---- the tokens of a text

-- a space changes nothing
space_first : (text : List ℕ) (place : ℕ) → slice_index text place ≡ 32 → place + 1 ≤ length text
    → ends_whole false (drop place text) ≡ ends_whole false (drop (place + 1) text)
space_first text place space le =
    let split : drop place text ≡ slice_index text place ∷ drop (place + 1) text =
    rw add-one (drop-cons text place 0 (omega (arith, le))) in
    ap (ends_whole false) split ∙ ap (λ (b : ℕ). ends_whole false (b ∷ drop (place + 1) text)) space

-- nor do so many
spaces_by : (n : ℕ) (text : List ℕ) (place to : ℕ) → to ≡ place + n → AreSpaces text place to → to ≤ length text
    → ends_whole false (drop place text) ≡ ends_whole false (drop to text)
spaces_by zero text place to e spaces le = ap (λ (n : ℕ). ends_whole false (drop n text)) (omega (arith, e))
spaces_by (suc n) text place to e spaces le =
    space_first text place (spaces.1 place (omega arith) (omega (arith, e))) (omega (arith, e, le))
    ∙ spaces_by n text (place + 1) to (omega (arith, e))
    (omega (arith, e), λ i more less. spaces.1 i (omega (arith, more)) less) le

-- nor do those between two places
spaces_step : (text : List ℕ) (place to : ℕ) → AreSpaces text place to → to ≤ length text
    → ends_whole false (drop place text) ≡ ends_whole false (drop to text)
spaces_step text place to spaces le = spaces_by (to - place) text place to (omega (arith, spaces.0)) spaces le

-- a token behind spaces
next_step : (text : List ℕ) (place : ℕ) (t : Token) → AreSpaces text place t.from → IsToken text t
    → ends_whole false (drop place text) ≡ (is_whole text t && ends_whole false (drop t.to text))
next_step text place t spaces is =
    spaces_step text place t.from spaces (omega (arith, begins_inside text t is)) ∙ token_step text t is

-- Where all tokens are whole, the text ends whole.
whole_from : (text : List ℕ) (place : ℕ) (tokens : List Token) → Reads text place tokens (length text)
    → are_whole text tokens ≡ true → ends_whole false (drop place text) ≡ true
whole_from text place [] h w =
    spaces_step text place (length text) h (omega arith) ∙ ap (ends_whole false) (drop-length text)
whole_from text place (t ∷ tokens) h w =
    next_step text place t h.0 h.1
    ∙ both_true (is_whole text t) (ends_whole false (drop t.to text))
    (left_true (is_whole text t) (are_whole text tokens) w)
    (whole_from text t.to tokens h.2 (right_true (is_whole text t) (are_whole text tokens) w))

-- so it is with the whole text
pub whole_text : (text : List ℕ) (tokens : List Token) → AreTokens text tokens → are_whole text tokens ≡ true
    → ends_whole false text ≡ true
whole_text text tokens are w = whole_from text 0 tokens are w

-- Where the text ends whole, a token behind others is whole.
token_ends : (text : List ℕ) (place : ℕ) (before : List Token) (token : Token) (to : ℕ)
    → Reads text place (before ++ token ∷ []) to → ends_whole false (drop place text) ≡ true → is_whole text token ≡ true
token_ends text place [] token to h w =
    left_true (is_whole text token) (ends_whole false (drop token.to text))
    (sym (next_step text place token h.0 h.1) ∙ w)
token_ends text place (t ∷ before) token to h w =
    token_ends text t.to before token to h.2
    (right_true (is_whole text t) (ends_whole false (drop t.to text)) (sym (next_step text place t h.0 h.1) ∙ w))

-- so no comment is broken
pub none_broken : (text : List ℕ) (place : ℕ) → ends_whole false text ≡ true → IsBrokenComment text place → ⊥
none_broken text place w bad =
    false≢true (sym bad.broken ∙ token_ends text 0 bad.before bad.comment bad.comment.to bad.reads w)
