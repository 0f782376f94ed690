-- What a token is and the token that is computed agree.
use Rattle.std.proofs.Common.{◌≡◌, ℕ, ◌+◌, ◌-◌, ◌<◌, ◌≤◌, Bool, true, false, cond, List, [], ◌∷◌, ◌++◌, length, drop, take}
use Rattle.std.proofs.Common.{Option, Some, None, refl, sym, ap, subst, ◌∙◌, arith, append_assoc, length-append, add-one}
use Rattle.std.proofs.Common.{drop-cons}
use Rattle.std.specs.Prelude.{◌==◌, ◌&&◌, not, nat_le, nat_lt, option_map, slice_index}
use Rattle.std.specs.List.{list_all, take_while, prefix_len}
use Rattle.std.specs.Char.{is_ascii_alphabetic, is_ascii_digit}
use Rattle.std.specs.Str.Parse.{digits_value}
use Rattle.std.proofs.lemmas.Bool.{le-leb, leb-true, eqb-true, lt-ltb, le-ltb}
use Rattle.std.proofs.lemmas.Bool.Decides.{nat_tests}
use Rattle.std.proofs.lemmas.List.{length-drop, length-take}
use Rattle.gtd_scan.specs.Tokens.{AreComputed, IsLanguage}
use Rattle.gtd_scan.specs.facts.Computed.{one_token}
use Rattle.gtd_hours_tokens.specs.declared.token.Token.{Token}
use Rattle.gtd_hours_tokens.specs.declared.token.TokenKind.{TokenKind}
use Rattle.gtd_hours_tokens.specs.declared.token.TokenKind.TheVariants.{Month, Weekday, Week, Open, Closed, Unsupported, Number}
use Rattle.gtd_hours_tokens.specs.declared.token.TokenKind.TheVariants.{Time}
use Rattle.gtd_hours_tokens.specs.declared.token.TokenKind.TheVariants.{Comma, Semicolon, Dash, Slash, Colon, OpenBracket}
use Rattle.gtd_hours_tokens.specs.declared.token.TokenKind.TheVariants.{CloseBracket, Day, Plus}
use Rattle.gtd_hours_tokens.specs.Words.{word_of}
use Rattle.gtd_hours_tokens.specs.Lexing.{begins, IsRun, begins_minutes, is_no_quote, IsSign, IsTokenText, word, number, time}
use Rattle.gtd_hours_tokens.specs.Lexing.{sign}
use Rattle.gtd_hours_tokens.specs.Lexing.{bars}
use Rattle.gtd_hours_tokens.specs.Lexing.{comment, last_comment, IsToken}
use Rattle.gtd_hours_tokens.specs.TokenAt.{Front, of_length, word_front, number as number_of, time as time_of, time_front}
use Rattle.gtd_hours_tokens.specs.TokenAt.{number_front}
use Rattle.gtd_hours_tokens.specs.TokenAt.{sign_of, comment_length, bars_front, sign_front, front, placed, token_at}
use Rattle.gtd_scan.specs.facts.Runs.{and_left, front_all, after_front, front_run, front_split, run_length, run_front}
use Rattle.gtd_scan.specs.facts.Runs.{run_after, some_front}

-- ---- from what a token is to what is computed

by_letter : (x : ℕ) (rest : List ℕ) → is_ascii_alphabetic x ≡ true
    → front (x ∷ rest) ≡ word_front (take_while is_ascii_alphabetic (x ∷ rest))
by_letter x rest e = ap (λ (b : Bool). cond b (word_front (take_while is_ascii_alphabetic (x ∷ rest)))
    (cond (is_ascii_digit x) (number_front (take_while is_ascii_digit (x ∷ rest))
    (drop (prefix_len is_ascii_digit (x ∷ rest)) (x ∷ rest))) (sign_front x rest))) e

digit_no_letter : (x : ℕ) → is_ascii_digit x ≡ true → is_ascii_alphabetic x ≡ false
digit_no_letter x e = grind (arith, nat_tests)

by_digit : (x : ℕ) (rest : List ℕ) → is_ascii_digit x ≡ true → front (x ∷ rest)
    ≡ number_front (take_while is_ascii_digit (x ∷ rest)) (drop (prefix_len is_ascii_digit (x ∷ rest)) (x ∷ rest))
by_digit x rest e =
    ap (λ (b : Bool). cond b (word_front (take_while is_ascii_alphabetic (x ∷ rest)))
    (cond (is_ascii_digit x) (number_front (take_while is_ascii_digit (x ∷ rest))
    (drop (prefix_len is_ascii_digit (x ∷ rest)) (x ∷ rest))) (sign_front x rest))) (digit_no_letter x e)
    ∙ ap (λ (b : Bool). cond b (number_front (take_while is_ascii_digit (x ∷ rest))
    (drop (prefix_len is_ascii_digit (x ∷ rest)) (x ∷ rest))) (sign_front x rest)) e

word_is : (here rest : List ℕ) (kind : TokenKind) → IsRun is_ascii_alphabetic here rest → word_of here ≡ Some kind
    → front (here ++ rest) ≡ Some (kind, length here)
word_is [] rest kind run e = absurd cc
word_is (x ∷ xs) rest kind run e =
    by_letter x (xs ++ rest) (and_left (is_ascii_alphabetic x) (list_all is_ascii_alphabetic xs) run.0)
    ∙ ap word_front (run_front is_ascii_alphabetic (x ∷ xs) rest run)
    ∙ ap (option_map (of_length (length (x ∷ xs)))) e

digits_split : (x : ℕ) (xs rest : List ℕ) → IsRun is_ascii_digit (x ∷ xs) rest → front ((x ∷ xs) ++ rest)
    ≡ number_front (x ∷ xs) rest
digits_split x xs rest run =
    by_digit x (xs ++ rest) (and_left (is_ascii_digit x) (list_all is_ascii_digit xs) run.0)
    ∙ ap (λ (l : List ℕ). number_front l (drop (prefix_len is_ascii_digit ((x ∷ xs) ++ rest)) ((x ∷ xs) ++ rest)))
    (run_front is_ascii_digit (x ∷ xs) rest run)
    ∙ ap (number_front (x ∷ xs)) (run_after is_ascii_digit (x ∷ xs) rest run)

number_is : (here rest : List ℕ) → IsRun is_ascii_digit here rest → 1 ≤ length here → length here ≤ 4
    → begins_minutes rest ≡ false → front (here ++ rest) ≡ Some (Number (digits_value 10 here) (length here), length here)
number_is [] rest run some few none = absurd (omega arith)
number_is (x ∷ xs) rest run some few none =
    digits_split x xs rest run
    ∙ ap (λ (b : Bool). cond b (time_front (x ∷ xs) (drop 1 rest)) (number_of (x ∷ xs))) none
    ∙ ap (λ (b : Bool). cond b (Some (Number (digits_value 10 (x ∷ xs)) (length (x ∷ xs)), length (x ∷ xs))) None)
    (le-leb (length (x ∷ xs)) 4 few)

time_two : (a b c d : ℕ) (rest : List ℕ) → list_all is_ascii_digit (a ∷ b ∷ []) ≡ true → IsRun is_ascii_digit (c ∷ d ∷ []) rest
    → begins_minutes rest ≡ false → front (a ∷ b ∷ 58 ∷ c ∷ d ∷ rest)
    ≡ Some (Time (digits_value 10 (a ∷ b ∷ [])) (digits_value 10 (c ∷ d ∷ [])), 5)
time_two a b c d rest all run none =
    digits_split a (b ∷ []) (58 ∷ c ∷ d ∷ rest) (all, refl)
    ∙ ap (λ (t : Bool). cond t (time_front (a ∷ b ∷ []) (c ∷ d ∷ rest)) (number_of (a ∷ b ∷ [])))
    (and_left (is_ascii_digit c) (list_all is_ascii_digit (d ∷ [])) run.0)
    ∙ ap (λ (l : List ℕ). time_of (a ∷ b ∷ []) l (drop (prefix_len is_ascii_digit (c ∷ d ∷ rest)) (c ∷ d ∷ rest)))
    (run_front is_ascii_digit (c ∷ d ∷ []) rest run)
    ∙ ap (time_of (a ∷ b ∷ []) (c ∷ d ∷ [])) (run_after is_ascii_digit (c ∷ d ∷ []) rest run)
    ∙ ap (λ (t : Bool). cond (not t) (Some (Time (digits_value 10 (a ∷ b ∷ [])) (digits_value 10 (c ∷ d ∷ [])), 5)) None) none

time_is : (hour minute rest : List ℕ) → list_all is_ascii_digit hour ≡ true → IsRun is_ascii_digit minute rest
    → length hour ≡ 2 → length minute ≡ 2 → begins_minutes rest ≡ false → front ((hour ++ 58 ∷ minute) ++ rest)
    ≡ Some (Time (digits_value 10 hour) (digits_value 10 minute), length (hour ++ 58 ∷ minute))
time_is (a ∷ b ∷ []) (c ∷ d ∷ []) rest all run two also none = time_two a b c d rest all run none
time_is [] minute rest all run two also none = absurd (omega (arith, two))
time_is (a ∷ []) minute rest all run two also none = absurd (omega (arith, two))
time_is (a ∷ b ∷ x ∷ more) minute rest all run two also none = absurd (omega (arith, two))
time_is (a ∷ b ∷ []) [] rest all run two also none = absurd (omega (arith, also))
time_is (a ∷ b ∷ []) (c ∷ []) rest all run two also none = absurd (omega (arith, also))
time_is (a ∷ b ∷ []) (c ∷ d ∷ x ∷ more) rest all run two also none = absurd (omega (arith, also))

sign_is : (kind : TokenKind) (byte : ℕ) (rest : List ℕ) → IsSign kind byte → front (byte ∷ rest) ≡ Some (kind, 1)
sign_is Comma byte rest e = ap (λ (b : ℕ). front (b ∷ rest)) e
sign_is Semicolon byte rest e = ap (λ (b : ℕ). front (b ∷ rest)) e
sign_is Dash byte rest e = ap (λ (b : ℕ). front (b ∷ rest)) e
sign_is Slash byte rest e = ap (λ (b : ℕ). front (b ∷ rest)) e
sign_is Colon byte rest e = ap (λ (b : ℕ). front (b ∷ rest)) e
sign_is OpenBracket byte rest e = ap (λ (b : ℕ). front (b ∷ rest)) e
sign_is CloseBracket byte rest e = ap (λ (b : ℕ). front (b ∷ rest)) e
sign_is Plus byte rest e = ap (λ (b : ℕ). front (b ∷ rest)) e
sign_is Unsupported byte rest e = absurd e
sign_is (Month n) byte rest e = absurd e
sign_is (Weekday n) byte rest e = absurd e
sign_is Week byte rest e = absurd e
sign_is Open byte rest e = absurd e
sign_is Closed byte rest e = absurd e
sign_is Day byte rest e = absurd e
sign_is (Number value digits) byte rest e = absurd e
sign_is (Time hour minute) byte rest e = absurd e

quoted : (n m : ℕ) → n < m → cond (nat_lt n m) (n + 2) (n + 1) ≡ n + 2
quoted n m lt = ap (λ (b : Bool). cond b (n + 2) (n + 1)) (lt-ltb n m lt)

unquoted : (n m : ℕ) → m ≤ n → cond (nat_lt n m) (n + 2) (n + 1) ≡ n + 1
unquoted n m le = ap (λ (b : Bool). cond b (n + 2) (n + 1)) (le-ltb n m le)

comment_is : (inside rest : List ℕ) → list_all is_no_quote inside ≡ true → comment_length (inside ++ 34 ∷ rest)
    ≡ length inside + 2
comment_is inside rest all =
    ap (λ (n : ℕ). cond (nat_lt n (length (inside ++ 34 ∷ rest))) (n + 2) (n + 1))
    (run_length is_no_quote inside (34 ∷ rest) (all, refl))
    ∙ quoted (length inside) (length (inside ++ 34 ∷ rest)) (omega (arith, length-append inside (34 ∷ rest)))

last_comment_is : (inside : List ℕ) → list_all is_no_quote inside ≡ true → comment_length (inside ++ []) ≡ length inside + 1
last_comment_is inside all =
    ap (λ (n : ℕ). cond (nat_lt n (length (inside ++ []))) (n + 2) (n + 1)) (run_length is_no_quote inside [] (all, refl))
    ∙ unquoted (length inside) (length (inside ++ [])) (omega (arith, length-append inside []))

same_length : (kind other : TokenKind) (n m : ℕ) (o : Option Front) → o ≡ Some (other, n) → other ≡ kind → n ≡ m
    → o ≡ Some (kind, m)
same_length kind other n m o e k h = e ∙ ap (λ (x : TokenKind). Some (x, n)) k ∙ ap (λ (x : ℕ). Some (kind, x)) h

pub is_front : (kind : TokenKind) (here rest : List ℕ) → IsTokenText kind here rest → front (here ++ rest)
    ≡ Some (kind, length here)
is_front kind here rest (word run e) = word_is here rest kind run e
is_front kind here rest (number run some few none e) =
    same_length kind _ _ _ _ (number_is here rest run some few none) (sym e) refl
is_front kind here rest (time hour minute e all run two also none k) =
    same_length kind _ _ _ _ (ap (λ (l : List ℕ). front (l ++ rest)) e ∙ time_is hour minute rest all run two also none) (sym k)
    (ap length (sym e))
is_front kind here rest (sign byte e is) =
    same_length kind _ _ _ _ (ap (λ (l : List ℕ). front (l ++ rest)) e ∙ sign_is kind byte rest is) refl (ap length (sym e))
is_front kind here rest (bars e k) =
    same_length kind Unsupported 2 (length here) _ (ap (λ (l : List ℕ). front (l ++ rest)) e) (sym k) (ap length (sym e))
is_front kind here rest (comment inside e all k) =
    same_length kind Unsupported (length inside + 2) (length here) _ (ap (λ (l : List ℕ). front (l ++ rest)) e
    ∙ ap (λ (l : List ℕ). Some (Unsupported, comment_length l)) (append_assoc inside (34 ∷ []) rest)
    ∙ ap (λ (n : ℕ). Some (Unsupported, n)) (comment_is inside rest all)) (sym k)
    (omega (arith, ap length e, length-append inside (34 ∷ [])))
is_front kind here rest (last_comment inside e all none k) =
    same_length kind Unsupported (length inside + 1) (length here) _ (ap (λ (l : List ℕ). front (l ++ rest)) e
    ∙ ap (λ (l : List ℕ). Some (Unsupported, comment_length (inside ++ l))) none
    ∙ ap (λ (n : ℕ). Some (Unsupported, n)) (last_comment_is inside all)) (sym k)
    (omega (arith, ap length e))

-- ---- and back

-- the bytes begin with a token of this kind and length
pub record Stands (bytes : List ℕ) (found : Front) : Type 0 where
  pub here : List ℕ
  pub rest : List ℕ
  pub split : bytes ≡ here ++ rest
  pub is : IsTokenText found.0 here rest
  pub long : found.1 ≡ length here

record Mapped (o : Option TokenKind) (n : ℕ) (found : Front) : Type 0 where
  kind : o ≡ Some found.0
  long : found.1 ≡ n

mapped : (o : Option TokenKind) (n : ℕ) (found : Front) → option_map (of_length n) o ≡ Some found → Mapped o n found
mapped None n found e = absurd cc
mapped (Some kind) n found e =
    let same : (kind, n) ≡ found = cc in
    record { kind = ap (λ (f : Front). Some f.0) same; long = sym (ap (λ (f : Front). f.1) same) }

word_stands : (bytes run rest : List ℕ) (found : Front) → bytes ≡ run ++ rest → IsRun is_ascii_alphabetic run rest
    → word_front run ≡ Some found → Stands bytes found
word_stands bytes run rest found split is e =
    let m = mapped (word_of run) (length run) found e in
    record { here = run; rest = rest; split = split; is = word is m.kind; long = m.long }

number_stands : (bytes run rest : List ℕ) (found : Front) (few : Bool) → bytes ≡ run ++ rest → IsRun is_ascii_digit run rest
    → 1 ≤ length run → begins_minutes rest ≡ false → nat_le (length run) 4 ≡ few
    → cond few (Some (Number (digits_value 10 run) (length run), length run)) None ≡ Some found → Stands bytes found
number_stands bytes run rest found false split is some none few e = absurd cc
number_stands bytes run rest found true split is some none few e =
    let same : (Number (digits_value 10 run) (length run), length run) ≡ found = cc in
    record {
      here = run;
      rest = rest;
      split = split;
      is = number is some (leb-true (length run) 4 few) none (sym (ap (λ (f : Front). f.0) same));
      long = sym (ap (λ (f : Front). f.1) same);
    }

record Tested (p q r : Bool) (made found : Front) : Type 0 where
  first : p ≡ true
  second : q ≡ true
  third : r ≡ false
  same : made ≡ found

tested : (p q r : Bool) (made found : Front) → cond (p && q && not r) (Some made) None ≡ Some found → Tested p q r made found
tested true true false made found e = record { first = refl; second = refl; third = refl; same = cc }
tested true true true made found e = absurd cc
tested true false r made found e = absurd cc
tested false q r made found e = absurd cc

time_stands : (bytes hour minute rest : List ℕ) (found : Front) → bytes ≡ hour ++ 58 ∷ (minute ++ rest)
    → list_all is_ascii_digit hour ≡ true → IsRun is_ascii_digit minute rest → time_of hour minute rest ≡ Some found
    → Stands bytes found
time_stands bytes hour minute rest found split all is e =
    let t = tested (length hour == 2) (length minute == 2) (begins_minutes rest) _ found e in
    let two : length hour ≡ 2 = eqb-true (length hour) 2 t.first in
    let also : length minute ≡ 2 = eqb-true (length minute) 2 t.second in
    record {
      here = hour ++ 58 ∷ minute;
      rest = rest;
      split = split ∙ sym (append_assoc hour (58 ∷ minute) rest);
      is = time hour minute refl all is two also t.third (sym (ap (λ (f : Front). f.0) t.same));
      long = omega (arith, ap (λ (f : Front). f.1) t.same, two, also, length-append hour (58 ∷ minute));
    }

timed : (bytes run rest : List ℕ) (found : Front) → bytes ≡ run ++ rest → list_all is_ascii_digit run ≡ true
    → begins_minutes rest ≡ true → time_front run (drop 1 rest) ≡ Some found → Stands bytes found
timed bytes run [] found split all m e = absurd cc
timed bytes run (y ∷ ys) found split all m e =
    let colon : y ≡ 58 = eqb-true y 58 (and_left (y == 58) (begins is_ascii_digit ys) m) in
    time_stands bytes run (take_while is_ascii_digit ys) (drop (prefix_len is_ascii_digit ys) ys) found
    (split ∙ ap (λ (b : ℕ). run ++ b ∷ ys) colon ∙ ap (λ (l : List ℕ). run ++ 58 ∷ l) (front_split is_ascii_digit ys))
    all (front_run is_ascii_digit ys) e

digits_stand : (bytes run rest : List ℕ) (found : Front) (m : Bool) → bytes ≡ run ++ rest → IsRun is_ascii_digit run rest
    → 1 ≤ length run → begins_minutes rest ≡ m → cond m (time_front run (drop 1 rest)) (number_of run) ≡ Some found
    → Stands bytes found
digits_stand bytes run rest found true split is some m e = timed bytes run rest found split is.0 m e
digits_stand bytes run rest found false split is some m e =
    number_stands bytes run rest found (nat_le (length run) 4) split is some m refl e

made_sign : (b : Bool) (byte : ℕ) (kind other : TokenKind) (o : Option TokenKind) → (b ≡ true → IsSign other byte)
    → (o ≡ Some kind → IsSign kind byte) → cond b (Some other) o ≡ Some kind → IsSign kind byte
made_sign true byte kind other o is h e = let same : other ≡ kind = cc in subst (λ (k : TokenKind). IsSign k byte) same (is refl)
made_sign false byte kind other o is h e = h e

is_sign : (byte : ℕ) (kind : TokenKind) → sign_of byte ≡ Some kind → IsSign kind byte
is_sign byte kind =
    made_sign (byte == 44) byte kind Comma _ (eqb-true byte 44)
    (made_sign (byte == 59) byte kind Semicolon _ (eqb-true byte 59)
    (made_sign (byte == 45) byte kind Dash _ (eqb-true byte 45)
    (made_sign (byte == 47) byte kind Slash _ (eqb-true byte 47)
    (made_sign (byte == 58) byte kind Colon _ (eqb-true byte 58)
    (made_sign (byte == 91) byte kind OpenBracket _ (eqb-true byte 91)
    (made_sign (byte == 93) byte kind CloseBracket _ (eqb-true byte 93)
    (made_sign (byte == 43) byte kind Plus None (eqb-true byte 43) (λ e. absurd cc))))))))

is_quote : (y : ℕ) (b : Bool) → (y == 34) ≡ b → not b ≡ false → y ≡ 34
is_quote y true e h = eqb-true y 34 e
is_quote y false e h = absurd cc

comment_stands : (xs inside tail : List ℕ) (found : Front) → xs ≡ inside ++ tail → list_all is_no_quote inside ≡ true
    → begins is_no_quote tail ≡ false → Some (Unsupported, comment_length xs) ≡ Some found → Stands (34 ∷ xs) found
comment_stands xs inside [] found split all none e =
    let same : (Unsupported, comment_length xs) ≡ found = cc in
    let long : comment_length xs ≡ length inside + 1 = ap comment_length split ∙ last_comment_is inside all in
    record {
      here = 34 ∷ inside;
      rest = [];
      split = ap (λ (l : List ℕ). 34 ∷ l) split;
      is = last_comment inside refl all refl (sym (ap (λ (f : Front). f.0) same));
      long = omega (arith, ap (λ (f : Front). f.1) same, long);
    }
comment_stands xs inside (y ∷ ys) found split all none e =
    let same : (Unsupported, comment_length xs) ≡ found = cc in
    let quote : y ≡ 34 = is_quote y (y == 34) refl none in
    let whole : xs ≡ inside ++ 34 ∷ ys = split ∙ ap (λ (b : ℕ). inside ++ b ∷ ys) quote in
    let long : comment_length xs ≡ length inside + 2 = ap comment_length whole ∙ comment_is inside ys all in
    record {
      here = 34 ∷ (inside ++ 34 ∷ []);
      rest = ys;
      split = ap (λ (l : List ℕ). 34 ∷ l) (whole ∙ sym (append_assoc inside (34 ∷ []) ys));
      is = comment inside refl all (sym (ap (λ (f : Front). f.0) same));
      long = omega (arith, ap (λ (f : Front). f.1) same, long, length-append inside (34 ∷ []));
    }

second_bar : (y : ℕ) (ys : List ℕ) (found : Front) (b : Bool) → (y == 124) ≡ b
    → cond b (Some (Unsupported, 2)) None ≡ Some found → Stands (124 ∷ y ∷ ys) found
second_bar y ys found false is e = absurd cc
second_bar y ys found true is e =
    let same : (Unsupported, 2) ≡ found = cc in
    record {
      here = 124 ∷ 124 ∷ [];
      rest = ys;
      split = ap (λ (b : ℕ). 124 ∷ b ∷ ys) (eqb-true y 124 is);
      is = bars refl (sym (ap (λ (f : Front). f.0) same));
      long = sym (ap (λ (f : Front). f.1) same);
    }

bars_stand : (xs : List ℕ) (found : Front) → bars_front xs ≡ Some found → Stands (124 ∷ xs) found
bars_stand [] found e = absurd cc
bars_stand (y ∷ ys) found e = second_bar y ys found (y == 124) refl e

sign_stands : (x : ℕ) (xs : List ℕ) (found : Front) (quote bar : Bool) → (x == 34) ≡ quote → (x == 124) ≡ bar
    → cond quote (Some (Unsupported, comment_length xs)) (cond bar (bars_front xs) (option_map (of_length 1) (sign_of x)))
    ≡ Some found → Stands (x ∷ xs) found
sign_stands x xs found true bar q b e =
    subst (λ (y : ℕ). Stands (y ∷ xs) found) (sym (eqb-true x 34 q))
    (comment_stands xs (take_while is_no_quote xs) (drop (prefix_len is_no_quote xs) xs) found (front_split is_no_quote xs)
    (front_all is_no_quote xs) (after_front is_no_quote xs) e)
sign_stands x xs found false true q b e =
    subst (λ (y : ℕ). Stands (y ∷ xs) found) (sym (eqb-true x 124 b)) (bars_stand xs found e)
sign_stands x xs found false false q b e =
    let m = mapped (sign_of x) 1 found e in
    record { here = x ∷ []; rest = xs; split = refl; is = sign x refl (is_sign x found.0 m.kind); long = m.long }

by_class : (x : ℕ) (xs : List ℕ) (found : Front) (letter digit : Bool) → is_ascii_alphabetic x ≡ letter
    → is_ascii_digit x ≡ digit → cond letter (word_front (take_while is_ascii_alphabetic (x ∷ xs)))
    (cond digit (number_front (take_while is_ascii_digit (x ∷ xs)) (drop (prefix_len is_ascii_digit (x ∷ xs)) (x ∷ xs)))
    (sign_front x xs)) ≡ Some found → Stands (x ∷ xs) found
by_class x xs found true digit l d e =
    word_stands (x ∷ xs) (take_while is_ascii_alphabetic (x ∷ xs)) (drop (prefix_len is_ascii_alphabetic (x ∷ xs)) (x ∷ xs)) found
    (front_split is_ascii_alphabetic (x ∷ xs)) (front_run is_ascii_alphabetic (x ∷ xs)) e
by_class x xs found false true l d e =
    digits_stand (x ∷ xs) (take_while is_ascii_digit (x ∷ xs)) (drop (prefix_len is_ascii_digit (x ∷ xs)) (x ∷ xs)) found
    (begins_minutes (drop (prefix_len is_ascii_digit (x ∷ xs)) (x ∷ xs))) (front_split is_ascii_digit (x ∷ xs))
    (front_run is_ascii_digit (x ∷ xs)) (some_front is_ascii_digit x xs d) refl e
by_class x xs found false false l d e = sign_stands x xs found (x == 34) (x == 124) refl refl e

pub front_stands : (bytes : List ℕ) (found : Front) → front bytes ≡ Some found → Stands bytes found
front_stands [] found e = absurd cc
front_stands (x ∷ xs) found e = by_class x xs found (is_ascii_alphabetic x) (is_ascii_digit x) refl refl e

front_within : (bytes : List ℕ) (found : Front) → front bytes ≡ Some found → found.1 ≤ length bytes
front_within bytes found e =
    let s = front_stands bytes found e in
    omega (arith, s.long, ap length s.split, length-append s.here s.rest)

-- a token that begins in a text ends in it
pub front_fits : (text : List ℕ) (place : ℕ) (kind : TokenKind) (n : ℕ) → place ≤ length text
    → front (take (length text - place) (drop place text)) ≡ Some (kind, n) → place + n ≤ length text
front_fits text place kind n le e =
    omega (
      arith,
      le,
      front_within (take (length text - place) (drop place text)) (kind, n) e,
      length-take (length text - place) (drop place text),
      length-drop place text,
    )

-- ---- at a place of a text

same_token : (token : Token) (to : ℕ) → token.to ≡ to → record { kind = token.kind; from = token.from; to = to } ≡ token
same_token token to e =
    let make : ℕ → Token = λ n. record { kind = token.kind; from = token.from; to = n } in ap make (sym e)

-- a token of the text is the one that is computed
pub computed : (text : List ℕ) (token : Token) → IsToken text token → token_at text token.from ≡ Some token
computed text token h =
    ap (option_map (placed token.from)) (ap front h.stand ∙ is_front token.kind h.here h.rest h.is)
    ∙ ap Some (same_token token (token.from + length h.here) h.to)

found_at : (text : List ℕ) (place : ℕ) (o : Option Front) (token : Token) → front (drop place text) ≡ o
    → option_map (placed place) o ≡ Some token → (token.from ≡ place) × IsToken text token
found_at text place None token e h = absurd cc
found_at text place (Some found) token e h =
    let same : placed place found ≡ token = cc in
    let s = front_stands (drop place text) found e in
    let made : IsToken text (placed place found) = record {
      here = s.here;
      rest = s.rest;
      stand = s.split;
      is = s.is;
      to = ap (λ (n : ℕ). place + n) s.long;
    } in
    (ap (λ (t : Token). t.from) (sym same), subst (IsToken text) same made)

-- what is computed is in the text
pub stands : (text : List ℕ) (place : ℕ) (token : Token) → token_at text place ≡ Some token
    → (token.from ≡ place) × IsToken text token
stands text place token e = found_at text place (front (drop place text)) token refl e

pub are_computed : (text : List ℕ) → AreComputed (λ (token : Token). token.from) (IsToken text) (token_at text)
are_computed text = record { computed = computed text; stands = stands text }

-- ---- where tokens begin and end

-- a token has a byte at least
some_byte : (kind : TokenKind) (here rest : List ℕ) → IsTokenText kind here rest → 0 < length here
some_byte kind [] rest (word run e) = absurd cc
some_byte kind (x ∷ here) rest (word run e) = omega arith
some_byte kind here rest (number run some few none e) = some
some_byte kind here rest (time hour minute e all run two also none k) =
    omega (arith, ap length e, length-append hour (58 ∷ minute))
some_byte kind here rest (sign byte e is) = omega (arith, ap length e)
some_byte kind here rest (bars e k) = omega (arith, ap length e)
some_byte kind here rest (comment inside e all k) = omega (arith, ap length e)
some_byte kind here rest (last_comment inside e all none k) = omega (arith, ap length e)

pub goes_on : (text : List ℕ) (token : Token) → IsToken text token → token.from < token.to
goes_on text token h = omega (arith, h.to, some_byte token.kind h.here h.rest h.is)

-- a token ends in the text
pub ends_inside : (text : List ℕ) (token : Token) → IsToken text token → token.to ≤ length text
ends_inside text token h =
    omega (
      arith,
      h.to,
      some_byte token.kind h.here h.rest h.is,
      ap length h.stand,
      length-append h.here h.rest,
      length-drop token.from text,
    )

pub begins_inside : (text : List ℕ) (token : Token) → IsToken text token → token.from < length text
begins_inside text token h = omega (arith, goes_on text token h, ends_inside text token h)

-- no token begins with a space
pub no_space : (text : List ℕ) (token : Token) → IsToken text token → slice_index text token.from ≡ 32 → ⊥
no_space text token h space =
    let lt = begins_inside text token h in
    let split : drop token.from text ≡ slice_index text token.from ∷ drop (token.from + 1) text =
    rw add-one (drop-cons text token.from 0 lt) in
    let none : token_at text token.from ≡ None =
    ap (λ (l : List ℕ). option_map (placed token.from) (front l))
    (split ∙ ap (λ (b : ℕ). b ∷ drop (token.from + 1) text) space) in
    let both : Some token ≡ None = sym (computed text token h) ∙ none in
    cc

-- the tokens of a text are a language
pub is_language : (text : List ℕ) → IsLanguage (λ (token : Token). token.from) (λ (token : Token). token.to) (IsToken text) text
is_language text = record { goes_on = goes_on text; no_space = no_space text; one_token = one_token (are_computed text) }
