-- What a token is and the token that is computed agree.
use Rattle.std.proofs.Common.{◌≡◌, ℕ, ◌+◌, ◌-◌, ◌*◌, ◌≤◌, ◌↔◌, Bool, true, false, cond, List, [], ◌∷◌, ◌++◌, length, drop}
use Rattle.std.proofs.Common.{Option, Some, None, refl, sym, ap, subst, ◌∙◌, arith, fold}
use Rattle.std.specs.Prelude.{◌==◌, ◌&&◌, nat_le}
use Rattle.std.specs.List.{take_while, prefix_len}
use Rattle.std.specs.Char.{is_ascii_digit}
use Rattle.std.specs.Str.{all_ascii_digits}
use Rattle.std.specs.Str.Parse.{digits_value}
use Rattle.std.proofs.lemmas.Bool.{le-leb, leb-true, eqb-true}
use Rattle.std.proofs.lemmas.List.{take-append-drop}
use Rattle.std.proofs.lemmas.Str.Parse.{IsNumeralModel, numerals_by_fold, tells_all_ascii_digits}
use Rattle.gtd_scan.specs.Tokens.{AreComputed}
use Rattle.gtd_scan.specs.facts.Runs.{and_left, and_right, after_front, front_all, run_front}
use Rattle.gtd_core.specs.declared.fault.Fault.{Fault}
use Rattle.gtd_core.specs.declared.fault.Fault.TheVariants as faults
use Rattle.gtd_text.specs.declared.token.Token.{Token}
use Rattle.gtd_text.specs.declared.token.TokenKind.{TokenKind}
use Rattle.gtd_text.specs.declared.token.TokenKind.TheVariants.{OpenBracket, CloseBracket, OpenParenthesis, CloseParenthesis}
use Rattle.gtd_text.specs.declared.token.TokenKind.TheVariants.{OpenBrace, CloseBrace, Plus, Star, Minus, Field}
use Rattle.gtd_core.specs.FieldTable.{is_from_to}
use Rattle.gtd_text.specs.ComputedFields.{is_start_letter}
use Rattle.gtd_text.specs.ComputedLexing.{IsSign, HasDigits, IsToken, sign, field, IsFaultAt, fuzzy}
use Rattle.gtd_text.specs.ComputedLexing.{bad}
use Rattle.gtd_text.specs.TokenAt.{field_number, sign_of, field_of, kind_at_front, length_of, token_from, token_at}
use Rattle.gtd_text.specs.TokenAt.{fault_at_front}

-- ---- the digits in front

pub own : IsNumeralModel (λ ds. all_ascii_digits ds ≡ true) field_number
own = numerals_by_fold (λ ds. all_ascii_digits ds ≡ true) tells_all_ascii_digits
    (λ n digits. fold (λ n digit. n * 10 + (digit - 48)) n digits) (record { empty = λ n. refl; more = λ n c cs h. refl })

value_is : (digits : List ℕ) → all_ascii_digits digits ≡ true → field_number digits ≡ digits_value 10 digits
value_is digits all = own.same digits (own.to digits all)

pub few_digits : (digits : List ℕ) → 1 ≤ length digits → length digits ≤ 6 → is_from_to 1 6 (length digits) ≡ true
few_digits digits some few = rw (le-leb 1 (length digits) some) (le-leb (length digits) 6 few)

-- ---- a letter and its digits

pub front_of : (text : List ℕ) (place letter : ℕ) (digits : List ℕ) (h : HasDigits text place letter digits)
    → take_while is_ascii_digit (digits ++ h.rest) ≡ digits
front_of text place letter digits h = run_front is_ascii_digit digits h.rest (h.all, h.no_more)

pub has_digits : (text : List ℕ) (place byte : ℕ) (bytes : List ℕ) → drop place text ≡ byte ∷ bytes
    → is_from_to 1 6 (length (take_while is_ascii_digit bytes)) ≡ true
    → HasDigits text place byte (take_while is_ascii_digit bytes)
has_digits text place byte bytes e few = record {
  rest = drop (prefix_len is_ascii_digit bytes) bytes;
  stand = e ∙ ap (λ (l : List ℕ). byte ∷ l) (sym (take-append-drop (prefix_len is_ascii_digit bytes) bytes));
  all = front_all is_ascii_digit bytes;
  some = leb-true 1 (length (take_while is_ascii_digit bytes))
      (and_left (nat_le 1 (length (take_while is_ascii_digit bytes))) _ few);
  few = leb-true (length (take_while is_ascii_digit bytes)) 6
      (and_right (nat_le 1 (length (take_while is_ascii_digit bytes))) _ few);
  no_more = after_front is_ascii_digit bytes;
}

-- ---- from what a token is to what is computed

same_token : (token : Token) (kind : TokenKind) (to : ℕ) → token.kind ≡ kind → token.to ≡ to → token_from token.from (Some kind)
    ≡ Some (record { kind = kind; from = token.from; to = token.from + length_of kind }) → token.from + length_of kind ≡ to
    → token_from token.from (Some kind) ≡ Some token
same_token token kind to k t e n =
    let make : TokenKind → ℕ → Token = λ kind to. record { kind = kind; from = token.from; to = to } in
    e ∙ ap (λ (x : ℕ). Some (make kind x)) (n ∙ sym t) ∙ ap (λ (x : TokenKind). Some (make x token.to)) (sym k)

sign_front : (kind : TokenKind) (byte : ℕ) (rest : List ℕ) → IsSign kind byte → kind_at_front (byte ∷ rest) ≡ Some kind
sign_front OpenBracket byte rest e = ap (λ (b : ℕ). kind_at_front (b ∷ rest)) e
sign_front CloseBracket byte rest e = ap (λ (b : ℕ). kind_at_front (b ∷ rest)) e
sign_front OpenParenthesis byte rest e = ap (λ (b : ℕ). kind_at_front (b ∷ rest)) e
sign_front CloseParenthesis byte rest e = ap (λ (b : ℕ). kind_at_front (b ∷ rest)) e
sign_front OpenBrace byte rest e = ap (λ (b : ℕ). kind_at_front (b ∷ rest)) e
sign_front CloseBrace byte rest e = ap (λ (b : ℕ). kind_at_front (b ∷ rest)) e
sign_front Plus byte rest e = ap (λ (b : ℕ). kind_at_front (b ∷ rest)) e
sign_front Star byte rest e = ap (λ (b : ℕ). kind_at_front (b ∷ rest)) e
sign_front Minus byte rest e = ap (λ (b : ℕ). kind_at_front (b ∷ rest)) e
sign_front (Field letter value digits) byte rest e = absurd e

sign_length : (kind : TokenKind) (byte : ℕ) → IsSign kind byte → length_of kind ≡ 1
sign_length OpenBracket byte e = refl
sign_length CloseBracket byte e = refl
sign_length OpenParenthesis byte e = refl
sign_length CloseParenthesis byte e = refl
sign_length OpenBrace byte e = refl
sign_length CloseBrace byte e = refl
sign_length Plus byte e = refl
sign_length Star byte e = refl
sign_length Minus byte e = refl
sign_length (Field letter value digits) byte e = absurd e

field_front : (text : List ℕ) (place letter : ℕ) (digits : List ℕ) → is_start_letter letter ≡ true
    → HasDigits text place letter digits → kind_at_front (drop place text)
    ≡ Some (Field letter (digits_value 10 digits) (length digits))
field_front text place letter digits known h =
    ap kind_at_front h.stand
    ∙ ap (λ (b : Bool). cond b (field_of letter (take_while is_ascii_digit (digits ++ h.rest))) (sign_of letter)) known
    ∙ ap (field_of letter) (front_of text place letter digits h)
    ∙ ap (λ (b : Bool). cond b (Some (Field letter (field_number digits) (length digits))) None) (few_digits digits h.some h.few)
    ∙ ap (λ (n : ℕ). Some (Field letter n (length digits))) (value_is digits h.all)

-- a token of the text is the one that is computed
pub computed : (text : List ℕ) (token : Token) → IsToken text token → token_at text token.from ≡ Some token
computed text token (sign byte rest e is to) =
    ap (λ (l : List ℕ). token_from token.from (kind_at_front l)) e
    ∙ ap (token_from token.from) (sign_front token.kind byte rest is)
    ∙ same_token token token.kind (token.from + 1) refl to refl (ap (λ (n : ℕ). token.from + n) (sign_length token.kind byte is))
computed text token (field letter digits known h k to) =
    ap (token_from token.from) (field_front text token.from letter digits known h)
    ∙ same_token token (Field letter (digits_value 10 digits) (length digits)) (token.from + 1 + length digits) k to refl
    (omega arith)

-- ---- and back

made_sign : (b : Bool) (byte : ℕ) (kind other : TokenKind) (o : Option TokenKind) → (b ≡ true → IsSign other byte)
    → (o ≡ Some kind → IsSign kind byte) → cond b (Some other) o ≡ Some kind → IsSign kind byte
made_sign true byte kind other o is h e = let same : other ≡ kind = cc in subst (λ (k : TokenKind). IsSign k byte) same (is refl)
made_sign false byte kind other o is h e = h e

is_sign : (byte : ℕ) (kind : TokenKind) → sign_of byte ≡ Some kind → IsSign kind byte
is_sign byte kind =
    made_sign (byte == 91) byte kind OpenBracket _ (eqb-true byte 91)
    (made_sign (byte == 93) byte kind CloseBracket _ (eqb-true byte 93)
    (made_sign (byte == 40) byte kind OpenParenthesis _ (eqb-true byte 40)
    (made_sign (byte == 41) byte kind CloseParenthesis _ (eqb-true byte 41)
    (made_sign (byte == 123) byte kind OpenBrace _ (eqb-true byte 123)
    (made_sign (byte == 125) byte kind CloseBrace _ (eqb-true byte 125)
    (made_sign (byte == 43) byte kind Plus _ (eqb-true byte 43)
    (made_sign (byte == 42) byte kind Star _ (eqb-true byte 42)
    (made_sign (byte == 45) byte kind Minus None (eqb-true byte 45) (λ e. absurd cc)))))))))

-- the kind of a token and what is at its place
pub record StandsAt (text : List ℕ) (place : ℕ) (kind : TokenKind) : Type 0 where
  pub token : IsToken text (record { kind = kind; from = place; to = place + length_of kind })

sign_stands : (text : List ℕ) (place byte : ℕ) (bytes : List ℕ) (kind : TokenKind) → drop place text ≡ byte ∷ bytes → sign_of byte
    ≡ Some kind → StandsAt text place kind
sign_stands text place byte bytes kind e is =
    let found = is_sign byte kind is in
    record { token = sign byte bytes e found (ap (λ (n : ℕ). place + n) (sign_length kind byte found)) }

field_stands : (text : List ℕ) (place byte : ℕ) (bytes : List ℕ) (kind : TokenKind) (b : Bool) → drop place text ≡ byte ∷ bytes
    → is_start_letter byte ≡ true → is_from_to 1 6 (length (take_while is_ascii_digit bytes)) ≡ b
    → cond b (Some (Field byte (field_number (take_while is_ascii_digit bytes)) (length (take_while is_ascii_digit bytes)))) None
    ≡ Some kind → StandsAt text place kind
field_stands text place byte bytes kind false e known few is = absurd cc
field_stands text place byte bytes kind true e known few is =
    let same : Field byte (field_number (take_while is_ascii_digit bytes)) (length
    (take_while is_ascii_digit bytes)) ≡ kind = cc in
    let named : kind ≡ Field byte (digits_value 10 (take_while is_ascii_digit bytes)) (length (take_while is_ascii_digit bytes)) =
    sym same ∙ ap (λ (n : ℕ). Field byte n (length (take_while is_ascii_digit bytes)))
    (value_is (take_while is_ascii_digit bytes) (front_all is_ascii_digit bytes)) in
    let long : length_of kind ≡ length (take_while is_ascii_digit bytes) + 1 = ap length_of named in
    record {
      token = field byte (take_while is_ascii_digit bytes) known (has_digits text place byte bytes e few) named
          (omega (arith, long));
    }

front_stands : (text : List ℕ) (place byte : ℕ) (bytes : List ℕ) (kind : TokenKind) (b : Bool) → drop place text ≡ byte ∷ bytes
    → is_start_letter byte ≡ b → cond b (field_of byte (take_while is_ascii_digit bytes)) (sign_of byte) ≡ Some kind
    → StandsAt text place kind
front_stands text place byte bytes kind true e known is = field_stands text place byte bytes kind
    (is_from_to 1 6 (length (take_while is_ascii_digit bytes))) e known refl is
front_stands text place byte bytes kind false e known is = sign_stands text place byte bytes kind e is

kind_stands : (text : List ℕ) (place : ℕ) (bytes : List ℕ) (kind : TokenKind) → drop place text ≡ bytes → kind_at_front bytes
    ≡ Some kind → StandsAt text place kind
kind_stands text place [] kind e is = absurd cc
kind_stands text place (byte ∷ bytes) kind e is = front_stands text place byte bytes kind (is_start_letter byte) e refl is

-- what is computed is in the text
pub stands_by_kind : (text : List ℕ) (place : ℕ) (kind : TokenKind) → kind_at_front (drop place text) ≡ Some kind
    → IsToken text (record { kind = kind; from = place; to = place + length_of kind })
stands_by_kind text place kind e = (kind_stands text place (drop place text) kind refl e).token

by_kind : (text : List ℕ) (place : ℕ) (o : Option TokenKind) (token : Token) → kind_at_front (drop place text) ≡ o
    → token_from place o ≡ Some token → (token.from ≡ place) × IsToken text token
by_kind text place None token e f = absurd cc
by_kind text place (Some kind) token e f =
    let same : record { kind = kind; from = place; to = place + length_of kind } ≡ token = cc in
    (ap (λ (t : Token). t.from) (sym same), subst (λ (t : Token). IsToken text t) same (stands_by_kind text place kind e))

pub stands : (text : List ℕ) (place : ℕ) (token : Token) → token_at text place ≡ Some token → (token.from ≡ place)
    × IsToken text token
stands text place token e = by_kind text place (kind_at_front (drop place text)) token refl e

pub are_computed : (text : List ℕ) → AreComputed (λ (token : Token). token.from) (IsToken text) (token_at text)
are_computed text = record { computed = computed text; stands = stands text }

-- ---- the fault where no token begins

by_tests : (text : List ℕ) (place byte : ℕ) (bytes : List ℕ) (a b : Bool) → drop place text ≡ byte ∷ bytes → (byte == 122) ≡ a
    → is_from_to 1 6 (length (take_while is_ascii_digit bytes)) ≡ b
    → IsFaultAt text place (cond (a && b) faults.Fuzzy faults.BadToken)
by_tests text place byte bytes true true e z few =
    fuzzy (take_while is_ascii_digit bytes) (has_digits text place 122 bytes
    (e ∙ ap (λ (b : ℕ). b ∷ bytes) (eqb-true byte 122 z)) few) refl
by_tests text place byte bytes true false e z few = bad none refl
  where
    none : (digits : List ℕ) → HasDigits text place 122 digits → ⊥
    none digits h =
        let same : byte ∷ bytes ≡ 122 ∷ (digits ++ h.rest) = sym e ∙ h.stand in
        let rest : bytes ≡ digits ++ h.rest = cc in
        let both : false ≡ true = sym few ∙ ap (λ (l : List ℕ). is_from_to 1 6 (length (take_while is_ascii_digit l))) rest
        ∙ ap (λ (l : List ℕ). is_from_to 1 6 (length l)) (front_of text place 122 digits h)
        ∙ few_digits digits h.some h.few in
        cc
by_tests text place byte bytes false b e z few = bad none refl
  where
    none : (digits : List ℕ) → HasDigits text place 122 digits → ⊥
    none digits h =
        let same : byte ∷ bytes ≡ 122 ∷ (digits ++ h.rest) = sym e ∙ h.stand in
        let first : byte ≡ 122 = cc in
        let both : false ≡ true = sym z ∙ ap (λ (b : ℕ). b == 122) first in
        cc

by_bytes : (text : List ℕ) (place : ℕ) (bytes : List ℕ) → drop place text ≡ bytes → IsFaultAt text place (fault_at_front bytes)
by_bytes text place [] e = bad none refl
  where
    none : (digits : List ℕ) → HasDigits text place 122 digits → ⊥
    none digits h = let same : [] ≡ 122 ∷ (digits ++ h.rest) = sym e ∙ h.stand in cc
by_bytes text place (byte ∷ bytes) e =
    by_tests text place byte bytes (byte == 122) (is_from_to 1 6 (length (take_while is_ascii_digit bytes))) e refl refl

-- the fault that is computed
pub front_fault : (text : List ℕ) (place : ℕ) → IsFaultAt text place (fault_at_front (drop place text))
front_fault text place = by_bytes text place (drop place text) refl

-- there is one fault
pub one_fault_at : (text : List ℕ) (place : ℕ) (f g : Fault) → IsFaultAt text place f → IsFaultAt text place g → f ≡ g
one_fault_at text place f g (fuzzy digits h e) (fuzzy others k d) = e ∙ sym d
one_fault_at text place f g (fuzzy digits h e) (bad none d) = absurd (none digits h)
one_fault_at text place f g (bad none e) (fuzzy others k d) = absurd (none others k)
one_fault_at text place f g (bad none e) (bad none' d) = e ∙ sym d

pub fault_agrees : (text : List ℕ) (place : ℕ) (fault : Fault) → IsFaultAt text place fault
    ↔ (fault ≡ fault_at_front (drop place text))
fault_agrees text place fault = (
  λ is. one_fault_at text place fault (fault_at_front (drop place text)) is (front_fault text place),
  λ e. subst (λ (f : Fault). IsFaultAt text place f) (sym e) (front_fault text place),
)
