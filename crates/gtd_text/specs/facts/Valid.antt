-- Tokens without a fault stand for a valid expression.
use Rattle.std.proofs.Common.{◌≡◌, ◌≢◌, ℕ, ◌+◌, ◌≤◌, Bool, true, false, cond, List, [], ◌∷◌, ◌++◌, Option, Some, None, refl}
use Rattle.std.proofs.Common.{sym, ap, ◌∙◌, arith}
use Rattle.std.specs.Prelude.{nat_lt}
use Rattle.std.proofs.lemmas.Bool.{ltb-false}
use Rattle.gtd_core.specs.declared.fault.TextFault.{TextFault}
use Rattle.gtd_core.specs.Ranges.{no_parts, bound_of}
use Rattle.gtd_core.specs.Trees.{Tree, Single, AreValid, leaf_count}
use Rattle.gtd_text.specs.declared.token.Token.{Token}
use Rattle.gtd_text.specs.declared.token.TokenKind.{TokenKind}
use Rattle.gtd_text.specs.declared.token.TokenKind.TheVariants.{CloseBracket, CloseParenthesis, OpenBrace, CloseBrace, Plus}
use Rattle.gtd_text.specs.declared.token.TokenKind.TheVariants.{Star, Minus, Field}
use Rattle.gtd_text.specs.ComputedFields.{fits_start, fits_duration, all_fit_start, all_fit_duration, with_start_fields}
use Rattle.gtd_text.specs.facts.FieldForms.{durations_as_computed, starts_as_computed}
use Rattle.gtd_text.specs.Grammar.{zero_parts, Level, Sum, Product, Item, Stands, basic, bracketed, item}
use Rattle.gtd_text.specs.ComputedFields.{with_duration_fields}
use Rattle.gtd_text.specs.Grammar.{meet, product, union, minus}
use Rattle.gtd_text.specs.ComputedFields.{basic_tokens}
use Rattle.gtd_text.specs.Found.{too_long, count_after, too_many_after}
use Rattle.gtd_text.specs.ComputedFaults.{fields_at_front, is_too_long, opens_too_long, is_field}
use Rattle.std.proofs.lemmas.List.Sums.{take_while-cons}
use Rattle.gtd_text.specs.Lexing.{kinds}
use Rattle.gtd_text.specs.facts.Builds.{and_right}
use Rattle.gtd_text.specs.facts.Ranges.{IsShort, AreShort, valid_start, valid_numbers}

-- no duration is too long, and each number has at most six digits
abbrev pub AreFine : List TokenKind → Type 0
AreFine [] = Unit {0}
AreFine (token ∷ tokens) = (opens_too_long token tokens ≡ false) × IsShort token × AreFine tokens

abbrev pub IsNoField : TokenKind → Type 0
IsNoField (Field letter value digits) = ⊥
IsNoField sign = Unit {0}

-- the fields that tokens begin with go on after one
pub fields_more : (letter value digits : ℕ) (tokens : List TokenKind) → fields_at_front (Field letter value digits ∷ tokens)
    ≡ Field letter value digits ∷ fields_at_front tokens
fields_more letter value digits tokens = take_while-cons is_field (Field letter value digits) tokens

front_before : (tokens : List TokenKind) (sign : TokenKind) (rest : List TokenKind) → IsNoField sign
    → fields_at_front (tokens ++ sign ∷ rest) ≡ fields_at_front tokens
front_before [] (Field letter value digits) rest s = absurd s
front_before [] sign rest s = refl
front_before (Field letter value digits ∷ tokens) sign rest s =
    fields_more letter value digits (tokens ++ sign ∷ rest)
    ∙ ap (λ (l : List TokenKind). Field letter value digits ∷ l) (front_before tokens sign rest s)
    ∙ sym (fields_more letter value digits tokens)
front_before (other ∷ tokens) sign rest s = refl

pub opens_before : (token : TokenKind) (tokens : List TokenKind) (sign : TokenKind) (rest : List TokenKind) → IsNoField sign
    → opens_too_long token (tokens ++ sign ∷ rest) ≡ opens_too_long token tokens
opens_before OpenBrace tokens sign rest s = ap is_too_long (front_before tokens sign rest s)
opens_before token tokens sign rest s = refl

fine_left : (left : List TokenKind) (sign : TokenKind) (right : List TokenKind) → IsNoField sign → AreFine (left ++ sign ∷ right)
    → AreFine left
fine_left [] sign right s h = tt
fine_left (token ∷ left) sign right s h = (sym (opens_before token left sign right s) ∙ h.0, h.1, fine_left left sign right s h.2)

fine_right : (left right : List TokenKind) → AreFine (left ++ right) → AreFine right
fine_right [] right h = h
fine_right (token ∷ left) right h = fine_right left right h.2

-- ---- fields have no sign among them

pub front_fields : (before tokens rest : List TokenKind) → all_fit_duration before tokens ≡ true
    → fields_at_front (tokens ++ CloseBrace ∷ rest) ≡ tokens
front_fields before [] rest fit = refl
front_fields before (Field letter value digits ∷ tokens) rest fit =
    fields_more letter value digits (tokens ++ CloseBrace ∷ rest)
    ∙ ap (λ (l : List TokenKind). Field letter value digits ∷ l)
    (front_fields (Field letter value digits ∷ before) tokens rest
    (and_right (fits_duration before (Field letter value digits)) _ fit))
front_fields before (sign ∷ tokens) rest fit = absurd cc

short : (tokens : List TokenKind) → AreFine tokens → AreShort tokens
short [] h = tt
short (token ∷ tokens) h = (h.1, short tokens h.2)

valid_basic : (start duration : List TokenKind) → start ≢ [] → all_fit_start [] start ≡ true → all_fit_duration [] duration ≡ true
    → AreFine (basic_tokens start duration) → AreValid (Single (with_start_fields no_parts start)
    (with_duration_fields zero_parts duration))
valid_basic start duration some fit fit' h =
    let after = fine_right start (CloseParenthesis ∷ OpenBrace ∷ (duration ++ CloseBrace ∷ [])) h.2 in
    let bound : nat_lt 3162240000 (bound_of (with_duration_fields zero_parts duration)) ≡ false =
    sym (ap is_too_long (front_fields [] duration [] fit')) ∙ after.2.0 in (
      valid_start start some fit,
      (
        valid_numbers duration (short duration (fine_left duration CloseBrace [] tt after.2.2)),
        ltb-false 3162240000 _ bound,
      ),
    )

pub valid : (level : Level) (tokens : List TokenKind) (e : Tree) → Stands level tokens e → AreFine tokens → AreValid e
valid level tokens e (basic start duration some fit some' fit') h =
    valid_basic start duration some (starts_as_computed start fit) (durations_as_computed duration fit') h
valid level tokens e (bracketed inner f d) h = valid Sum inner f d (fine_left inner CloseBracket [] tt h.2)
valid level tokens e (item inner f d) h = valid Item inner f d h
valid level tokens e (meet left right a b d k) h = (
  valid Product left a d (fine_left left Star right tt h),
  valid Item right b k (fine_right left (Star ∷ right) h).2,
)
valid level tokens e (product inner f d) h = valid Product inner f d h
valid level tokens e (union left right a b d k) h = (
  valid Sum left a d (fine_left left Plus right tt h),
  valid Product right b k (fine_right left (Plus ∷ right) h).2,
)
valid level tokens e (minus left right a b d k) h = (
  valid Sum left a d (fine_left left Minus right tt h),
  valid Product right b k (fine_right left (Minus ∷ right) h).2,
)

-- ---- as many leaves as parentheses that open

-- how many parentheses open after this many
abbrev pub opens_from : ℕ → List TokenKind → ℕ
opens_from count [] = count
opens_from count (token ∷ tokens) = opens_from (count_after count token) tokens

opens_from-append : (count : ℕ) (a b : List TokenKind) → opens_from count (a ++ b) ≡ opens_from (opens_from count a) b
opens_from-append count [] b = refl
opens_from-append count (token ∷ a) b = opens_from-append (count_after count token) a b

opens_start : (count : ℕ) (before tokens : List TokenKind) → all_fit_start before tokens ≡ true → opens_from count tokens ≡ count
opens_start count before [] fit = refl
opens_start count before (Field letter value digits ∷ tokens) fit =
    opens_start count (Field letter value digits ∷ before) tokens
    (and_right (fits_start before (Field letter value digits)) _ fit)
opens_start count before (sign ∷ tokens) fit = absurd cc

opens_duration : (count : ℕ) (before tokens : List TokenKind) → all_fit_duration before tokens ≡ true → opens_from count tokens
    ≡ count
opens_duration count before [] fit = refl
opens_duration count before (Field letter value digits ∷ tokens) fit =
    opens_duration count (Field letter value digits ∷ before) tokens
    (and_right (fits_duration before (Field letter value digits)) _ fit)
opens_duration count before (sign ∷ tokens) fit = absurd cc

leaves_basic : (count : ℕ) (start duration : List TokenKind) → all_fit_start [] start ≡ true → all_fit_duration [] duration ≡ true
    → opens_from count (basic_tokens start duration) ≡ count + 1
leaves_basic count start duration fit fit' =
    opens_from-append (count + 1) start (CloseParenthesis ∷ OpenBrace ∷ (duration ++ CloseBrace ∷ []))
    ∙ ap (λ n. opens_from n (CloseParenthesis ∷ OpenBrace ∷ (duration ++ CloseBrace ∷ []))) (opens_start (count + 1) [] start fit)
    ∙ opens_from-append (count + 1) duration (CloseBrace ∷ [])
    ∙ opens_duration (count + 1) [] duration fit'

-- a sign between two sides
leaves_sides : (count : ℕ) (left right : List TokenKind) (sign : TokenKind) (a b : Tree) → ((n : ℕ) → count_after n sign ≡ n)
    → ((n : ℕ) → opens_from n left ≡ n + leaf_count a) → ((n : ℕ) → opens_from n right ≡ n + leaf_count b)
    → opens_from count (left ++ sign ∷ right) ≡ count + (leaf_count a + leaf_count b)
leaves_sides count left right sign a b none h k =
    opens_from-append count left (sign ∷ right)
    ∙ ap (λ n. opens_from n right) (none (opens_from count left) ∙ h count)
    ∙ k (count + leaf_count a)
    ∙ omega arith

pub leaves : (level : Level) (tokens : List TokenKind) (e : Tree) → Stands level tokens e → (count : ℕ) → opens_from count tokens
    ≡ count + leaf_count e
leaves level tokens e (basic start duration some fit some' fit') count =
    leaves_basic count start duration (starts_as_computed start fit) (durations_as_computed duration fit')
leaves level tokens e (bracketed inner f d) count = opens_from-append count inner (CloseBracket ∷ []) ∙ leaves Sum inner f d count
leaves level tokens e (item inner f d) count = leaves Item inner f d count
leaves level tokens e (meet left right a b d k) count = leaves_sides count left right Star a b (λ n. refl)
    (leaves Product left a d) (leaves Item right b k)
leaves level tokens e (product inner f d) count = leaves Product inner f d count
leaves level tokens e (union left right a b d k) count = leaves_sides count left right Plus a b (λ n. refl) (leaves Sum left a d)
    (leaves Product right b k)
leaves level tokens e (minus left right a b d k) count = leaves_sides count left right Minus a b (λ n. refl) (leaves Sum left a d)
    (leaves Product right b k)

passes : (b : Bool) (fault : TextFault) (later : Option TextFault) → cond b (Some fault) later ≡ None → (b ≡ false)
    × (later ≡ None)
passes false fault later e = (refl, e)
passes true fault later e = absurd cc

pub few_open : (count : ℕ) (tokens : List Token) → count ≤ 128 → too_many_after count tokens ≡ None
    → opens_from count (kinds tokens) ≤ 128
few_open count [] few e = few
few_open count (token ∷ tokens) few e =
    let h = passes (nat_lt 128 (count_after count token.kind)) _ (too_many_after (count_after count token.kind) tokens) e in
    few_open (count_after count token.kind) tokens (ltb-false 128 _ h.0) h.1

pub fine : (tokens : List Token) → AreShort (kinds tokens) → too_long tokens ≡ None → AreFine (kinds tokens)
fine [] short e = tt
fine (token ∷ tokens) short e =
    let h = passes (opens_too_long token.kind (kinds tokens)) _ (too_long tokens) e in
    (h.0, short.0, fine tokens short.1 h.1)
