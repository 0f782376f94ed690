-- The canonical text has no fault.
use Rattle.std.proofs.Common.{◌≡◌, ℕ, ◌+◌, ◌-◌, ◌≤◌, Bool, true, false, cond, List, [], ◌∷◌, ◌++◌, length, Option, Some, None}
use Rattle.std.proofs.Common.{refl, sym, ap, subst, ◌∙◌, arith}
use Rattle.std.specs.Prelude.{nat_lt, is_some}
use Rattle.std.proofs.lemmas.Bool.{le-ltb}
use Rattle.std.specs.Option.{option_or}
use Rattle.gtd_core.specs.declared.fault.TextFault.{TextFault}
use Rattle.gtd_core.specs.declared.domain.Op.{Op}
use Rattle.gtd_core.specs.declared.domain.Op.TheVariants.{Union, Meet, Minus as OpMinus}
use Rattle.gtd_core.specs.Ranges.{bound_of}
use Rattle.gtd_core.specs.Trees.{Tree, Single, Joined, AreValid, leaf_count}
use Rattle.gtd_text.specs.declared.token.Token.{Token}
use Rattle.gtd_text.specs.declared.token.TokenKind.{TokenKind}
use Rattle.gtd_text.specs.declared.token.TokenKind.TheVariants.{OpenBracket, CloseBracket, OpenParenthesis, CloseParenthesis}
use Rattle.gtd_text.specs.declared.token.TokenKind.TheVariants.{OpenBrace, CloseBrace, Plus, Star, Minus, Field}
use Rattle.gtd_text.specs.Canonical.{canonical}
use Rattle.gtd_text.specs.Grammar.{zero_parts}
use Rattle.gtd_text.specs.ComputedFields.{fits_start, fits_duration, all_fit_start, all_fit_duration, with_duration_fields}
use Rattle.gtd_text.specs.facts.FieldForms.{durations_as_computed, starts_as_computed}
use Rattle.gtd_text.specs.Grammar.{Level, Sum, Product, Item, Stands, basic, bracketed, item, meet, product, union, minus}
use Rattle.gtd_text.specs.ComputedFields.{basic_tokens}
use Rattle.gtd_text.specs.Fitting.{fits, may_end}
use Rattle.gtd_text.specs.Found.{fault_after, depth_after, too_deep_after, count_after, too_many_after, too_long}
use Rattle.gtd_text.specs.Found.{fault_of_tokens}
use Rattle.gtd_text.specs.facts.Linked.{all_fit, all_fit_builds}
use Rattle.gtd_text.specs.ComputedFaults.{is_too_long, opens_too_long}
use Rattle.gtd_text.specs.Lexing.{kinds}
use Rattle.gtd_text.specs.Reading.{HasNoFault}
use Rattle.gtd_text.specs.facts.Builds.{and_left, and_right, builds_whole}
use Rattle.gtd_text.specs.facts.ReadingLaws.{no_fault}
use Rattle.gtd_text.specs.facts.Valid.{IsNoField, opens_before, front_fields, opens_from, leaves}
use Rattle.gtd_text.specs.facts.TokenWords.{kinds_of, kinds-placed}
use Rattle.gtd_text.specs.facts.CanonicalFields.{start_words, start_fields, duration_words, duration_fields}
use Rattle.gtd_text.specs.facts.CanonicalText.{op_word, canonical_words, canonical_tokens, canonical_read, canonical_stand}
use Rattle.gtd_text.specs.facts.CanonicalText.{kinds_single, kinds_joined}

-- ---- no duration is too long

abbrev NoneLong : List TokenKind → Type 0
NoneLong [] = Unit {0}
NoneLong (token ∷ tokens) = (opens_too_long token tokens ≡ false) × NoneLong tokens

none_long_join : (left : List TokenKind) (sign : TokenKind) (right : List TokenKind) → IsNoField sign → NoneLong left
    → NoneLong (sign ∷ right) → NoneLong (left ++ sign ∷ right)
none_long_join [] sign right s h k = k
none_long_join (token ∷ left) sign right s h k = (
  opens_before token left sign right s ∙ h.0,
  none_long_join left sign right s h.1 k,
)

-- each of the tokens is a field
abbrev AreFields : List TokenKind → Type 0
AreFields [] = Unit {0}
AreFields (Field letter value digits ∷ tokens) = AreFields tokens
AreFields (sign ∷ tokens) = ⊥

start_fields-only : (before tokens : List TokenKind) → all_fit_start before tokens ≡ true → AreFields tokens
start_fields-only before [] fit = tt
start_fields-only before (Field letter value digits ∷ tokens) fit =
    start_fields-only (Field letter value digits ∷ before) tokens
    (and_right (fits_start before (Field letter value digits)) _ fit)
start_fields-only before (sign ∷ tokens) fit = absurd cc

duration_fields-only : (before tokens : List TokenKind) → all_fit_duration before tokens ≡ true → AreFields tokens
duration_fields-only before [] fit = tt
duration_fields-only before (Field letter value digits ∷ tokens) fit = duration_fields-only
    (Field letter value digits ∷ before) tokens
    (and_right (fits_duration before (Field letter value digits)) _ fit)
duration_fields-only before (sign ∷ tokens) fit = absurd cc

none_long_fields : (tokens : List TokenKind) → AreFields tokens → NoneLong tokens
none_long_fields [] fields = tt
none_long_fields (Field letter value digits ∷ tokens) fields = (refl, none_long_fields tokens fields)
none_long_fields (sign ∷ tokens) fields = absurd fields

none_long_basic : (start duration : List TokenKind) → all_fit_start [] start ≡ true → all_fit_duration [] duration ≡ true
    → bound_of (with_duration_fields zero_parts duration) ≤ 3162240000 → NoneLong (basic_tokens start duration)
none_long_basic start duration fit fit' small =
    let short : is_too_long duration ≡ false = le-ltb 3162240000 (bound_of (with_duration_fields zero_parts duration)) small in (
      refl,
      none_long_join start CloseParenthesis (OpenBrace ∷ (duration ++ CloseBrace ∷ [])) tt
          (none_long_fields start (start_fields-only [] start fit)) (
            refl,
            (
              ap is_too_long (front_fields [] duration [] fit') ∙ short,
              none_long_join duration CloseBrace [] tt (none_long_fields duration (duration_fields-only [] duration fit'))
                  (refl, tt),
            ),
          ),
    )

none_long : (level : Level) (tokens : List TokenKind) (e : Tree) → Stands level tokens e → AreValid e → NoneLong tokens
none_long level tokens e (basic start duration some fit some' fit') h =
    none_long_basic start duration (starts_as_computed start fit) (durations_as_computed duration fit') h.1.1
none_long level tokens e (bracketed inner f d) h = (
  refl,
  none_long_join inner CloseBracket [] tt (none_long Sum inner f d h)
      (refl, tt),
)
none_long level tokens e (item inner f d) h = none_long Item inner f d h
none_long level tokens e (meet left right a b d k) h = none_long_join left Star right tt (none_long Product left a d h.0)
    (refl, none_long Item right b k h.1)
none_long level tokens e (product inner f d) h = none_long Product inner f d h
none_long level tokens e (union left right a b d k) h = none_long_join left Plus right tt (none_long Sum left a d h.0)
    (refl, none_long Product right b k h.1)
none_long level tokens e (minus left right a b d k) h = none_long_join left Minus right tt (none_long Sum left a d h.0)
    (refl, none_long Product right b k h.1)

passes : (b : Bool) (fault : TextFault) (later : Option TextFault) → b ≡ false → later ≡ None → cond b (Some fault) later ≡ None
passes false fault later e h = h
passes true fault later e h = absurd cc

not_too_long : (tokens : List Token) → NoneLong (kinds tokens) → too_long tokens ≡ None
not_too_long [] h = refl
not_too_long (token ∷ tokens) h = passes (opens_too_long token.kind (kinds tokens)) _ _ h.0 (not_too_long tokens h.1)

-- ---- not too many

count_grows : (count : ℕ) (token : TokenKind) → count ≤ count_after count token
count_grows count OpenParenthesis = omega arith
count_grows count token = omega arith

opens_grow : (count : ℕ) (tokens : List TokenKind) → count ≤ opens_from count tokens
opens_grow count [] = omega arith
opens_grow count (token ∷ tokens) = omega (arith, count_grows count token, opens_grow (count_after count token) tokens)

not_too_many : (count : ℕ) (tokens : List Token) → opens_from count (kinds tokens) ≤ 128 → too_many_after count tokens ≡ None
not_too_many count [] h = refl
not_too_many count (token ∷ tokens) h =
    let next = opens_grow (count_after count token.kind) (kinds tokens) in
    passes (nat_lt 128 (count_after count token.kind)) _ _ (le-ltb 128 (count_after count token.kind) (omega (arith, next, h)))
    (not_too_many (count_after count token.kind) tokens h)

-- ---- not too deep

abbrev AreShallow : ℕ → List TokenKind → Type 0
AreShallow depth [] = Unit {0}
AreShallow depth (token ∷ tokens) = (depth_after depth token ≤ 128) × AreShallow (depth_after depth token) tokens

abbrev depth_from : ℕ → List TokenKind → ℕ
depth_from depth [] = depth
depth_from depth (token ∷ tokens) = depth_from (depth_after depth token) tokens

not_too_deep : (depth : ℕ) (tokens : List Token) → AreShallow depth (kinds tokens) → too_deep_after depth tokens ≡ None
not_too_deep depth [] h = refl
not_too_deep depth (token ∷ tokens) h = passes (nat_lt 128 (depth_after depth token.kind)) _ _
    (le-ltb 128 (depth_after depth token.kind) h.0) (not_too_deep (depth_after depth token.kind) tokens h.1)

-- tokens that are not too deep, and leave the depth as it was
record Stays (depth : ℕ) (tokens : List TokenKind) : Type 0 where
  shallow : AreShallow depth tokens
  back : depth_from depth tokens ≡ depth

shallow-append : (depth : ℕ) (a b : List TokenKind) → AreShallow depth a → AreShallow (depth_from depth a) b
    → AreShallow depth (a ++ b)
shallow-append depth [] b h k = k
shallow-append depth (token ∷ a) b h k = (h.0, shallow-append (depth_after depth token) a b h.1 k)

depth_from-append : (depth : ℕ) (a b : List TokenKind) → depth_from depth (a ++ b) ≡ depth_from (depth_from depth a) b
depth_from-append depth [] b = refl
depth_from-append depth (token ∷ a) b = depth_from-append (depth_after depth token) a b

stays-append : (depth : ℕ) (a b : List TokenKind) → Stays depth a → Stays depth b → Stays depth (a ++ b)
stays-append depth a b h k = record {
  shallow = shallow-append depth a b h.shallow (subst (λ (n : ℕ). AreShallow n b) (sym h.back) k.shallow);
  back = depth_from-append depth a b ∙ ap (λ (n : ℕ). depth_from n b) h.back ∙ k.back;
}

stays-more : (depth : ℕ) (token : TokenKind) (tokens : List TokenKind) → depth ≤ 128 → depth_after depth token ≡ depth
    → Stays depth tokens → Stays depth (token ∷ tokens)
stays-more depth token tokens small same h = record {
  shallow = (omega (arith, same), subst (λ (n : ℕ). AreShallow n tokens) (sym same) h.shallow);
  back = ap (λ (n : ℕ). depth_from n tokens) same ∙ h.back;
}

stays-none : (depth : ℕ) → Stays depth []
stays-none depth = record { shallow = tt; back = refl }

stays_fields : (depth : ℕ) (tokens : List TokenKind) → depth ≤ 128 → AreFields tokens → Stays depth tokens
stays_fields depth [] small fields = stays-none depth
stays_fields depth (Field letter value digits ∷ tokens) small fields =
    stays-more depth (Field letter value digits) tokens small refl (stays_fields depth tokens small fields)
stays_fields depth (sign ∷ tokens) small fields = absurd fields

stays_basic : (depth : ℕ) (start duration : List TokenKind) → depth ≤ 128 → all_fit_start [] start ≡ true
    → all_fit_duration [] duration ≡ true → Stays depth (basic_tokens start duration)
stays_basic depth start duration small fit fit' =
    stays-more depth OpenParenthesis _ small refl
    (stays-append depth start _ (stays_fields depth start small (start_fields-only [] start fit))
    (stays-more depth CloseParenthesis _ small refl
    (stays-more depth OpenBrace _ small refl
    (stays-append depth duration _ (stays_fields depth duration small (duration_fields-only [] duration fit'))
    (stays-more depth CloseBrace [] small refl (stays-none depth))))))

stays_bracketed : (depth : ℕ) (tokens : List TokenKind) → depth + 1 ≤ 128 → Stays (depth + 1) tokens
    → Stays depth (OpenBracket ∷ (tokens ++ CloseBracket ∷ []))
stays_bracketed depth tokens small h =
    let less : depth + 1 - 1 ≡ depth = omega arith in
    record {
      shallow = (
        small,
        shallow-append (depth + 1) tokens (CloseBracket ∷ []) h.shallow
            (subst (λ (n : ℕ). AreShallow n (CloseBracket ∷ [])) (sym h.back) (omega arith, tt)),
      );
      back = depth_from-append (depth + 1) tokens (CloseBracket ∷ []) ∙ ap (λ (n : ℕ). n - 1) h.back ∙ less;
    }

one_leaf : (e : Tree) → 1 ≤ leaf_count e
one_leaf (Single start duration) = omega arith
one_leaf (Joined op left right) = omega (arith, one_leaf left)

op_stays : (op : Op) (depth : ℕ) → depth_after depth (op_word op).0 ≡ depth
op_stays Union depth = refl
op_stays Meet depth = refl
op_stays OpMinus depth = refl

item_stays : (e : Tree) → AreValid e → (depth : ℕ) → depth + leaf_count e ≤ 128 → Stays depth (kinds_of (canonical_words e))
item_stays (Single start duration) h depth small =
    let s = start_fields start h.0 in
    let n = duration_fields duration h.1.0 in
    subst (λ (l : List TokenKind). Stays depth l) (sym (kinds_single start duration))
    (stays_bracketed depth _ (omega arith) (stays_basic (depth + 1) (kinds_of (start_words start))
    (kinds_of (duration_words duration)) (omega arith) s.fit n.fit))
item_stays (Joined op left right) h depth small =
    let a = item_stays left h.0 (depth + 1) (omega (arith, one_leaf right)) in
    let b = item_stays right h.1 (depth + 1) (omega (arith, one_leaf left)) in
    subst (λ (l : List TokenKind). Stays depth l) (sym (kinds_joined op left right))
    (stays_bracketed depth _ (omega (arith, one_leaf left))
    (stays-append (depth + 1) (kinds_of (canonical_words left)) _ a
    (stays-more (depth + 1) (op_word op).0 (kinds_of (canonical_words right)) (omega (arith, one_leaf left))
    (op_stays op (depth + 1)) b)))

-- ---- each token fits

chosen : (b : Bool) (fault : TextFault) (later : Option TextFault) → b ≡ true → later ≡ None → cond b later (Some fault) ≡ None
chosen true fault later e h = h
chosen false fault later e h = absurd cc

pub fits_no_fault : (len : ℕ) (before : List TokenKind) (tokens : List Token) → all_fit before (kinds tokens) ≡ true
    → fault_after len before tokens ≡ None
fits_no_fault len before [] h = chosen (may_end before) _ None h refl
fits_no_fault len before (token ∷ tokens) h =
    chosen (fits before token.kind) _ _ (and_left _ (all_fit (token.kind ∷ before) (kinds tokens)) h)
    (fits_no_fault len (token.kind ∷ before) tokens (and_right (fits before token.kind) _ h))

pub stands_fit : (tokens : List TokenKind) (e : Tree) → Stands Sum tokens e → all_fit [] tokens ≡ true
stands_fit tokens e d = all_fit_builds tokens ∙ ap is_some (builds_whole tokens e d)

-- ---- all together

none_of_both : (first later : Option TextFault) → first ≡ None → later ≡ None → option_or first later ≡ None
none_of_both None later e h = h
none_of_both (Some fault) later e h = absurd cc

-- tokens that are not too deep and stand for a valid expression of few leaves have no fault
pub no_fault_of_tokens : (len : ℕ) (tokens : List Token) (e : Tree) → Stands Sum (kinds tokens) e → AreValid e
    → leaf_count e ≤ 128 → too_deep_after 0 tokens ≡ None → fault_of_tokens len tokens ≡ None
no_fault_of_tokens len tokens e d h few deep =
    let opened = leaves Sum (kinds tokens) e d 0 in
    let many = not_too_many 0 tokens (omega (arith, opened, few)) in
    let fit = fits_no_fault len [] tokens (stands_fit (kinds tokens) e d) in
    let long = not_too_long tokens (none_long Sum (kinds tokens) e d h) in
    none_of_both (option_or (option_or (too_deep_after 0 tokens) (too_many_after 0 tokens)) (fault_after len [] tokens))
    (too_long tokens)
    (none_of_both (option_or (too_deep_after 0 tokens) (too_many_after 0 tokens)) (fault_after len [] tokens)
    (none_of_both (too_deep_after 0 tokens) (too_many_after 0 tokens) deep many) fit) long

pub canonical_faultless : (e : Tree) → AreValid e → leaf_count e ≤ 128 → HasNoFault (canonical e)
canonical_faultless e h few =
    let stays = item_stays e h 0 (omega (arith, few)) in
    let deep = not_too_deep 0 (canonical_tokens e) (subst (λ (l : List TokenKind). AreShallow 0 l)
    (sym (kinds-placed 0 (canonical_words e))) stays.shallow) in
    no_fault (canonical e) (canonical_tokens e) (canonical_read e h)
    (no_fault_of_tokens (length (canonical e)) (canonical_tokens e) e (canonical_stand e h) h few deep)
