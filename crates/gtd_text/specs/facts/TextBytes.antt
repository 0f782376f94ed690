-- Which bytes a canonical text does not have.
use Rattle.std.proofs.Common.{◌≡◌, ◌∙◌, ◌<◌, refl, arith, ℕ, List, [], ◌∷◌, ◌++◌, Bool, true, false}
use Rattle.std.specs.Prelude.{codes, not, ◌==◌, ◌&&◌, ◌||◌, nat_lt}
use Rattle.std.specs.Char.{digit_value}
use Rattle.std.specs.List.{flat_map, list_any}
use Rattle.std.specs.Str.Parse.{AllDigits}
use Rattle.std.proofs.lemmas.Bool.Decides.{nat_tests}
use Rattle.std.proofs.lemmas.List.Folds.{list_any-append}
use Rattle.gtd_core.specs.declared.start.StartParts.{StartParts}
use Rattle.gtd_core.specs.declared.duration.DurationParts.{DurationParts}
use Rattle.gtd_core.specs.declared.domain.Op.{Op}
use Rattle.gtd_core.specs.declared.domain.Op.TheVariants.{Union, Meet, Minus}
use Rattle.gtd_core.specs.Ranges.{HasSixDigits, IsStart, no_parts}
use Rattle.gtd_core.specs.Trees.{Tree, Single, Joined, AreValid}
use Rattle.gtd_text.specs.declared.token.TokenKind.{TokenKind}
use Rattle.gtd_text.specs.Canonical.{canonical, duration_shown, duration_text, field_text, fields_text, or_zero, sign_text}
use Rattle.gtd_text.specs.Canonical.{start_shown, start_text}
use Rattle.gtd_text.specs.Grammar.{zero_parts}
use Rattle.gtd_text.specs.facts.Builds.{and_left, and_right}
use Rattle.gtd_text.specs.facts.CanonicalFields.{start_rows, duration_rows}
use Rattle.gtd_text.specs.facts.ShownFields.{AreShown, Each, Shown, done, more, not_true}
use Rattle.gtd_text.specs.facts.TokenForms.{own}
use Rattle.gtd_text.specs.facts.TokenWords.{AreDigits}

-- a comma, and each byte below the open parenthesis, such as a space, a quote and the end of a line
abbrev pub is_apart : ℕ → Bool
is_apart byte = nat_lt byte 40 || byte == 44

-- the text has none of them
abbrev pub IsPlain : List ℕ → Type 0
IsPlain text = list_any is_apart text ≡ false

plain_joined : (a b : List ℕ) → IsPlain a → IsPlain b → IsPlain (a ++ b)
plain_joined a b p q = list_any-append is_apart a b ∙ rw (p, q) refl

digit_plain : (c : ℕ) → digit_value c < 10 → is_apart c ≡ false
digit_plain c h = grind (arith, nat_tests)

digits_plain : (text : List ℕ) → AllDigits 10 text → IsPlain text
digits_plain [] h = refl
digits_plain (c ∷ text) h = rw (digit_plain c h.0, digits_plain text h.1) refl

-- ---- fields

numbers_plain : (letter : ℕ) (numbers : List (List ℕ)) → is_apart letter ≡ false → Each AreDigits numbers
    → IsPlain (field_text (letter ∷ []) numbers)
unfolding field_text
numbers_plain letter [] l h = refl
numbers_plain letter (digits ∷ numbers) l h =
    plain_joined (letter ∷ digits) (flat_map (λ digits. (letter ∷ []) ++ digits) numbers)
    (rw (l, digits_plain digits (own.to digits h.0.all)) refl) (numbers_plain letter numbers l h.1)

abbrev plain_letters : List Shown → Bool
plain_letters [] = true
plain_letters (field ∷ fields) = not (is_apart field.0) && plain_letters fields

shown_plain : {Parts : Type 0} {may_follow : List TokenKind → TokenKind → Bool} {with_field : Parts → TokenKind → Parts}
    (parts last : Parts) (fields : List Shown) → AreShown Parts may_follow with_field parts fields last
    → plain_letters fields ≡ true → IsPlain (fields_text fields)
shown_plain parts last fields (done p) plain = refl
shown_plain parts last fields (more letter numbers p next q rest row others) plain =
    plain_joined (field_text (letter ∷ []) numbers) (fields_text rest)
    (numbers_plain letter numbers (not_true (is_apart letter) (and_left _ (plain_letters rest) plain)) row.digits)
    (shown_plain next q rest others (and_right (not (is_apart letter)) _ plain))

start_plain : (start : StartParts) → IsStart start → IsPlain (start_text start)
unfolding start_text
start_plain start h = shown_plain no_parts start (start_shown start) (start_rows start h) refl

zero_plain : (text : List ℕ) → IsPlain text → IsPlain (or_zero text)
zero_plain [] p = refl
zero_plain (b ∷ text) p = p

duration_plain : (duration : DurationParts) → HasSixDigits duration → IsPlain (duration_text duration)
unfolding duration_text
duration_plain duration h = zero_plain (fields_text (duration_shown duration))
    (shown_plain zero_parts duration (duration_shown duration) (duration_rows duration h) refl)

three_plain : (a b c : List ℕ) → IsPlain a → IsPlain b → IsPlain c → IsPlain (a ++ b ++ c)
three_plain a b c p q r = plain_joined (a ++ b) c (plain_joined a b p q) r

sign_plain : (op : Op) → IsPlain (sign_text op)
sign_plain Union = refl
sign_plain Meet = refl
sign_plain Minus = refl

pub canonical_plain : (tree : Tree) → AreValid tree → IsPlain (canonical tree)
canonical_plain (Single start duration) h =
    plain_joined (codes "[(" ++ start_text start ++ codes "){" ++ duration_text duration) (codes "}]")
    (plain_joined (codes "[(" ++ start_text start ++ codes "){") (duration_text duration)
    (three_plain (codes "[(") (start_text start) (codes "){") refl (start_plain start h.0) refl) (duration_plain duration h.1.0))
    refl
canonical_plain (Joined op left right) h =
    three_plain (codes "[" ++ canonical left ++ sign_text op) (canonical right) (codes "]")
    (three_plain (codes "[") (canonical left) (sign_text op) refl (canonical_plain left h.0) (sign_plain op))
    (canonical_plain right h.1) refl
