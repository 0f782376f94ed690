-- Fields in a fixed order, each with the digits of its numbers: their words, and what their tokens give.
use Rattle.std.proofs.Common.{◌≡◌, ◌≢◌, ℕ, Bool, true, false, List, [], ◌∷◌, ◌++◌, refl, ap, ◌∙◌, arith, fold}
use Rattle.std.specs.Prelude.{◌==◌, ◌&&◌, ◌||◌, not}
use Rattle.std.specs.Char.{is_ascii_digit}
use Rattle.std.proofs.lemmas.List.Sums.{fold-append}
use Rattle.gtd_text.specs.declared.token.TokenKind.{TokenKind}
use Rattle.gtd_text.specs.declared.token.TokenKind.TheVariants.{Field}
use Rattle.gtd_text.specs.Canonical.{field_text, fields_text, or_zero}
use Rattle.gtd_text.specs.Grammar.{each_fits}
use Rattle.gtd_text.specs.ComputedFields.{is_start_letter, has_letter}
use Rattle.gtd_text.specs.facts.Builds.{and_left, and_right, turned}
use Rattle.gtd_text.specs.facts.TokenWords.{Word, text_of, kinds_of, text_of-append, kinds_of-append, AreWords, AreWords-append}
use Rattle.gtd_text.specs.facts.TokenWords.{AreDigits, field_kind, field_word, is_field_word}

-- a letter, and the digits of each of its numbers
abbrev pub Shown : Type 0
Shown = ℕ × List (List ℕ)

abbrev pub numbers_words : ℕ → List (List ℕ) → List Word
numbers_words letter [] = []
numbers_words letter (digits ∷ numbers) = field_word letter digits ∷ numbers_words letter numbers

abbrev pub shown_words : List Shown → List Word
shown_words [] = []
shown_words (field ∷ fields) = numbers_words field.0 field.1 ++ shown_words fields

-- ---- their text

numbers_text : (letter : ℕ) (numbers : List (List ℕ)) → text_of (numbers_words letter numbers) ≡ field_text (letter ∷ []) numbers
unfolding field_text
numbers_text letter [] = refl
numbers_text letter (digits ∷ numbers) = ap (λ (l : List ℕ). letter ∷ (digits ++ l)) (numbers_text letter numbers)

pub text_of-shown : (fields : List Shown) → text_of (shown_words fields) ≡ fields_text fields
text_of-shown [] = refl
text_of-shown (field ∷ fields) =
    text_of-append (numbers_words field.0 field.1) (shown_words fields)
    ∙ ap (λ (l : List ℕ). l ++ text_of (shown_words fields)) (numbers_text field.0 field.1)
    ∙ ap (λ (l : List ℕ). field_text (field.0 ∷ []) field.1 ++ l) (text_of-shown fields)

-- ---- what holds of one field, and of all

abbrev pub Each : (List ℕ → Type 0) → List (List ℕ) → Type 0
Each Holds [] = Unit {0}
Each Holds (digits ∷ numbers) = Holds digits × Each Holds numbers

-- The numbers fit where the letter has not been yet, and make the next parts of these.
pub record IsShown (Parts : Type 0) (may_follow : List TokenKind → TokenKind → Bool) (with_field : Parts → TokenKind → Parts)
    (letter : ℕ) (numbers : List (List ℕ)) (parts next : Parts) : Type 0 where
  pub digits : Each AreDigits numbers
  pub fit : (before : List TokenKind) → has_letter letter before ≡ false
      → each_fits may_follow before (kinds_of (numbers_words letter numbers)) ≡ true
  pub same : fold with_field parts (kinds_of (numbers_words letter numbers)) ≡ next

-- field by field, from the first parts to the last
pub data AreShown (Parts : Type 0) (may_follow : List TokenKind → TokenKind → Bool) (with_field : Parts → TokenKind → Parts)
    : Parts → List Shown → Parts → Type 0 where
  done : (parts : Parts) → AreShown Parts may_follow with_field parts [] parts
  more : (letter : ℕ) (numbers : List (List ℕ)) (parts next last : Parts) (fields : List Shown)
      → IsShown Parts may_follow with_field letter numbers parts next → AreShown Parts may_follow with_field next fields last
      → AreShown Parts may_follow with_field parts ((letter, numbers) ∷ fields) last

-- no later field has this letter
abbrev differs : ℕ → List Shown → Bool
differs letter [] = true
differs letter (field ∷ fields) = not (letter == field.0) && differs letter fields

-- each letter is one of a start, and no digit, and stands once
abbrev pub good_letters : List Shown → Bool
good_letters [] = true
good_letters (field ∷ fields) =
    is_start_letter field.0 && not (is_ascii_digit field.0) && differs field.0 fields && good_letters fields

four : (a b c d : Bool) → (a && b && c && d) ≡ true → (a ≡ true) × (b ≡ true) × (c ≡ true) × (d ≡ true)
four true true true d h = (refl, refl, refl, h)
four true true false d h = absurd cc
four true false c d h = absurd cc
four false b c d h = absurd cc

pub not_true : (b : Bool) → not b ≡ true → b ≡ false
not_true false h = refl
not_true true h = absurd cc

pub and_both : (a b : Bool) → a ≡ true → b ≡ true → (a && b) ≡ true
and_both true b h k = k
and_both false b h k = absurd cc

-- ---- words

numbers_are_words : (letter : ℕ) (numbers : List (List ℕ)) → is_start_letter letter ≡ true → is_ascii_digit letter ≡ false
    → Each AreDigits numbers → AreWords (numbers_words letter numbers)
numbers_are_words letter [] known no_digit h = tt
numbers_are_words letter (digits ∷ numbers) known no_digit h =
    (is_field_word letter digits known no_digit h.0, numbers_are_words letter numbers known no_digit h.1)

are_words : {Parts : Type 0} {may_follow : List TokenKind → TokenKind → Bool} {with_field : Parts → TokenKind → Parts}
    (parts last : Parts) (fields : List Shown) → AreShown Parts may_follow with_field parts fields last
    → good_letters fields ≡ true → AreWords (shown_words fields)
are_words parts last fields (done p) good = tt
are_words parts last fields (more letter numbers p next q rest row others) good =
    let g = four (is_start_letter letter) (not (is_ascii_digit letter)) (differs letter rest) (good_letters rest) good in
    AreWords-append (numbers_words letter numbers) (shown_words rest)
    (numbers_are_words letter numbers g.0 (not_true (is_ascii_digit letter) g.1) row.digits) (are_words next q rest others g.3)

-- ---- they fit

abbrev NoneYet : List Shown → List TokenKind → Type 0
NoneYet [] before = Unit {0}
NoneYet (field ∷ fields) before = (has_letter field.0 before ≡ false) × NoneYet fields before

none_yet_front : (fields : List Shown) → NoneYet fields []
none_yet_front [] = tt
none_yet_front (field ∷ fields) = (refl, none_yet_front fields)

none_has : (same has : Bool) → not same ≡ true → has ≡ false → (same || has) ≡ false
none_has true has h k = absurd cc
none_has false has h k = k

none_yet_more : (fields : List Shown) (letter value digits : ℕ) (before : List TokenKind) → differs letter fields ≡ true
    → NoneYet fields before → NoneYet fields (Field letter value digits ∷ before)
none_yet_more [] letter value digits before h k = tt
none_yet_more (field ∷ fields) letter value digits before h k = (
  none_has (letter == field.0) (has_letter field.0 before) (and_left _ (differs letter fields) h) k.0,
  none_yet_more fields letter value digits before (and_right (not (letter == field.0)) _ h) k.1,
)

none_yet_after : (fields : List Shown) (letter : ℕ) (numbers : List (List ℕ)) (before : List TokenKind)
    → differs letter fields ≡ true → NoneYet fields before
    → NoneYet fields (turned before (kinds_of (numbers_words letter numbers)))
none_yet_after fields letter [] before h k = k
none_yet_after fields letter (digits ∷ numbers) before h k =
    none_yet_after fields letter numbers (field_kind letter digits ∷ before) h (none_yet_more fields letter _ _ before h k)

fits_on : (may_follow : List TokenKind → TokenKind → Bool) (before a b : List TokenKind) → each_fits may_follow before a ≡ true
    → each_fits may_follow (turned before a) b ≡ true → each_fits may_follow before (a ++ b) ≡ true
fits_on may_follow before [] b h k = k
fits_on may_follow before (x ∷ a) b h k =
    and_both (may_follow before x) (each_fits may_follow (x ∷ before) (a ++ b))
    (and_left _ (each_fits may_follow (x ∷ before) a) h)
    (fits_on may_follow (x ∷ before) a b (and_right (may_follow before x) _ h) k)

all_fit : {Parts : Type 0} {may_follow : List TokenKind → TokenKind → Bool} {with_field : Parts → TokenKind → Parts}
    (parts last : Parts) (fields : List Shown) (before : List TokenKind) → AreShown Parts may_follow with_field parts fields last
    → good_letters fields ≡ true → NoneYet fields before
    → each_fits may_follow before (kinds_of (shown_words fields)) ≡ true
all_fit parts last fields before (done p) good none = refl
all_fit {may_follow = may_follow} parts last fields before (more letter numbers p next q rest row others) good none =
    let g = four (is_start_letter letter) (not (is_ascii_digit letter)) (differs letter rest) (good_letters rest) good in
    let own = kinds_of (numbers_words letter numbers) in
    ap (each_fits may_follow before) (kinds_of-append (numbers_words letter numbers) (shown_words rest))
    ∙ fits_on may_follow before own (kinds_of (shown_words rest)) (row.fit before none.0)
    (all_fit next q rest (turned before own) others g.3 (none_yet_after rest letter numbers before g.2 none.1))

-- ---- what they give

all_give : {Parts : Type 0} {may_follow : List TokenKind → TokenKind → Bool} {with_field : Parts → TokenKind → Parts}
    (parts last : Parts) (fields : List Shown) → AreShown Parts may_follow with_field parts fields last
    → fold with_field parts (kinds_of (shown_words fields)) ≡ last
all_give parts last fields (done p) = refl
all_give {with_field = with_field} parts last fields (more letter numbers p next q rest row others) =
    let own = kinds_of (numbers_words letter numbers) in
    let later = kinds_of (shown_words rest) in
    ap (fold with_field p) (kinds_of-append (numbers_words letter numbers) (shown_words rest))
    ∙ fold-append with_field p own later
    ∙ ap (λ x. fold with_field x later) row.same
    ∙ all_give next q rest others

-- what holds of words in the place of fields
pub record AreFields (Parts : Type 0) (may_follow : List TokenKind → TokenKind → Bool) (with_field : Parts → TokenKind → Parts)
    (words : List Word) (parts last : Parts) : Type 0 where
  pub are : AreWords words
  pub fit : each_fits may_follow [] (kinds_of words) ≡ true
  pub same : fold with_field parts (kinds_of words) ≡ last

pub are_fields : {Parts : Type 0} {may_follow : List TokenKind → TokenKind → Bool} {with_field : Parts → TokenKind → Parts}
    (parts last : Parts) (fields : List Shown) → AreShown Parts may_follow with_field parts fields last
    → good_letters fields ≡ true → AreFields Parts may_follow with_field (shown_words fields) parts last
are_fields parts last fields h good = record {
  are = are_words parts last fields h good;
  fit = all_fit parts last fields [] h good (none_yet_front fields);
  same = all_give parts last fields h;
}

-- ---- `s0` if no number is given

abbrev pub or_zero_words : List Word → List Word
or_zero_words [] = field_word 115 (48 ∷ []) ∷ []
or_zero_words (word ∷ words) = word ∷ words

or_zero_by : (letter : ℕ) (numbers : List (List ℕ)) (words : List Word) → text_of (or_zero_words words) ≡ or_zero (text_of words)
    → text_of (or_zero_words (numbers_words letter numbers ++ words)) ≡ or_zero (text_of (numbers_words letter numbers ++ words))
or_zero_by letter [] words h = h
or_zero_by letter (digits ∷ numbers) words h = refl

pub or_zero_text : (fields : List Shown) → text_of (or_zero_words (shown_words fields)) ≡ or_zero (text_of (shown_words fields))
or_zero_text [] = refl
or_zero_text (field ∷ fields) = or_zero_by field.0 field.1 (shown_words fields) (or_zero_text fields)

pub or_zero_some : (words : List Word) → kinds_of (or_zero_words words) ≢ []
or_zero_some [] e = absurd cc
or_zero_some (word ∷ words) e = absurd cc

zero_digits : AreDigits (48 ∷ [])
zero_digits = record { all = refl; some = omega arith; few = omega arith }

-- a field of 0 gives nothing
pub or_zero_fields : {Parts : Type 0} {may_follow : List TokenKind → TokenKind → Bool} {with_field : Parts → TokenKind → Parts}
    (words : List Word) (parts last : Parts) → may_follow [] (Field 115 0 1) ≡ true → with_field parts (Field 115 0 1) ≡ parts
    → AreFields Parts may_follow with_field words parts last
    → AreFields Parts may_follow with_field (or_zero_words words) parts last
or_zero_fields (word ∷ words) parts last zero_fits gives h = h
or_zero_fields {may_follow = may_follow} [] parts last zero_fits gives h = record {
  are = (is_field_word 115 (48 ∷ []) refl refl zero_digits, tt);
  fit = and_both (may_follow [] (Field 115 0 1)) true zero_fits refl;
  same = gives ∙ h.same;
}
