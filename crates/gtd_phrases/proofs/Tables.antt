-- What is tried of a table of words: of two phrases that may stand in the same place, no text is as both say.
use Rattle.std.proofs.Common.{◌≡◌, ℕ, Bool, true, false, List, [], ◌∷◌, ◌++◌}
use Rattle.std.specs.Prelude.{◌==◌, ◌&&◌, ◌||◌, not}
use Rattle.std.specs.Char.{is_ascii_digit}
use Rattle.gtd_phrases.specs.Grammar.{Group, Later, NoMonth}
use Rattle.gtd_phrases.specs.Grammar.{members, next}
use Rattle.gtd_phrases.specs.Pieces.{after, before, figures_of}
use Rattle.gtd_phrases.proofs.PhraseTerms.{Figures, Nothing, Plain, Zero, One, EndsInOne, EndsInTwo, EndsInThree, Other}
use Rattle.gtd_phrases.proofs.PhraseTerms.{Language, Phrase}
use Rattle.gtd_phrases.proofs.Skeletons.{Byte, Digit, Sym, apart, bytes}

-- ---- what is known of a phrase

abbrev pub digit_of : Figures → List Sym
digit_of Nothing = []
digit_of figures = Digit ∷ []

abbrev pub is_counted : Figures → Bool
is_counted Nothing = false
is_counted figures = true

abbrev pub is_plain : Figures → Bool
is_plain Plain = true
is_plain figures = false

abbrev pub head_of : Language → Phrase → List Sym
head_of l p = bytes (before l p) ++ digit_of (figures_of p)

abbrev pub afters_of : Language → Phrase → List (List ℕ)
afters_of l p =
    after l p Zero ∷ after l p One ∷ after l p EndsInOne ∷ after l p EndsInTwo ∷ after l p EndsInThree ∷ after l p Other ∷ []

pub record Entry : Type 0 where
  pub phrase : Phrase
  pub head : List Sym
  pub words : List ℕ
  pub afters : List (List ℕ)
  pub counted : Bool
  pub plain : Bool
  pub place : Group

abbrev pub entry : Language → Phrase → Entry
entry l p = record {
  phrase = p;
  head = head_of l p;
  words = before l p;
  afters = afters_of l p;
  counted = is_counted (figures_of p);
  plain = is_plain (figures_of p);
  place = next p;
}

abbrev pub entries : Language → List Phrase → List Entry
entries l [] = []
entries l (p ∷ ps) = entry l p ∷ entries l ps

abbrev pub heads : List Entry → List (List Sym)
heads [] = []
heads (e ∷ es) = e.head ∷ heads es

-- ---- two phrases

abbrev pub same_text : List ℕ → List ℕ → Bool
same_text [] [] = true
same_text (c ∷ x) (d ∷ y) = (c == d) && same_text x y
same_text x y = false

abbrev pub no_digit : List ℕ → Bool
no_digit [] = false
no_digit (c ∷ x) = not (is_ascii_digit c)

abbrev pub no_digits : List (List ℕ) → Bool
no_digits [] = true
no_digits (x ∷ xs) = no_digit x && no_digits xs

abbrev pub apart_from : List ℕ → List (List ℕ) → Bool
apart_from x [] = true
apart_from x (y ∷ ys) = apart (bytes x) (bytes y) && apart_from x ys

abbrev pub all_apart_from : List (List ℕ) → List (List ℕ) → Bool
all_apart_from [] ys = true
all_apart_from (x ∷ xs) ys = apart_from x ys && all_apart_from xs ys

-- The words before the number are the same, and those after it are not.
abbrev pub told_after : Entry → Entry → Bool
told_after e f =
    e.counted && (f.counted && (same_text e.words f.words && (no_digits e.afters && (no_digits f.afters
    && all_apart_from e.afters f.afters))))

abbrev pub ahead_of : List Sym → List (List Sym) → List Sym → Bool
ahead_of head [] other = true
ahead_of head (next ∷ nexts) other = apart (head ++ next) other && ahead_of head nexts other

-- what may come after a phrase, or the end of the line
abbrev pub nexts_by : Group → List (List Sym) → List (List Sym) → List (List Sym)
nexts_by Later later no_month = (Byte 10 ∷ []) ∷ later
nexts_by NoMonth later no_month = (Byte 10 ∷ []) ∷ no_month
nexts_by place later no_month = [] ∷ []

abbrev pub is_empty : List ℕ → Bool
is_empty [] = true
is_empty (c ∷ x) = false

abbrev pub all_empty : List (List ℕ) → Bool
all_empty [] = true
all_empty (x ∷ xs) = is_empty x && all_empty xs

-- Words are the beginning of other words, but not with what comes after them.
abbrev pub told_ahead : List (List Sym) → List (List Sym) → Entry → Entry → Bool
told_ahead later no_month e f =
    not e.counted && (all_empty e.afters && ahead_of e.head (nexts_by e.place later no_month) f.head)

abbrev pub differ : List (List Sym) → List (List Sym) → Entry → Entry → Bool
differ later no_month e f = elim (apart e.head f.head) as (λ c. Bool) [
  | true ↦ true
  | false ↦ elim (told_after e f) as (λ c. Bool) [
    | true ↦ true
    | false ↦ elim (told_ahead later no_month e f) as (λ c. Bool) [ true ↦ true | false ↦ told_ahead later no_month f e ]
  ]
]

abbrev pub differs_from_all : List (List Sym) → List (List Sym) → Entry → List Entry → Bool
differs_from_all later no_month e [] = true
differs_from_all later no_month e (f ∷ fs) = differ later no_month e f && differs_from_all later no_month e fs

abbrev pub all_differ : List (List Sym) → List (List Sym) → List Entry → Bool
all_differ later no_month [] = true
all_differ later no_month (e ∷ es) = differs_from_all later no_month e es && all_differ later no_month es

-- ---- one phrase

-- It does not begin as a line ends, and a number in as many digits as it has ends where words begin.
abbrev pub is_sound : Entry → Bool
is_sound e = apart (Byte 10 ∷ []) e.head && (not e.plain || no_digits e.afters)

abbrev pub all_sound : List Entry → Bool
all_sound [] = true
all_sound (e ∷ es) = is_sound e && all_sound es

abbrev pub later_heads : Language → List (List Sym)
later_heads l = heads (entries l (members Later))

abbrev pub no_month_heads : Language → List (List Sym)
no_month_heads l = heads (entries l (members NoMonth))

abbrev pub good_place : List (List Sym) → List (List Sym) → List Entry → Bool
good_place later no_month es = all_sound es && all_differ later no_month es

abbrev pub is_good : Language → Group → Bool
is_good l g = good_place (later_heads l) (no_month_heads l) (entries l (members g))

pub record Good (l : Language) : Type 0 where
  pub places : (g : Group) → is_good l g ≡ true
