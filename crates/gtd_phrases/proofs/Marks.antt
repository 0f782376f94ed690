-- An end begins with words that are nowhere else in it. So words close with one end at most.
use Rattle.std.proofs.Common.{◌≡◌, ℕ, zero, suc, Bool, true, false, List, [], ◌∷◌, ◌++◌, refl, sym, ap, subst, ◌∙◌, ◌⊎◌}
use Rattle.std.proofs.Common.{inl, inr}
use Rattle.std.proofs.Common.{append_assoc}
use Rattle.std.specs.Prelude.{◌==◌, ◌&&◌, ◌||◌, not, codes}
use Rattle.std.specs.Char.{is_ascii_digit}
use Rattle.std.proofs.lemmas.Bool.{false≢true, eqb-true, and_parts}
use Rattle.std.proofs.lemmas.List.{append-nil}
use Rattle.gtd_phrases.specs.Grammar.{Group}
use Rattle.gtd_phrases.specs.Grammar.{AfterEndHour, AfterEnd, AfterEndDay, IsEndLine, IsIn, IsLine, each, ends_alone}
use Rattle.gtd_phrases.specs.Grammar.{members, next}
use Rattle.gtd_phrases.specs.declared.phrase.Phrase.TheVariants.{UntilDate, UntilWeekday}
use Rattle.gtd_languages.specs.Forms.{form_of}
use Rattle.gtd_phrases.specs.Pieces.{after, before, figures_of, number_text, phrase_text, text}
use Rattle.gtd_phrases.specs.Ranges.{IsWritten}
use Rattle.gtd_phrases.proofs.PhraseTerms.{Figures, Form, Zero, One, EndsInOne, EndsInTwo, EndsInThree, Other}
use Rattle.gtd_phrases.proofs.PhraseTerms.{Language, Phrase, Piece}
use Rattle.gtd_phrases.specs.declared.phrase.Language.TheVariants.{English, German, French}
use Rattle.gtd_phrases.proofs.Numbers.{AreDigits}
use Rattle.gtd_phrases.proofs.Reading.{digits_of, no_number, one_after, text_is}
use Rattle.gtd_phrases.proofs.Skeletons.{Byte, apart, bytes, clash, no_way}
use Rattle.gtd_phrases.proofs.Tables.{afters_of, is_counted}

-- ---- texts without a mark

-- A mark is a first byte and others.
abbrev Mark : Type 0
Mark = ℕ × List ℕ

abbrev mark_text : Mark → List ℕ
mark_text m = m.0 ∷ m.1

abbrev unmarked : List Mark → List ℕ → Bool
unmarked [] x = true
unmarked (m ∷ ms) x = apart (bytes (mark_text m)) (bytes x) && unmarked ms x

abbrev free : List Mark → List ℕ → Bool
free ms [] = true
free ms (c ∷ x) = unmarked ms (c ∷ x) && free ms x

abbrev no_digits_first : List Mark → Bool
no_digits_first [] = true
no_digits_first (m ∷ ms) = not (is_ascii_digit m.0) && no_digits_first ms

apart-more : (m x y : List ℕ) → apart (bytes m) (bytes x) ≡ true → apart (bytes m) (bytes (x ++ y)) ≡ true
apart-more [] x y h = absurd (false≢true h)
apart-more (a ∷ m) [] y h = absurd (false≢true h)
apart-more (a ∷ m) (c ∷ x) y h = by_clash (clash (Byte a) (Byte c)) h (λ k. apart-more m x y k)
  where
    by_clash : (b : Bool) → elim b as (λ c. Bool) [ true ↦ true | false ↦ apart (bytes m) (bytes x) ] ≡ true
        → (apart (bytes m) (bytes x) ≡ true → apart (bytes m) (bytes (x ++ y)) ≡ true)
        → elim b as (λ c. Bool) [ true ↦ true | false ↦ apart (bytes m) (bytes (x ++ y)) ] ≡ true
    by_clash true h more = refl
    by_clash false h more = more h

both_hold : (a b : Bool) → a ≡ true → b ≡ true → (a && b) ≡ true
both_hold true b p q = q
both_hold false b p q = p

unmarked-more : (ms : List Mark) (x y : List ℕ) → unmarked ms x ≡ true → unmarked ms (x ++ y) ≡ true
unmarked-more [] x y h = refl
unmarked-more (m ∷ ms) x y h =
    let parts = and_parts (apart (bytes (mark_text m)) (bytes x)) (unmarked ms x) h in
    both_hold (apart (bytes (mark_text m)) (bytes (x ++ y))) (unmarked ms (x ++ y)) (apart-more (mark_text m) x y parts.0)
    (unmarked-more ms x y parts.1)

free-append : (ms : List Mark) (x y : List ℕ) → free ms x ≡ true → free ms y ≡ true → free ms (x ++ y) ≡ true
free-append ms [] y h k = k
free-append ms (c ∷ x) y h k =
    let parts = and_parts (unmarked ms (c ∷ x)) (free ms x) h in
    both_hold (unmarked ms (c ∷ (x ++ y))) (free ms (x ++ y)) (unmarked-more ms (c ∷ x) y parts.0)
    (free-append ms x y parts.1 k)

not_both : (b : Bool) → not b ≡ true → b ≡ true → ⊥
not_both true p q = false≢true p
not_both false p q = false≢true q

digit_apart : (a c : ℕ) (m x : List ℕ) → not (is_ascii_digit a) ≡ true → is_ascii_digit c ≡ true
    → apart (bytes (a ∷ m)) (bytes (c ∷ x)) ≡ true
digit_apart a c m x h d = by_test (a == c) refl
  where
    by_test : (b : Bool) → (a == c) ≡ b
        → elim (not b) as (λ c. Bool) [ true ↦ true | false ↦ apart (bytes m) (bytes x) ] ≡ true
    by_test false e = refl
    by_test true e =
        absurd (not_both (is_ascii_digit a) h (ap (λ (n : ℕ). is_ascii_digit n) (eqb-true a c e) ∙ d))

digit_unmarked : (ms : List Mark) (c : ℕ) (x : List ℕ) → no_digits_first ms ≡ true → is_ascii_digit c ≡ true
    → unmarked ms (c ∷ x) ≡ true
digit_unmarked [] c x h d = refl
digit_unmarked (m ∷ ms) c x h d =
    let parts = and_parts (not (is_ascii_digit m.0)) (no_digits_first ms) h in
    both_hold (apart (bytes (mark_text m)) (bytes (c ∷ x))) (unmarked ms (c ∷ x)) (digit_apart m.0 c m.1 x parts.0 d)
    (digit_unmarked ms c x parts.1 d)

free-digits : (ms : List Mark) (ds : List ℕ) → no_digits_first ms ≡ true → AreDigits ds → free ms ds ≡ true
free-digits ms [] h d = refl
free-digits ms (c ∷ ds) h d =
    both_hold (unmarked ms (c ∷ ds)) (free ms ds) (digit_unmarked ms c ds h d.0) (free-digits ms ds h d.1)

-- ---- a mark is found nowhere in such a text

abbrev IsMark : Mark → List Mark → Type 0
IsMark m [] = ⊥
IsMark m (n ∷ ns) = (m ≡ n) ⊎ IsMark m ns

mark_apart : (m : Mark) (ms : List Mark) (x : List ℕ) → IsMark m ms → unmarked ms x ≡ true
    → apart (bytes (mark_text m)) (bytes x) ≡ true
mark_apart m [] x i h = absurd i
mark_apart m (n ∷ ns) x (inl same) h =
    ap (λ (k : Mark). apart (bytes (mark_text k)) (bytes x)) same
    ∙ (and_parts (apart (bytes (mark_text n)) (bytes x)) (unmarked ns x) h).0
mark_apart m (n ∷ ns) x (inr i) h =
    mark_apart m ns x i (and_parts (apart (bytes (mark_text n)) (bytes x)) (unmarked ns x) h).1

no_mark : (m : Mark) (ms : List Mark) (x y r : List ℕ) → IsMark m ms → free ms x ≡ true → x ≡ y ++ (mark_text m ++ r) → ⊥
no_mark m ms [] [] r i h e = absurd cc
no_mark m ms [] (d ∷ y) r i h e = absurd cc
no_mark m ms (c ∷ x) [] r i h e =
    no_way (mark_text m) (c ∷ x) r []
    (mark_apart m ms (c ∷ x) i (and_parts (unmarked ms (c ∷ x)) (free ms x) h).0)
    (sym e ∙ sym (append-nil (c ∷ x)))
no_mark m ms (c ∷ x) (d ∷ y) r i h e =
    no_mark m ms x y r i (and_parts (unmarked ms (c ∷ x)) (free ms x) h).1
    (ap (λ (l : List ℕ). elim l as (λ l. List ℕ) [ [] ↦ [] | (a ∷ l) ↦ l ]) e)

-- ---- what is tried of a table

-- the first byte of the words before an end, and the others
abbrev marks_of : Language → List Mark
marks_of English = (117, codes "ntil ") ∷ []
marks_of German = (98, codes "is ") ∷ []
marks_of French = (106, codes "usqu'") ∷ []

abbrev all_free : List Mark → List (List ℕ) → Bool
all_free ms [] = true
all_free ms (x ∷ xs) = free ms x && all_free ms xs

abbrev free_phrase : Language → Phrase → Bool
free_phrase l p = free (marks_of l) (before l p) && all_free (marks_of l) (afters_of l p)

abbrev free_phrases : Language → List Phrase → Bool
free_phrases l [] = true
free_phrases l (p ∷ ps) = free_phrase l p && free_phrases l ps

abbrev starts : List ℕ → List ℕ → Bool
starts [] x = true
starts (a ∷ m) [] = false
starts (a ∷ m) (c ∷ x) = (a == c) && starts m x

abbrev any_starts : List Mark → List ℕ → Bool
any_starts [] x = false
any_starts (m ∷ ms) x = starts (mark_text m) x || any_starts ms x

abbrev after_first : List ℕ → List ℕ
after_first [] = []
after_first (c ∷ x) = x

-- The words of an end begin with a mark, and have none after their first byte.
abbrev marked_phrase : Language → Phrase → Bool
marked_phrase l p =
    any_starts (marks_of l) (before l p)
    && (free (marks_of l) (after_first (before l p)) && all_free (marks_of l) (afters_of l p))

abbrev marked_phrases : Language → List Phrase → Bool
marked_phrases l [] = true
marked_phrases l (p ∷ ps) = marked_phrase l p && marked_phrases l ps

abbrev pub is_marked : Language → Bool
is_marked l =
    no_digits_first (marks_of l) && (marked_phrases l ends_alone && (free_phrases l (members AfterEndHour)
    && (free_phrases l (members AfterEnd) && free_phrases l (members AfterEndDay))))

-- ---- what follows the first phrase of an end

-- the places of an end
abbrev IsEndPlace : Group → Type 0
IsEndPlace AfterEndHour = Unit {0}
IsEndPlace AfterEnd = Unit {0}
IsEndPlace AfterEndDay = Unit {0}
IsEndPlace other = ⊥

free_after : (l : Language) (p : Phrase) (f : Form) → all_free (marks_of l) (afters_of l p) ≡ true
    → free (marks_of l) (after l p f) ≡ true
free_after l p f h =
    let ms = marks_of l in
    let a = and_parts (free ms (after l p Zero)) _ h in
    let b = and_parts (free ms (after l p One)) _ a.1 in
    let c = and_parts (free ms (after l p EndsInOne)) _ b.1 in
    let d = and_parts (free ms (after l p EndsInTwo)) _ c.1 in
    let e = and_parts (free ms (after l p EndsInThree)) _ d.1 in
    let g = and_parts (free ms (after l p Other)) true e.1 in
    one_after (λ x. free ms x ≡ true) l p f a.0 b.0 c.0 d.0 e.0 g.0

free_number : (l : Language) (f : Figures) (n : ℕ) (b : Bool) → is_counted f ≡ b → no_digits_first (marks_of l) ≡ true
    → IsWritten f n → free (marks_of l) (number_text f n) ≡ true
free_number l f n true e h k = free-digits (marks_of l) (number_text f n) h (digits_of f n k e)
free_number l f n false e h k = ap (λ (x : List ℕ). free (marks_of l) x) (no_number f n e)

free_in : (l : Language) (p : Phrase) (ps : List Phrase) → free_phrases l ps ≡ true → IsIn p ps → free_phrase l p ≡ true
free_in l p [] h i = absurd i
free_in l p (q ∷ ps) h (inl same) =
    ap (λ (x : Phrase). free_phrase l x) same ∙ (and_parts (free_phrase l q) (free_phrases l ps) h).0
free_in l p (q ∷ ps) h (inr i) = free_in l p ps (and_parts (free_phrase l q) (free_phrases l ps) h).1 i

free_text : (l : Language) (p : Phrase) (n : ℕ) → no_digits_first (marks_of l) ≡ true → IsWritten (figures_of p) n
    → free_phrase l p ≡ true → free (marks_of l) (phrase_text l p n) ≡ true
unfolding phrase_text
free_text l p n d k h =
    let parts = and_parts (free (marks_of l) (before l p)) (all_free (marks_of l) (afters_of l p)) h in
    free-append (marks_of l) (before l p ++ number_text (figures_of p) n) (after l p (form_of n))
    (free-append (marks_of l) (before l p) (number_text (figures_of p) n) parts.0
    (free_number l (figures_of p) n (is_counted (figures_of p)) refl d k))
    (free_after l p (form_of n) parts.1)

-- the phrases of an end lead to places of an end
end_next : (g : Group) (p : Phrase) → IsEndPlace g → IsIn p (members g) → IsEndPlace (next p)
end_next AfterEndHour p e (inl same) = subst (λ (x : Phrase). IsEndPlace (next x)) (sym same) tt
end_next AfterEndHour p e (inr i) = absurd i
end_next AfterEnd p e (inl same) = subst (λ (x : Phrase). IsEndPlace (next x)) (sym same) tt
end_next AfterEnd p e (inr (inl same)) = subst (λ (x : Phrase). IsEndPlace (next x)) (sym same) tt
end_next AfterEnd p e (inr (inr (inl same))) = subst (λ (x : Phrase). IsEndPlace (next x)) (sym same) tt
end_next AfterEnd p e (inr (inr (inr i))) = absurd i
end_next AfterEndDay p e (inl same) = subst (λ (x : Phrase). IsEndPlace (next x)) (sym same) tt
end_next AfterEndDay p e (inr (inl same)) = subst (λ (x : Phrase). IsEndPlace (next x)) (sym same) tt
end_next AfterEndDay p e (inr (inr i)) = absurd i
end_next other p e i = absurd e

record Parts (l : Language) : Type 0 where
  digits : no_digits_first (marks_of l) ≡ true
  ends : marked_phrases l ends_alone ≡ true
  hours : free_phrases l (members AfterEndHour) ≡ true
  after : free_phrases l (members AfterEnd) ≡ true
  days : free_phrases l (members AfterEndDay) ≡ true

parts_of : (l : Language) → is_marked l ≡ true → Parts l
parts_of l good =
    let a = and_parts (no_digits_first (marks_of l)) _ good in
    let b = and_parts (marked_phrases l ends_alone) _ a.1 in
    let c = and_parts (free_phrases l (members AfterEndHour)) _ b.1 in
    let d = and_parts (free_phrases l (members AfterEnd)) (free_phrases l (members AfterEndDay)) c.1 in
    record { digits = a.0; ends = b.0; hours = c.0; after = d.0; days = d.1 }

free_place : (l : Language) (g : Group) (p : Phrase) → Parts l → IsEndPlace g → IsIn p (members g)
    → free_phrase l p ≡ true
free_place l AfterEndHour p good e i = free_in l p (members AfterEndHour) good.hours i
free_place l AfterEnd p good e i = free_in l p (members AfterEnd) good.after i
free_place l AfterEndDay p good e i = free_in l p (members AfterEndDay) good.days i
free_place l g p good e i = absurd e

free_line : (l : Language) (g : Group) (P : List Piece) → Parts l → IsEndPlace g → IsLine g P
    → free (marks_of l) (text l P) ≡ true
free_line l g [] good e h = refl
free_line l g (p ∷ P) good e h =
    free-append (marks_of l) (phrase_text l p.phrase p.number) (text l P)
    (free_text l p.phrase p.number good.digits h.1 (free_place l g p.phrase good e h.0))
    (free_line l (next p.phrase) P good (end_next g p.phrase e h.0) h.2)

-- ---- ends

ends_next : (p : Phrase) → IsIn p ends_alone → IsEndPlace (next p)
ends_next p (inl same) = subst (λ (x : Phrase). IsEndPlace (next x)) (sym same) tt
ends_next p (inr (inl same)) = subst (λ (x : Phrase). IsEndPlace (next x)) (sym same) tt
ends_next p (inr (inr i)) = each_weekday 1 7 i
  where
    each_date : (n count : ℕ) → IsIn p (each (UntilDate false) n count) → IsEndPlace (next p)
    each_date n zero i = absurd i
    each_date n (suc count) (inl same) = subst (λ (x : Phrase). IsEndPlace (next x)) (sym same) tt
    each_date n (suc count) (inr i) = each_date (suc n) count i

    each_weekday : (n count : ℕ) → IsIn p (each (UntilWeekday false) n count ++ each (UntilDate false) 1 12)
        → IsEndPlace (next p)
    each_weekday n zero i = each_date 1 12 i
    each_weekday n (suc count) (inl same) = subst (λ (x : Phrase). IsEndPlace (next x)) (sym same) tt
    each_weekday n (suc count) (inr i) = each_weekday (suc n) count i

marked_in : (l : Language) (p : Phrase) (ps : List Phrase) → marked_phrases l ps ≡ true → IsIn p ps
    → marked_phrase l p ≡ true
marked_in l p [] h i = absurd i
marked_in l p (q ∷ ps) h (inl same) =
    ap (λ (x : Phrase). marked_phrase l x) same ∙ (and_parts (marked_phrase l q) (marked_phrases l ps) h).0
marked_in l p (q ∷ ps) h (inr i) = marked_in l p ps (and_parts (marked_phrase l q) (marked_phrases l ps) h).1 i

-- a text that begins with a mark
record Begun (l : Language) (x : List ℕ) : Type 0 where
  mark : Mark
  rest : List ℕ
  is_mark : IsMark mark (marks_of l)
  whole : x ≡ mark_text mark ++ rest

starts_so : (m x : List ℕ) → starts m x ≡ true → (r : List ℕ) × (x ≡ m ++ r)
starts_so [] x h = (x, refl)
starts_so (a ∷ m) [] h = absurd (false≢true h)
starts_so (a ∷ m) (c ∷ x) h =
    let parts = and_parts (a == c) (starts m x) h in
    let more = starts_so m x parts.1 in
    (more.0, ap (λ (n : ℕ). n ∷ x) (sym (eqb-true a c parts.0)) ∙ ap (λ (l : List ℕ). a ∷ l) more.1)

any_so : (ms : List Mark) (x : List ℕ) → any_starts ms x ≡ true → (m : Mark) × IsMark m ms ×
    ((r : List ℕ) × (x ≡ mark_text m ++ r))
any_so [] x h = absurd (false≢true h)
any_so (m ∷ ms) x h = by_test (starts (mark_text m) x) refl h (λ k. any_so ms x k)
  where
    by_test : (b : Bool) → starts (mark_text m) x ≡ b → (b || any_starts ms x) ≡ true
        → (any_starts ms x ≡ true → (k : Mark) × IsMark k ms × ((r : List ℕ) × (x ≡ mark_text k ++ r)))
        → (k : Mark) × IsMark k (m ∷ ms) × ((r : List ℕ) × (x ≡ mark_text k ++ r))
    by_test true e h more = (m, inl refl, starts_so (mark_text m) x e)
    by_test false e h more = let found = more h in (found.0, inr found.1, found.2)

begun : (l : Language) (P : List Piece) → Parts l → IsEndLine P → Begun l (text l P)
unfolding phrase_text
begun l [] good h = absurd h
begun l (p ∷ P) good h =
    let marked = marked_in l p.phrase ends_alone good.ends h.0 in
    let found = any_so (marks_of l) (before l p.phrase) (and_parts (any_starts (marks_of l) (before l p.phrase)) _ marked).0 in
    record {
      mark = found.0;
      rest = found.2.0 ++ (number_text (figures_of p.phrase) p.number ++ (after l p.phrase (form_of p.number) ++ text l P));
      is_mark = found.1;
      whole = text_is l p.phrase p.number (text l P)
          ∙ ap (λ (x : List ℕ). x ++ (number_text (figures_of p.phrase) p.number ++ (after l p.phrase (form_of p.number)
          ++ text l P))) found.2.1
          ∙ append_assoc (mark_text found.0) found.2.0 _;
    }

no_start : (ms : List Mark) → any_starts ms [] ≡ true → ⊥
no_start [] h = false≢true h
no_start (m ∷ ms) h = no_start ms h

-- the text after its first byte
tail_free : (l : Language) (P : List Piece) (c : ℕ) (x : List ℕ) → Parts l → IsEndLine P → text l P ≡ c ∷ x
    → free (marks_of l) x ≡ true
tail_free l [] c x good h e = absurd h
tail_free l (p ∷ P) c x good h e =
    by_words (before l p.phrase) marked (sym (text_is l p.phrase p.number (text l P)) ∙ e)
  where
    rest : List ℕ
    rest = number_text (figures_of p.phrase) p.number ++ (after l p.phrase (form_of p.number) ++ text l P)

    marked : (any_starts (marks_of l) (before l p.phrase)
        && (free (marks_of l) (after_first (before l p.phrase)) && all_free (marks_of l) (afters_of l p.phrase))) ≡ true
    marked = marked_in l p.phrase ends_alone good.ends h.0

    rest_free : all_free (marks_of l) (afters_of l p.phrase) ≡ true → free (marks_of l) rest ≡ true
    rest_free k =
        free-append (marks_of l) (number_text (figures_of p.phrase) p.number) _
        (free_number l (figures_of p.phrase) p.number (is_counted (figures_of p.phrase)) refl good.digits h.1)
        (free-append (marks_of l) (after l p.phrase (form_of p.number)) (text l P)
        (free_after l p.phrase (form_of p.number) k)
        (free_line l (next p.phrase) P good (ends_next p.phrase h.0) h.2))

    by_words : (w : List ℕ) → (any_starts (marks_of l) w
        && (free (marks_of l) (after_first w) && all_free (marks_of l) (afters_of l p.phrase))) ≡ true
        → w ++ rest ≡ c ∷ x → free (marks_of l) x ≡ true
    by_words [] m e = absurd (no_start (marks_of l) (and_parts (any_starts (marks_of l) []) _ m).0)
    by_words (b ∷ w) m e =
        let parts = and_parts (free (marks_of l) w) (all_free (marks_of l) (afters_of l p.phrase))
        (and_parts (any_starts (marks_of l) (b ∷ w)) _ m).1 in
        ap (λ (z : List ℕ). free (marks_of l) (after_first z)) (sym e)
        ∙ free-append (marks_of l) w rest parts.0 (rest_free parts.1)

not_inside : (l : Language) (a b : List Piece) (c : ℕ) (y : List ℕ) → Parts l → IsEndLine a → IsEndLine b
    → text l a ≡ c ∷ (y ++ text l b) → ⊥
not_inside l a b c y good h k e =
    let begin = begun l b good k in
    no_mark begin.mark (marks_of l) (y ++ text l b) y begin.rest begin.is_mark
    (tail_free l a c (y ++ text l b) good h e) (ap (λ (z : List ℕ). y ++ z) begin.whole)

close_once : (l : Language) → Parts l → (a b : List Piece) (x y : List ℕ) → IsEndLine a → IsEndLine b
    → x ++ text l a ≡ y ++ text l b → text l a ≡ text l b
close_once l good a b [] [] h k e = e
close_once l good a b [] (c ∷ y) h k e = absurd (not_inside l a b c y good h k e)
close_once l good a b (c ∷ x) [] h k e = absurd (not_inside l b a c x good k h (sym e))
close_once l good a b (c ∷ x) (d ∷ y) h k e =
    close_once l good a b x y h k (ap (λ (z : List ℕ). after_first z) e)

pub one_end : (l : Language) → is_marked l ≡ true → (a b : List Piece) (x y : List ℕ) → IsEndLine a → IsEndLine b
    → x ++ text l a ≡ y ++ text l b → text l a ≡ text l b
one_end l good a b x y h k e = close_once l (parts_of l good) a b x y h k e
