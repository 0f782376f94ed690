-- What closes a line without an end closes no end: read from their last bytes on, they differ.
use Rattle.std.proofs.Common.{◌≡◌, ℕ, Bool, true, false, List, [], ◌∷◌, ◌++◌, refl, sym, ap, subst, ◌∙◌, inl}
use Rattle.std.proofs.Common.{inr}
use Rattle.std.specs.Prelude.{◌&&◌}
use Rattle.std.proofs.lemmas.Bool.{false≢true, and_parts}
use Rattle.gtd_phrases.specs.Grammar.{IsIn, closers, end_closers}
use Rattle.gtd_languages.specs.Forms.{form_of}
use Rattle.gtd_phrases.specs.Pieces.{after, before, figures_of, number_text, phrase_text}
use Rattle.gtd_phrases.specs.Ranges.{IsWritten}
use Rattle.gtd_phrases.proofs.PhraseTerms.{Form, Zero, One, EndsInOne, EndsInTwo, EndsInThree, Other}
use Rattle.gtd_phrases.proofs.PhraseTerms.{Language, Phrase, Piece}
use Rattle.gtd_phrases.proofs.Numbers.{AreDigits}
use Rattle.gtd_phrases.proofs.Reading.{digits_of, empty_after, no_number, some_digits}
use Rattle.gtd_phrases.proofs.Skeletons.{Byte, Digit, Fits, Sym, apart, no_fit}
use Rattle.gtd_phrases.proofs.Tables.{afters_of, all_empty, is_counted}

-- ---- texts from their last byte on

abbrev back : List ℕ → List ℕ → List ℕ
back [] l = l
back (c ∷ x) l = back x (c ∷ l)

back-append : (x y l : List ℕ) → back (x ++ y) l ≡ back y (back x l)
back-append [] y l = refl
back-append (c ∷ x) y l = back-append x y (c ∷ l)

abbrev back_bytes : List ℕ → List Sym → List Sym
back_bytes [] s = s
back_bytes (c ∷ x) s = back_bytes x (Byte c ∷ s)

fits-back : (x : List ℕ) (s : List Sym) (l : List ℕ) → Fits s l → Fits (back_bytes x s) (back x l)
fits-back [] s l h = h
fits-back (c ∷ x) s l h = fits-back x (Byte c ∷ s) (c ∷ l) (refl, h)

digits-back : (ds l : List ℕ) → AreDigits ds → Fits (Digit ∷ []) l → Fits (Digit ∷ []) (back ds l)
digits-back [] l h f = f
digits-back (c ∷ ds) l h f = digits-back ds (c ∷ l) h.1 (h.0, tt)

some-back : (ds l : List ℕ) → AreDigits ds → (ds ≡ [] → ⊥) → Fits (Digit ∷ []) (back ds l)
some-back [] l h some = absurd (some refl)
some-back (c ∷ ds) l h some = digits-back ds (c ∷ l) h.1 (h.0, tt)

-- ---- what is tried of a table

abbrev close_by : Bool → List ℕ → List ℕ → List Sym
close_by true words after = back_bytes after (Digit ∷ [])
close_by false words after = back_bytes words []

abbrev close : Language → Phrase → Form → List Sym
close l p f = close_by (is_counted (figures_of p)) (before l p) (after l p f)

abbrev forms : List Form
forms = Zero ∷ One ∷ EndsInOne ∷ EndsInTwo ∷ EndsInThree ∷ Other ∷ []

abbrev closes : Language → Phrase → List Form → List (List Sym)
closes l p [] = []
closes l p (f ∷ fs) = close l p f ∷ closes l p fs

abbrev joined : List (List Sym) → List (List Sym) → List (List Sym)
joined [] ys = ys
joined (x ∷ xs) ys = x ∷ joined xs ys

abbrev all_closes : Language → List Phrase → List (List Sym)
all_closes l [] = []
all_closes l (p ∷ ps) = joined (closes l p forms) (all_closes l ps)

abbrev one_apart : List Sym → List (List Sym) → Bool
one_apart x [] = true
one_apart x (y ∷ ys) = apart x y && one_apart x ys

abbrev each_apart : List (List Sym) → List (List Sym) → Bool
each_apart [] ys = true
each_apart (x ∷ xs) ys = one_apart x ys && each_apart xs ys

abbrev all_alone_by : Bool → Bool → Bool
all_alone_by true b = true
all_alone_by false b = b

abbrev all_alone : Language → List Phrase → Bool
all_alone l [] = true
all_alone l (p ∷ ps) = all_alone_by (is_counted (figures_of p)) (all_empty (afters_of l p)) && all_alone l ps

abbrev pub is_closed : Language → Bool
is_closed l =
    (all_alone l closers && all_alone l end_closers) && each_apart (all_closes l closers) (all_closes l end_closers)

-- ---- how a text closes

close_fits : (l : Language) (p : Phrase) (n : ℕ) (x : List ℕ) (b : Bool) → is_counted (figures_of p) ≡ b
    → IsWritten (figures_of p) n → (b ≡ false → all_empty (afters_of l p) ≡ true)
    → Fits (close_by b (before l p) (after l p (form_of n))) (back (x ++ phrase_text l p n) [])
unfolding phrase_text
close_fits l p n x true e h alone =
    subst (λ (z : List ℕ). Fits (back_bytes (after l p (form_of n)) (Digit ∷ [])) z)
    (sym (back-append x (before l p ++ number_text (figures_of p) n ++ after l p (form_of n)) []
    ∙ back-append (before l p ++ number_text (figures_of p) n) (after l p (form_of n)) (back x [])
    ∙ ap (λ (z : List ℕ). back (after l p (form_of n)) z)
    (back-append (before l p) (number_text (figures_of p) n) (back x []))))
    (fits-back (after l p (form_of n)) (Digit ∷ []) (back (number_text (figures_of p) n) (back (before l p) (back x [])))
    (some-back (number_text (figures_of p) n) (back (before l p) (back x [])) (digits_of (figures_of p) n h e)
    (some_digits (figures_of p) n h e)))
close_fits l p n x false e h alone =
    subst (λ (z : List ℕ). Fits (back_bytes (before l p) []) z)
    (sym (back-append x (before l p ++ number_text (figures_of p) n ++ after l p (form_of n)) []
    ∙ back-append (before l p ++ number_text (figures_of p) n) (after l p (form_of n)) (back x [])
    ∙ ap (λ (z : List ℕ). back z (back (before l p ++ number_text (figures_of p) n) (back x [])))
    (empty_after l p (form_of n) (alone refl))
    ∙ back-append (before l p) (number_text (figures_of p) n) (back x [])
    ∙ ap (λ (z : List ℕ). back z (back (before l p) (back x []))) (no_number (figures_of p) n e)))
    (fits-back (before l p) [] (back x []) tt)

alone_in : (l : Language) (p : Phrase) (ps : List Phrase) → all_alone l ps ≡ true → IsIn p ps
    → is_counted (figures_of p) ≡ false → all_empty (afters_of l p) ≡ true
alone_in l p [] h i c = absurd i
alone_in l p (q ∷ ps) h (inl same) c =
    let parts = and_parts _ (all_alone l ps) h in
    subst (λ (z : Phrase). all_empty (afters_of l z) ≡ true) (sym same)
    (by_count (is_counted (figures_of q)) (all_empty (afters_of l q))
    (sym (ap (λ (z : Phrase). is_counted (figures_of z)) same) ∙ c) parts.0)
  where
    by_count : (b a : Bool) → b ≡ false → all_alone_by b a ≡ true → a ≡ true
    by_count true a e h = absurd (false≢true (sym e))
    by_count false a e h = h
alone_in l p (q ∷ ps) h (inr i) c = alone_in l p ps (and_parts _ (all_alone l ps) h).1 i c

-- ---- two that close

each_split : (xs ys zs : List (List Sym)) → each_apart (joined xs ys) zs ≡ true
    → (each_apart xs zs ≡ true) × (each_apart ys zs ≡ true)
each_split [] ys zs h = (refl, h)
each_split (x ∷ xs) ys zs h =
    let parts = and_parts (one_apart x zs) (each_apart (joined xs ys) zs) h in
    let rest = each_split xs ys zs parts.1 in
    (both (one_apart x zs) (each_apart xs zs) parts.0 rest.0, rest.1)
  where
    both : (a b : Bool) → a ≡ true → b ≡ true → (a && b) ≡ true
    both true b p q = q
    both false b p q = p

one_split : (x : List Sym) (ys zs : List (List Sym)) → one_apart x (joined ys zs) ≡ true
    → (one_apart x ys ≡ true) × (one_apart x zs ≡ true)
one_split x [] zs h = (refl, h)
one_split x (y ∷ ys) zs h =
    let parts = and_parts (apart x y) (one_apart x (joined ys zs)) h in
    let rest = one_split x ys zs parts.1 in
    (both (apart x y) (one_apart x ys) parts.0 rest.0, rest.1)
  where
    both : (a b : Bool) → a ≡ true → b ≡ true → (a && b) ≡ true
    both true b p q = q
    both false b p q = p

one_close : (P : List Sym → Bool) (l : Language) (p : Phrase) (f : Form) → P (close l p Zero) ≡ true
    → P (close l p One) ≡ true → P (close l p EndsInOne) ≡ true → P (close l p EndsInTwo) ≡ true
    → P (close l p EndsInThree) ≡ true → P (close l p Other) ≡ true → P (close l p f) ≡ true
one_close P l p Zero a b c d e f = a
one_close P l p One a b c d e f = b
one_close P l p EndsInOne a b c d e f = c
one_close P l p EndsInTwo a b c d e f = d
one_close P l p EndsInThree a b c d e f = e
one_close P l p Other a b c d e f = f

first_in : (l : Language) (p : Phrase) (ps : List Phrase) (f : Form) (zs : List (List Sym)) → IsIn p ps
    → each_apart (all_closes l ps) zs ≡ true → one_apart (close l p f) zs ≡ true
first_in l p [] f zs i h = absurd i
first_in l p (q ∷ ps) f zs (inr i) h =
    first_in l p ps f zs i (each_split (closes l q forms) (all_closes l ps) zs h).1
first_in l p (q ∷ ps) f zs (inl same) h =
    let t = (each_split (closes l q forms) (all_closes l ps) zs h).0 in
    let a = and_parts (one_apart (close l q Zero) zs) _ t in
    let b = and_parts (one_apart (close l q One) zs) _ a.1 in
    let c = and_parts (one_apart (close l q EndsInOne) zs) _ b.1 in
    let d = and_parts (one_apart (close l q EndsInTwo) zs) _ c.1 in
    let e = and_parts (one_apart (close l q EndsInThree) zs) _ d.1 in
    let g = and_parts (one_apart (close l q Other) zs) true e.1 in
    subst (λ (z : Phrase). one_apart (close l z f) zs ≡ true) (sym same)
    (one_close (λ s. one_apart s zs) l q f a.0 b.0 c.0 d.0 e.0 g.0)

second_in : (l : Language) (q : Phrase) (qs : List Phrase) (f : Form) (x : List Sym) → IsIn q qs
    → one_apart x (all_closes l qs) ≡ true → apart x (close l q f) ≡ true
second_in l q [] f x i h = absurd i
second_in l q (p ∷ qs) f x (inr i) h = second_in l q qs f x i (one_split x (closes l p forms) (all_closes l qs) h).1
second_in l q (p ∷ qs) f x (inl same) h =
    let t = (one_split x (closes l p forms) (all_closes l qs) h).0 in
    let a = and_parts (apart x (close l p Zero)) _ t in
    let b = and_parts (apart x (close l p One)) _ a.1 in
    let c = and_parts (apart x (close l p EndsInOne)) _ b.1 in
    let d = and_parts (apart x (close l p EndsInTwo)) _ c.1 in
    let e = and_parts (apart x (close l p EndsInThree)) _ d.1 in
    let g = and_parts (apart x (close l p Other)) true e.1 in
    subst (λ (z : Phrase). apart x (close l z f) ≡ true) (sym same)
    (one_close (λ s. apart x s) l p f a.0 b.0 c.0 d.0 e.0 g.0)

pub no_closer : (l : Language) → is_closed l ≡ true → (p q : Piece) (x y : List ℕ) → IsIn p.phrase closers
    → IsIn q.phrase end_closers → IsWritten (figures_of p.phrase) p.number → IsWritten (figures_of q.phrase) q.number
    → x ++ phrase_text l p.phrase p.number ≡ y ++ phrase_text l q.phrase q.number → ⊥
no_closer l good p q x y i j h k e =
    let parts = and_parts (all_alone l closers && all_alone l end_closers) _ good in
    let alone = and_parts (all_alone l closers) (all_alone l end_closers) parts.0 in
    no_fit (close l p.phrase (form_of p.number)) (close l q.phrase (form_of q.number))
    (back (y ++ phrase_text l q.phrase q.number) [])
    (second_in l q.phrase end_closers (form_of q.number) (close l p.phrase (form_of p.number)) j
    (first_in l p.phrase closers (form_of p.number) (all_closes l end_closers) i parts.1))
    (subst (λ (z : List ℕ). Fits (close l p.phrase (form_of p.number)) (back z [])) e
    (close_fits l p.phrase p.number x (is_counted (figures_of p.phrase)) refl h (alone_in l p.phrase closers alone.0 i)))
    (close_fits l q.phrase q.number y (is_counted (figures_of q.phrase)) refl k (alone_in l q.phrase end_closers alone.1 j))
