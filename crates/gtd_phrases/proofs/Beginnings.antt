-- How lines begin: operators differ from one another and from all days, and no line begins with a space.
use Rattle.std.proofs.Common.{◌≡◌, ◌≢◌, ℕ, Bool, true, false, List, [], ◌∷◌, ◌++◌, refl, sym, ap, subst, ◌∙◌, inl}
use Rattle.std.proofs.Common.{inr}
use Rattle.std.specs.Prelude.{◌==◌, ◌&&◌, not}
use Rattle.std.specs.Char.{is_ascii_digit}
use Rattle.std.proofs.lemmas.Bool.{false≢true, and_parts, eq-eqb}
use Rattle.std.proofs.lemmas.List.{append_cancel_left, append-nil}
use Rattle.gtd_phrases.specs.Grammar.{BeginsALine, First, IsIn, IsOperator, members}
use Rattle.gtd_phrases.specs.Pieces.{figures_of, phrase_text}
use Rattle.gtd_phrases.specs.Ranges.{IsWritten}
use Rattle.gtd_phrases.specs.Tables.{word_in}
use Rattle.gtd_phrases.specs.declared.phrase.Language.{Language}
use Rattle.gtd_phrases.specs.declared.phrase.Phrase.{Phrase}
use Rattle.gtd_phrases.specs.declared.phrase.Piece.{Piece}
use Rattle.gtd_languages.specs.declared.word.Word.{Word}
use Rattle.gtd_languages.specs.declared.word.Word.TheVariants.{ExceptIn, OnlyIn, Or}
use Rattle.gtd_phrases.proofs.Numbers.{Both}
use Rattle.gtd_phrases.proofs.Reading.{head_fits}
use Rattle.gtd_phrases.proofs.Skeletons.{Byte, Digit, Fits, Is, Sym, apart, bytes, clash, fits-after, no_fit, no_way}
use Rattle.gtd_phrases.proofs.Tables.{head_of}

-- ---- what is tried of a table

abbrev operator : Language → Word → List Sym
operator l w = bytes (word_in l w)

abbrev begins_well : List Sym → Bool
begins_well s = apart (Byte 32 ∷ []) s

abbrev day_begins : Language → Phrase → Bool
day_begins l p =
    begins_well (head_of l p) && (apart (head_of l p) (operator l Or) && (apart (head_of l p) (operator l OnlyIn)
    && apart (head_of l p) (operator l ExceptIn)))

abbrev days_begin : Language → List Phrase → Bool
days_begin l [] = true
days_begin l (p ∷ ps) = day_begins l p && days_begin l ps

abbrev pub is_begun : Language → Bool
is_begun l =
    days_begin l (members First) && (begins_well (operator l Or) && (begins_well (operator l OnlyIn)
    && (begins_well (operator l ExceptIn) && (apart (operator l Or) (operator l OnlyIn)
    && (apart (operator l Or) (operator l ExceptIn) && apart (operator l OnlyIn) (operator l ExceptIn))))))

record Parts (l : Language) : Type 0 where
  days : days_begin l (members First) ≡ true
  or : begins_well (operator l Or) ≡ true
  only : begins_well (operator l OnlyIn) ≡ true
  except : begins_well (operator l ExceptIn) ≡ true
  or_only : apart (operator l Or) (operator l OnlyIn) ≡ true
  or_except : apart (operator l Or) (operator l ExceptIn) ≡ true
  only_except : apart (operator l OnlyIn) (operator l ExceptIn) ≡ true

parts_of : (l : Language) → is_begun l ≡ true → Parts l
parts_of l h =
    let a = and_parts (days_begin l (members First)) _ h in
    let b = and_parts (begins_well (operator l Or)) _ a.1 in
    let c = and_parts (begins_well (operator l OnlyIn)) _ b.1 in
    let d = and_parts (begins_well (operator l ExceptIn)) _ c.1 in
    let e = and_parts (apart (operator l Or) (operator l OnlyIn)) _ d.1 in
    let f = and_parts (apart (operator l Or) (operator l ExceptIn)) (apart (operator l OnlyIn) (operator l ExceptIn)) e.1 in
    record { days = a.0; or = b.0; only = c.0; except = d.0; or_only = e.0; or_except = f.0; only_except = f.1 }

day_in : (l : Language) (p : Phrase) (ps : List Phrase) → days_begin l ps ≡ true → IsIn p ps → day_begins l p ≡ true
day_in l p [] h i = absurd i
day_in l p (q ∷ ps) h (inl same) =
    ap (λ (x : Phrase). day_begins l x) same ∙ (and_parts (day_begins l q) (days_begin l ps) h).0
day_in l p (q ∷ ps) h (inr i) = day_in l p ps (and_parts (day_begins l q) (days_begin l ps) h).1 i

-- ---- the first byte

other_byte : (a : Sym) (c : ℕ) → clash (Byte 32) a ≡ true → Is a c → c ≢ 32
other_byte (Byte a) c h is e = not_both (32 == a) h (eq-eqb 32 a (sym e ∙ is))
  where
    not_both : (b : Bool) → not b ≡ true → b ≡ true → ⊥
    not_both true p q = false≢true p
    not_both false p q = false≢true q
other_byte Digit c h is e = false≢true (ap (λ (n : ℕ). is_ascii_digit n) (sym e) ∙ is)

begins : (s : List Sym) (t : List ℕ) → begins_well s ≡ true → Fits s t → BeginsALine t
begins [] t h f = absurd (false≢true h)
begins (a ∷ s) [] h f = absurd f
begins (a ∷ s) (c ∷ t) h f = (c, t, refl, other_byte a c (by_clash (clash (Byte 32) a) h) f.0)
  where
    by_clash : (b : Bool) → elim b as (λ c. Bool) [ true ↦ true | false ↦ false ] ≡ true → b ≡ true
    by_clash true h = refl
    by_clash false h = h

pub day_first : (l : Language) → is_begun l ≡ true → (p : Piece) (r : List ℕ) → IsIn p.phrase (members First)
    → IsWritten (figures_of p.phrase) p.number → BeginsALine (phrase_text l p.phrase p.number ++ r)
day_first l good p r i h =
    begins (head_of l p.phrase) (phrase_text l p.phrase p.number ++ r)
    (and_parts (begins_well (head_of l p.phrase)) _ (day_in l p.phrase (members First) (parts_of l good).days i)).0
    (head_fits l p.phrase p.number r h)

word_fits : (l : Language) (w : Word) (r : List ℕ) → Fits (operator l w) (word_in l w ++ r)
word_fits l w r =
    subst (λ (s : List Sym). Fits s (word_in l w ++ r)) (nil (word_in l w)) (fits-after (word_in l w) [] r tt)
  where
    nil : (x : List ℕ) → bytes x ++ [] ≡ bytes x
    nil x = append-nil (bytes x)

pub operator_first : (l : Language) → is_begun l ≡ true → (w : Word) (r : List ℕ) → IsOperator w → BeginsALine
    (word_in l w ++ r)
operator_first l good Or r h = begins (operator l Or) (word_in l Or ++ r) (parts_of l good).or (word_fits l Or r)
operator_first l good OnlyIn r h =
    begins (operator l OnlyIn) (word_in l OnlyIn ++ r) (parts_of l good).only (word_fits l OnlyIn r)
operator_first l good ExceptIn r h =
    begins (operator l ExceptIn) (word_in l ExceptIn ++ r) (parts_of l good).except (word_fits l ExceptIn r)
operator_first l good w r h = absurd h

-- ---- operators

pub no_operator : (l : Language) → is_begun l ≡ true → (p : Piece) (w : Word) (r s : List ℕ) → IsIn p.phrase (members First)
    → IsWritten (figures_of p.phrase) p.number → IsOperator w → phrase_text l p.phrase p.number ++ r ≡ word_in l w ++ s → ⊥
no_operator l good p w r s i h o e =
    let t = and_parts (begins_well (head_of l p.phrase)) _ (day_in l p.phrase (members First) (parts_of l good).days i) in
    let a = and_parts (apart (head_of l p.phrase) (operator l Or)) _ t.1 in
    let b = and_parts (apart (head_of l p.phrase) (operator l OnlyIn)) (apart (head_of l p.phrase) (operator l ExceptIn)) a.1 in
    by_word w o e a.0 b.0 b.1
  where
    no_word : (w : Word) → phrase_text l p.phrase p.number ++ r ≡ word_in l w ++ s
        → apart (head_of l p.phrase) (operator l w) ≡ true → ⊥
    no_word w e t =
        no_fit (head_of l p.phrase) (operator l w) (word_in l w ++ s) t
        (subst (λ (x : List ℕ). Fits (head_of l p.phrase) x) e (head_fits l p.phrase p.number r h)) (word_fits l w s)

    by_word : (w : Word) → IsOperator w → phrase_text l p.phrase p.number ++ r ≡ word_in l w ++ s
        → apart (head_of l p.phrase) (operator l Or) ≡ true → apart (head_of l p.phrase) (operator l OnlyIn) ≡ true
        → apart (head_of l p.phrase) (operator l ExceptIn) ≡ true → ⊥
    by_word Or o e a b c = no_word Or e a
    by_word OnlyIn o e a b c = no_word OnlyIn e b
    by_word ExceptIn o e a b c = no_word ExceptIn e c
    by_word w o e a b c = absurd o

abbrev Same : Language → List ℕ → List ℕ → Word → Word → Type 0
Same l r s v w = word_in l v ++ r ≡ word_in l w ++ s → Both v w r s

from_or : (l : Language) → Parts l → (w : Word) (r s : List ℕ) → IsOperator w → Same l r s Or w
from_or l good Or r s k e = (refl, append_cancel_left (word_in l Or) r s e)
from_or l good OnlyIn r s k e = absurd (no_way (word_in l Or) (word_in l OnlyIn) r s good.or_only e)
from_or l good ExceptIn r s k e = absurd (no_way (word_in l Or) (word_in l ExceptIn) r s good.or_except e)
from_or l good w r s k e = absurd k

from_only : (l : Language) → Parts l → (w : Word) (r s : List ℕ) → IsOperator w → Same l r s OnlyIn w
from_only l good Or r s k e = absurd (no_way (word_in l Or) (word_in l OnlyIn) s r good.or_only (sym e))
from_only l good OnlyIn r s k e = (refl, append_cancel_left (word_in l OnlyIn) r s e)
from_only l good ExceptIn r s k e = absurd (no_way (word_in l OnlyIn) (word_in l ExceptIn) r s good.only_except e)
from_only l good w r s k e = absurd k

from_except : (l : Language) → Parts l → (w : Word) (r s : List ℕ) → IsOperator w → Same l r s ExceptIn w
from_except l good Or r s k e = absurd (no_way (word_in l Or) (word_in l ExceptIn) s r good.or_except (sym e))
from_except l good OnlyIn r s k e =
    absurd (no_way (word_in l OnlyIn) (word_in l ExceptIn) s r good.only_except (sym e))
from_except l good ExceptIn r s k e = (refl, append_cancel_left (word_in l ExceptIn) r s e)
from_except l good w r s k e = absurd k

pub same_operator : (l : Language) → is_begun l ≡ true → (v w : Word) (r s : List ℕ) → IsOperator v → IsOperator w
    → word_in l v ++ r ≡ word_in l w ++ s → Both v w r s
same_operator l good Or w r s h k e = from_or l (parts_of l good) w r s k e
same_operator l good OnlyIn w r s h k e = from_only l (parts_of l good) w r s k e
same_operator l good ExceptIn w r s h k e = from_except l (parts_of l good) w r s k e
same_operator l good v w r s h k e = absurd h
