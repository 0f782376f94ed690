-- Two expressions with the same words are the same expression: the text gives its lines, and the lines give the tree.
use Rattle.std.proofs.Common.{◌≡◌, ◌≢◌, ℕ, zero, suc, ◌≤◌, Bool, true, false, List, [], ◌∷◌, ◌++◌, Option}
use Rattle.std.proofs.Common.{Some, None, refl, sym, ap, subst, ◌∙◌, arith, append_assoc}
use Rattle.std.specs.Prelude.{◌==◌, ◌||◌, codes}
use Rattle.std.proofs.lemmas.Bool.{false≢true}
use Rattle.std.proofs.lemmas.List.{append_cancel_left, append-nil}
use Rattle.gtd_core.specs.declared.start.StartParts.{StartParts}
use Rattle.gtd_core.specs.declared.duration.DurationParts.{DurationParts}
use Rattle.gtd_core.specs.declared.domain.Op.{Op}
use Rattle.gtd_core.specs.declared.domain.Op.TheVariants.{Union, Meet, Minus}
use Rattle.gtd_core.specs.Ranges.{IsStart, IsDuration}
use Rattle.gtd_core.specs.Trees.{Tree, Single, Joined, AreValid}
use Rattle.gtd_phrases.specs.Grammar.{BeginsALine, First, Group, IsIn, IsLine, IsOperator, members}
use Rattle.gtd_phrases.specs.Pieces.{figures_of, phrase_text, text}
use Rattle.gtd_phrases.specs.Ranges.{IsWritten}
use Rattle.gtd_phrases.specs.Tables.{word_in}
use Rattle.gtd_phrases.specs.declared.phrase.Language.{Language}
use Rattle.gtd_phrases.specs.declared.phrase.Piece.{Piece}
use Rattle.gtd_languages.specs.declared.word.Word.{Word}
use Rattle.gtd_languages.specs.declared.word.Word.TheVariants.{ExceptIn, OnlyIn, Or}
use Rattle.gtd_words.specs.Words.{basic_pieces, basic_words, indent, lead_words, lines, op_word, op_words, words_in}
use Rattle.gtd_words.proofs.LineReading.{SameBasic, basic_read, some_pieces}
use Rattle.gtd_words.proofs.Paths.{InRange, basic_line}

abbrev pub Both : {A : Type 0} → A → A → List ℕ → List ℕ → Type 0
Both a b r s = (a ≡ b) × (r ≡ s)

-- what is known of a language, and of ends
pub record Facts (l : Language) : Type 0 where
  pub ends : InRange
  pub read : (group : Group) (x y : List Piece) (r s : List ℕ) → IsLine group x → IsLine group y
      → text l x ++ 10 ∷ r ≡ text l y ++ 10 ∷ s → (x ≡ y) × (r ≡ s)
  pub operators : (v w : Word) (r s : List ℕ) → IsOperator v → IsOperator w → word_in l v ++ r ≡ word_in l w ++ s
      → (v ≡ w) × (r ≡ s)
  pub no_operator : (p : Piece) (w : Word) (r s : List ℕ) → IsIn p.phrase (members First)
      → IsWritten (figures_of p.phrase) p.number → IsOperator w → phrase_text l p.phrase p.number ++ r ≡ word_in l w ++ s → ⊥
  pub day : (p : Piece) (r : List ℕ) → IsIn p.phrase (members First) → IsWritten (figures_of p.phrase) p.number
      → BeginsALine (phrase_text l p.phrase p.number ++ r)
  pub operator : (w : Word) (r : List ℕ) → IsOperator w → BeginsALine (word_in l w ++ r)

-- ---- basic domains

abbrev pub Basic : Language → StartParts → DurationParts → List ℕ → List ℕ
Basic l x d r = basic_words l x d ++ (codes "\n" ++ r)

record SameLine (x : StartParts) (d : DurationParts) (y : StartParts) (e : DurationParts) (r s : List ℕ) : Type 0 where
  start : x ≡ y
  duration : d ≡ e
  rest : r ≡ s

basic_then : (l : Language) → Facts l → (x y : StartParts) (d e : DurationParts) (r s : List ℕ) → IsStart x → IsStart y
    → IsDuration d → IsDuration e → Basic l x d r ≡ Basic l y e s → SameLine x d y e r s
basic_then l f x y d e r s p q h k same =
    let found = f.read First (basic_pieces x d) (basic_pieces y e) r s (basic_line f.ends x d p h) (basic_line f.ends y e q k)
    same in
    let read = basic_read x y d e found.0 in
    record { start = read.start; duration = read.duration; rest = found.1 }

-- a line has pieces, since it is not the end of one
no_pieces : (l : Language) → Facts l → (P : List Piece) (r : List ℕ) → IsLine First P → (P ≡ [] → ⊥) → BeginsALine
    (text l P ++ r)
no_pieces l f [] r h some = absurd (some refl)
no_pieces l f (p ∷ P) r h some =
    subst (λ (x : List ℕ). BeginsALine x) (sym (append_assoc (phrase_text l p.phrase p.number) (text l P) r))
    (f.day p (text l P ++ r) h.0 h.1)

no_op_first : (l : Language) → Facts l → (P : List Piece) (w : Word) (r s : List ℕ) → IsLine First P → (P ≡ [] → ⊥)
    → IsOperator w → text l P ++ r ≡ word_in l w ++ s → ⊥
no_op_first l f [] w r s h some o e = some refl
no_op_first l f (p ∷ P) w r s h some o e =
    f.no_operator p w (text l P ++ r) s h.0 h.1 o (sym (append_assoc (phrase_text l p.phrase p.number) (text l P) r) ∙ e)

is_operator : (op : Op) → IsOperator (op_word op)
is_operator Union = tt
is_operator Meet = tt
is_operator Minus = tt

word_op : (o p : Op) → op_word o ≡ op_word p → o ≡ p
word_op Union Union e = refl
word_op Meet Meet e = refl
word_op Minus Minus e = refl
word_op Union Meet e = absurd cc
word_op Union Minus e = absurd cc
word_op Meet Union e = absurd cc
word_op Meet Minus e = absurd cc
word_op Minus Union e = absurd cc
word_op Minus Meet e = absurd cc

op_then : (l : Language) → Facts l → (o p : Op) (r s : List ℕ) → op_words l o ++ r ≡ op_words l p ++ s → Both o p r s
op_then l f o p r s e =
    let same = f.operators (op_word o) (op_word p) r s (is_operator o) (is_operator p) e in
    (word_op o p same.0, same.1)

basic_begins : (l : Language) → Facts l → (x : StartParts) (d : DurationParts) (r : List ℕ) → IsStart x → IsDuration d
    → BeginsALine (basic_words l x d ++ r)
basic_begins l f x d r p q = no_pieces l f (basic_pieces x d) r (basic_line f.ends x d p q) (some_pieces x d)

no_op : (l : Language) → Facts l → (op : Op) (x : StartParts) (d : DurationParts) (r s : List ℕ) → IsStart x → IsDuration d
    → basic_words l x d ++ r ≡ op_words l op ++ s → ⊥
no_op l f op x d r s p q e =
    no_op_first l f (basic_pieces x d) (op_word op) r s (basic_line f.ends x d p q) (some_pieces x d) (is_operator op) e

-- ---- lines

pub data Line : Type 0 where
  basic : (depth : ℕ) → (lead : Option Op) → (start : StartParts) → (duration : DurationParts) → Line
  heading : (depth : ℕ) → (op : Op) → Line

abbrev depth_of : Line → ℕ
depth_of (basic depth lead start duration) = depth
depth_of (heading depth op) = depth

abbrev text_of : Language → Line → List ℕ
text_of l (basic depth lead start duration) =
    indent depth ++ lead_words l lead ++ basic_words l start duration ++ codes "\n"
text_of l (heading depth op) = indent depth ++ op_words l op ++ codes "\n"

abbrev IsALine : Line → Type 0
IsALine (basic depth lead start duration) = IsStart start × IsDuration duration
IsALine (heading depth op) = Unit {0}

abbrev body_of : Language → Line → List ℕ → List ℕ
body_of l (basic depth None start duration) r = Basic l start duration r
body_of l (basic depth (Some op) start duration) r = op_words l op ++ (codes " " ++ Basic l start duration r)
body_of l (heading depth op) r = op_words l op ++ (codes "\n" ++ r)

text_is : (l : Language) (x : Line) (r : List ℕ) → text_of l x ++ r ≡ indent (depth_of x) ++ body_of l x r
text_is l (basic depth None start duration) r =
    append_assoc (indent depth ++ [] ++ basic_words l start duration) (codes "\n") r
    ∙ append_assoc (indent depth ++ []) (basic_words l start duration) (codes "\n" ++ r)
    ∙ append_assoc (indent depth) [] (basic_words l start duration ++ (codes "\n" ++ r))
text_is l (basic depth (Some op) start duration) r =
    append_assoc (indent depth ++ (op_words l op ++ codes " ") ++ basic_words l start duration) (codes "\n") r
    ∙ append_assoc (indent depth ++ (op_words l op ++ codes " ")) (basic_words l start duration) (codes "\n" ++ r)
    ∙ append_assoc (indent depth) (op_words l op ++ codes " ") (basic_words l start duration ++ (codes "\n" ++ r))
    ∙ ap (λ (z : List ℕ). indent depth ++ z) (append_assoc (op_words l op) (codes " ") _)
text_is l (heading depth op) r =
    append_assoc (indent depth ++ op_words l op) (codes "\n") r ∙ append_assoc (indent depth) (op_words l op) (codes "\n" ++ r)

body_begins : (l : Language) → Facts l → (x : Line) (r : List ℕ) → IsALine x → BeginsALine (body_of l x r)
body_begins l f (basic depth None start duration) r h = basic_begins l f start duration (codes "\n" ++ r) h.0 h.1
body_begins l f (basic depth (Some op) start duration) r h =
    f.operator (op_word op) (codes " " ++ Basic l start duration r) (is_operator op)
body_begins l f (heading depth op) r h = f.operator (op_word op) (codes "\n" ++ r) (is_operator op)

abbrev first : List ℕ → ℕ
first [] = 0
first (c ∷ x) = c

not_indented : (t r : List ℕ) → BeginsALine t → t ≡ codes "    " ++ r → ⊥
not_indented t r h e = h.3 (ap (λ (x : List ℕ). first x) (sym h.2 ∙ e))

indent_then : (d e : ℕ) (r s : List ℕ) → BeginsALine r → BeginsALine s → indent d ++ r ≡ indent e ++ s → Both d e r s
indent_then zero zero r s h k same = (refl, same)
indent_then zero (suc e) r s h k same = absurd (not_indented r (indent e ++ s) h same)
indent_then (suc d) zero r s h k same = absurd (not_indented s (indent d ++ r) k (sym same))
indent_then (suc d) (suc e) r s h k same =
    let rest = indent_then d e r s h k (append_cancel_left (codes "    ") (indent d ++ r) (indent e ++ s) same) in
    (ap (λ (n : ℕ). suc n) rest.0, rest.1)

same_line : (d e : ℕ) (l m : Option Op) (x y : StartParts) (p q : DurationParts) (r s : List ℕ) → d ≡ e → l ≡ m
    → SameLine x p y q r s → Both (basic d l x p) (basic e m y q) r s
same_line d e l m x y p q r s depth lead same = (
  ap (λ (n : ℕ). basic n l x p) depth ∙ ap (λ (o : Option Op). basic e o x p) lead
      ∙ ap (λ (z : StartParts). basic e m z p) same.start ∙ ap (λ (z : DurationParts). basic e m y z) same.duration,
  same.rest,
)

no_newline : (r s : List ℕ) → codes " " ++ r ≡ codes "\n" ++ s → ⊥
no_newline r s e = absurd cc

body_then : (l : Language) → Facts l → (x y : Line) (r s : List ℕ) → IsALine x → IsALine y → depth_of x ≡ depth_of y
    → body_of l x r ≡ body_of l y s → Both x y r s
body_then l f (basic d None x p) (basic e None y q) r s h k depth same =
    same_line d e None None x y p q r s depth refl (basic_then l f x y p q r s h.0 k.0 h.1 k.1 same)
body_then l f (basic d None x p) (basic e (Some o) y q) r s h k depth same =
    absurd (no_op l f o x p (codes "\n" ++ r) (codes " " ++ Basic l y q s) h.0 h.1 same)
body_then l f (basic d (Some o) x p) (basic e None y q) r s h k depth same =
    absurd (no_op l f o y q (codes "\n" ++ s) (codes " " ++ Basic l x p r) k.0 k.1 (sym same))
body_then l f (basic d (Some o) x p) (basic e (Some i) y q) r s h k depth same =
    let one = op_then l f o i (codes " " ++ Basic l x p r) (codes " " ++ Basic l y q s) same in
    same_line d e (Some o) (Some i) x y p q r s depth (ap (λ (z : Op). Some z) one.0)
    (basic_then l f x y p q r s h.0 k.0 h.1 k.1
    (append_cancel_left (codes " ") (Basic l x p r) (Basic l y q s) one.1))
body_then l f (basic d None x p) (heading e i) r s h k depth same =
    absurd (no_op l f i x p (codes "\n" ++ r) (codes "\n" ++ s) h.0 h.1 same)
body_then l f (heading d o) (basic e None y q) r s h k depth same =
    absurd (no_op l f o y q (codes "\n" ++ s) (codes "\n" ++ r) k.0 k.1 (sym same))
body_then l f (basic d (Some o) x p) (heading e i) r s h k depth same =
    absurd (no_newline (Basic l x p r) s (op_then l f o i (codes " " ++ Basic l x p r) (codes "\n" ++ s) same).1)
body_then l f (heading d o) (basic e (Some i) y q) r s h k depth same =
    absurd (no_newline (Basic l y q s) r (sym (op_then l f o i (codes "\n" ++ r) (codes " " ++ Basic l y q s) same).1))
body_then l f (heading d o) (heading e i) r s h k depth same =
    let one = op_then l f o i (codes "\n" ++ r) (codes "\n" ++ s) same in
    (ap (λ (n : ℕ). heading n o) depth ∙ ap (λ (z : Op). heading e z) one.0, append_cancel_left (codes "\n") r s one.1)

line_then : (l : Language) → Facts l → (x y : Line) (r s : List ℕ) → IsALine x → IsALine y
    → text_of l x ++ r ≡ text_of l y ++ s → Both x y r s
line_then l f x y r s h k same =
    let one = indent_then (depth_of x) (depth_of y) (body_of l x r) (body_of l y s) (body_begins l f x r h)
    (body_begins l f y s k) (sym (text_is l x r) ∙ same ∙ text_is l y s) in
    body_then l f x y r s h k one.0 one.1

-- ---- lists of lines

abbrev texts_of : Language → List Line → List ℕ
texts_of l [] = []
texts_of l (x ∷ xs) = text_of l x ++ texts_of l xs

abbrev AreLines : List Line → Type 0
AreLines [] = Unit {0}
AreLines (x ∷ xs) = IsALine x × AreLines xs

begins_some : (t : List ℕ) → BeginsALine t → t ≡ [] → ⊥
begins_some [] h e = absurd (let same = h.2 in cc)
begins_some (c ∷ t) h e = absurd cc

indent_some : (depth : ℕ) (r : List ℕ) → (r ≡ [] → ⊥) → indent depth ++ r ≡ [] → ⊥
indent_some zero r h e = h e
indent_some (suc depth) r h e = absurd cc

text_some : (l : Language) → Facts l → (x : Line) (r : List ℕ) → IsALine x → text_of l x ++ r ≡ [] → ⊥
text_some l f x r h e =
    indent_some (depth_of x) (body_of l x r) (begins_some (body_of l x r) (body_begins l f x r h)) (sym (text_is l x r) ∙ e)

texts_then : (l : Language) → Facts l → (xs ys : List Line) → AreLines xs → AreLines ys → texts_of l xs ≡ texts_of l ys
    → xs ≡ ys
texts_then l f [] [] h k e = refl
texts_then l f [] (y ∷ ys) h k e = absurd (text_some l f y (texts_of l ys) k.0 (sym e))
texts_then l f (x ∷ xs) [] h k e = absurd (text_some l f x (texts_of l xs) h.0 e)
texts_then l f (x ∷ xs) (y ∷ ys) h k e =
    let one = line_then l f x y (texts_of l xs) (texts_of l ys) h.0 k.0 e in
    ap (λ (z : Line). z ∷ xs) one.0 ∙ ap (λ (z : List Line). y ∷ z) (texts_then l f xs ys h.1 k.1 one.1)

texts_joined : (l : Language) (xs ys : List Line) → texts_of l (xs ++ ys) ≡ texts_of l xs ++ texts_of l ys
texts_joined l [] ys = refl
texts_joined l (x ∷ xs) ys =
    ap (λ (z : List ℕ). text_of l x ++ z) (texts_joined l xs ys) ∙ sym
    (append_assoc (text_of l x) (texts_of l xs) (texts_of l ys))

-- ---- the lines of an expression

abbrev lines_of : ℕ → Option Op → Tree → List Line
lines_of depth lead (Single start duration) = basic depth lead start duration ∷ []
lines_of depth None (Joined op a b) = lines_of depth None a ++ lines_of depth (Some op) b
lines_of depth (Some before) (Joined op a b) =
    heading depth before ∷ (lines_of (suc depth) None a ++ lines_of (suc depth) (Some op) b)

lines_are : (l : Language) (depth : ℕ) (lead : Option Op) (tree : Tree)
    → lines l depth lead tree ≡ texts_of l (lines_of depth lead tree)
lines_are l depth None (Single start duration) = sym (append-nil _)
lines_are l depth (Some op) (Single start duration) = sym (append-nil _)
lines_are l depth None (Joined op a b) =
    ap (λ (z : List ℕ). z ++ lines l depth (Some op) b) (lines_are l depth None a)
    ∙ ap (λ (z : List ℕ). texts_of l (lines_of depth None a) ++ z) (lines_are l depth (Some op) b)
    ∙ sym (texts_joined l (lines_of depth None a) (lines_of depth (Some op) b))
lines_are l depth (Some before) (Joined op a b) =
    append_assoc (text_of l (heading depth before)) (lines l (suc depth) None a) (lines l (suc depth) (Some op) b)
    ∙ ap (λ (z : List ℕ). text_of l (heading depth before) ++ z) (
    ap (λ (z : List ℕ). z ++ lines l (suc depth) (Some op) b) (lines_are l (suc depth) None a)
    ∙ ap (λ (z : List ℕ). texts_of l (lines_of (suc depth) None a) ++ z) (lines_are l (suc depth) (Some op) b)
    ∙ sym (texts_joined l (lines_of (suc depth) None a) (lines_of (suc depth) (Some op) b)))

AreLines-append : (xs ys : List Line) → AreLines xs → AreLines ys → AreLines (xs ++ ys)
AreLines-append [] ys h k = k
AreLines-append (x ∷ xs) ys h k = (h.0, AreLines-append xs ys h.1 k)

are_lines : (depth : ℕ) (lead : Option Op) (tree : Tree) → AreValid tree → AreLines (lines_of depth lead tree)
are_lines depth None (Single start duration) h = (h, tt)
are_lines depth (Some op) (Single start duration) h = (h, tt)
are_lines depth None (Joined op a b) h =
    AreLines-append (lines_of depth None a) (lines_of depth (Some op) b) (are_lines depth None a h.0)
    (are_lines depth (Some op) b h.1)
are_lines depth (Some before) (Joined op a b) h = (
  tt,
  AreLines-append (lines_of (suc depth) None a) (lines_of (suc depth) (Some op) b) (are_lines (suc depth) None a h.0)
      (are_lines (suc depth) (Some op) b h.1),
)

-- ---- where a part in brackets ends

abbrev AreDeep : ℕ → List Line → Type 0
AreDeep depth [] = Unit {0}
AreDeep depth (x ∷ xs) = (depth ≤ depth_of x) × AreDeep depth xs

AreDeep-append : (depth : ℕ) (xs ys : List Line) → AreDeep depth xs → AreDeep depth ys → AreDeep depth (xs ++ ys)
AreDeep-append depth [] ys h k = k
AreDeep-append depth (x ∷ xs) ys h k = (h.0, AreDeep-append depth xs ys h.1 k)

shallower : (depth : ℕ) (xs : List Line) → AreDeep (suc depth) xs → AreDeep depth xs
shallower depth [] h = tt
shallower depth (x ∷ xs) h = (let k = h.0 in omega arith, shallower depth xs h.1)

are_deep : (depth : ℕ) (lead : Option Op) (tree : Tree) → AreDeep depth (lines_of depth lead tree)
are_deep depth None (Single start duration) = (omega arith, tt)
are_deep depth (Some op) (Single start duration) = (omega arith, tt)
are_deep depth None (Joined op a b) =
    AreDeep-append depth (lines_of depth None a) (lines_of depth (Some op) b) (are_deep depth None a)
    (are_deep depth (Some op) b)
are_deep depth (Some before) (Joined op a b) = (
  omega arith,
  shallower depth (lines_of (suc depth) None a ++ lines_of (suc depth) (Some op) b)
      (AreDeep-append (suc depth) (lines_of (suc depth) None a) (lines_of (suc depth) (Some op) b)
      (are_deep (suc depth) None a) (are_deep (suc depth) (Some op) b)),
)

-- a right side is one line at its depth, and deeper ones
record Right (depth : ℕ) (op : Op) (tree : Tree) : Type 0 where
  first : Line
  others : List Line
  at_depth : depth_of first ≡ depth
  deep : AreDeep (suc depth) others
  whole : lines_of depth (Some op) tree ≡ first ∷ others

right_side : (depth : ℕ) (op : Op) (tree : Tree) → Right depth op tree
right_side depth op (Single start duration) =
    record { first = basic depth (Some op) start duration; others = []; at_depth = refl; deep = tt; whole = refl }
right_side depth op (Joined o a b) = record {
  first = heading depth op;
  others = lines_of (suc depth) None a ++ lines_of (suc depth) (Some o) b;
  at_depth = refl;
  deep = AreDeep-append (suc depth) (lines_of (suc depth) None a) (lines_of (suc depth) (Some o) b)
      (are_deep (suc depth) None a) (are_deep (suc depth) (Some o) b);
  whole = refl;
}

deep_there : (depth : ℕ) (xs : List Line) (x : Line) (ys : List Line) → AreDeep depth (xs ++ x ∷ ys) → depth ≤ depth_of x
deep_there depth [] x ys h = h.0
deep_there depth (y ∷ xs) x ys h = deep_there depth xs x ys h.1

record SameSides (xs ys : List Line) (x y : Line) (us vs : List Line) : Type 0 where
  before : xs ≡ ys
  after : x ∷ us ≡ y ∷ vs

same_sides : (depth : ℕ) (xs ys : List Line) (x y : Line) (us vs : List Line) → depth_of x ≡ depth → depth_of y ≡ depth
    → AreDeep (suc depth) us → AreDeep (suc depth) vs → xs ++ x ∷ us ≡ ys ++ y ∷ vs → SameSides xs ys x y us vs
same_sides depth [] [] x y us vs dx dy h k e = record { before = refl; after = e }
same_sides depth [] (z ∷ ys) x y us vs dx dy h k e =
    let rest : us ≡ ys ++ y ∷ vs = cc in
    let there = deep_there (suc depth) ys y vs (subst (λ (l : List Line). AreDeep (suc depth) l) rest h) in
    absurd (omega arith)
same_sides depth (z ∷ xs) [] x y us vs dx dy h k e =
    let rest : vs ≡ xs ++ x ∷ us = cc in
    let there = deep_there (suc depth) xs x us (subst (λ (l : List Line). AreDeep (suc depth) l) rest k) in
    absurd (omega arith)
same_sides depth (z ∷ xs) (w ∷ ys) x y us vs dx dy h k e =
    let one : z ≡ w = cc in
    let rest : xs ++ x ∷ us ≡ ys ++ y ∷ vs = cc in
    let same = same_sides depth xs ys x y us vs dx dy h k rest in
    record { before = ap (λ (v : Line). v ∷ xs) one ∙ ap (λ (l : List Line). w ∷ l) same.before; after = same.after }

record SameJoin (depth : ℕ) (o i : Op) (a b c d : Tree) : Type 0 where
  left : lines_of depth None a ≡ lines_of depth None c
  right : lines_of depth (Some o) b ≡ lines_of depth (Some i) d

join_then : (depth : ℕ) (o i : Op) (a b c d : Tree) → lines_of depth None a ++ lines_of depth (Some o) b
    ≡ lines_of depth None c ++ lines_of depth (Some i) d → SameJoin depth o i a b c d
join_then depth o i a b c d e =
    let x = right_side depth o b in
    let y = right_side depth i d in
    let same = same_sides depth (lines_of depth None a) (lines_of depth None c) x.first y.first x.others y.others x.at_depth
    y.at_depth x.deep y.deep
    (ap (λ (l : List Line). lines_of depth None a ++ l) (sym x.whole) ∙ e
    ∙ ap (λ (l : List Line). lines_of depth None c ++ l) y.whole) in
    record { left = same.before; right = x.whole ∙ same.after ∙ sym y.whole }

-- ---- the tree

-- a part that is not a right side begins with a basic domain
record FirstLine (depth : ℕ) (tree : Tree) : Type 0 where
  start : StartParts
  duration : DurationParts
  others : List Line
  whole : lines_of depth None tree ≡ basic depth None start duration ∷ others

first_of : (depth : ℕ) (tree : Tree) → FirstLine depth tree
first_of depth (Single start duration) = record { start = start; duration = duration; others = []; whole = refl }
first_of depth (Joined op a b) =
    let f = first_of depth a in record {
      start = f.start;
      duration = f.duration;
      others = f.others ++ lines_of depth (Some op) b;
      whole = ap (λ (l : List Line). l ++ lines_of depth (Some op) b) f.whole;
    }

record SameTree (l m : Option Op) (a b : Tree) : Type 0 where
  lead : l ≡ m
  tree : a ≡ b

no_more : (depth : ℕ) (x : Line) (op : Op) (a b : Tree) → x ∷ [] ≡ lines_of depth None a ++ lines_of depth (Some op) b → ⊥
no_more depth x op a b e =
    let f = first_of depth a in
    let r = right_side depth op b in
    let same : x ∷ [] ≡ basic depth None f.start f.duration ∷ (f.others ++ r.first ∷ r.others) =
    e ∙ ap (λ (l : List Line). l ++ lines_of depth (Some op) b) f.whole
    ∙ ap (λ (l : List Line). basic depth None f.start f.duration ∷ (f.others ++ l)) r.whole in
    let rest : [] ≡ f.others ++ r.first ∷ r.others = cc in
    none f.others r.first r.others rest
  where
    none : (xs : List Line) (y : Line) (ys : List Line) → [] ≡ xs ++ y ∷ ys → ⊥
    none [] y ys e = absurd cc
    none (x ∷ xs) y ys e = absurd cc

-- whether a line says what is done with the lines above it
abbrev is_right : Line → Bool
is_right (basic depth None start duration) = false
is_right (basic depth (Some op) start duration) = true
is_right (heading depth op) = true

abbrev first_is_right : List Line → Bool
first_is_right [] = true
first_is_right (x ∷ xs) = is_right x

none_first : (depth : ℕ) (tree : Tree) → first_is_right (lines_of depth None tree) ≡ false
none_first depth tree = let f = first_of depth tree in ap (λ (l : List Line). first_is_right l) f.whole

mixed : (depth : ℕ) (tree : Tree) (l : List Line) → first_is_right l ≡ true → lines_of depth None tree ≡ l → ⊥
mixed depth tree l h e = false≢true (sym (none_first depth tree) ∙ ap (λ (m : List Line). first_is_right m) e ∙ h)

tree_then : (a b : Tree) (depth : ℕ) (l m : Option Op) → lines_of depth l a ≡ lines_of depth m b → SameTree l m a b
tree_then (Single x p) (Single y q) depth l m e =
    let lead : l ≡ m = cc in
    let start : x ≡ y = cc in
    let duration : p ≡ q = cc in
    record {
      lead = lead;
      tree = ap (λ (z : StartParts). Single z p) start ∙ ap (λ (z : DurationParts). Single y z) duration;
    }
tree_then (Single x p) (Joined i c d) depth None None e = absurd (no_more depth (basic depth None x p) i c d e)
tree_then (Single x p) (Joined i c d) depth (Some o) None e =
    absurd (mixed depth (Joined i c d) (basic depth (Some o) x p ∷ []) refl (sym e))
tree_then (Single x p) (Joined i c d) depth l (Some m) e = absurd cc
tree_then (Joined o a b) (Single y q) depth None None e = absurd (no_more depth (basic depth None y q) o a b (sym e))
tree_then (Joined o a b) (Single y q) depth None (Some i) e =
    absurd (mixed depth (Joined o a b) (basic depth (Some i) y q ∷ []) refl e)
tree_then (Joined o a b) (Single y q) depth (Some l) m e = absurd cc
tree_then (Joined o a b) (Joined i c d) depth None None e =
    let sides = join_then depth o i a b c d e in
    let left = tree_then a c depth None None sides.left in
    let right = tree_then b d depth (Some o) (Some i) sides.right in
    let op : o ≡ i = let same = right.lead in cc in
    record {
      lead = refl;
      tree = ap (λ (z : Op). Joined z a b) op ∙ ap (λ (z : Tree). Joined i z b) left.tree
          ∙ ap (λ (z : Tree). Joined i c z) right.tree;
    }
tree_then (Joined o a b) (Joined i c d) depth None (Some m) e =
    absurd (mixed depth (Joined o a b)
    (heading depth m ∷ (lines_of (suc depth) None c ++ lines_of (suc depth) (Some i) d)) refl e)
tree_then (Joined o a b) (Joined i c d) depth (Some l) None e =
    absurd (mixed depth (Joined i c d)
    (heading depth l ∷ (lines_of (suc depth) None a ++ lines_of (suc depth) (Some o) b)) refl (sym e))
tree_then (Joined o a b) (Joined i c d) depth (Some l) (Some m) e =
    let lead : l ≡ m = cc in
    let rest : lines_of (suc depth) None a ++ lines_of (suc depth) (Some o) b
    ≡ lines_of (suc depth) None c ++ lines_of (suc depth) (Some i) d = cc in
    let sides = join_then (suc depth) o i a b c d rest in
    let left = tree_then a c (suc depth) None None sides.left in
    let right = tree_then b d (suc depth) (Some o) (Some i) sides.right in
    let op : o ≡ i = let same = right.lead in cc in
    record {
      lead = ap (λ (z : Op). Some z) lead;
      tree = ap (λ (z : Op). Joined z a b) op ∙ ap (λ (z : Tree). Joined i z b) left.tree
          ∙ ap (λ (z : Tree). Joined i c z) right.tree;
    }

pub words_then : (l : Language) → Facts l → (a b : Tree) → AreValid a → AreValid b → words_in l a ≡ words_in l b → a ≡ b
words_then l f a b h k e =
    let same = texts_then l f (lines_of 0 None a) (lines_of 0 None b) (are_lines 0 None a h) (are_lines 0 None b k)
    (sym (lines_are l 0 None a) ∙ e ∙ lines_are l 0 None b) in
    let found = tree_then a b 0 None None same in
    found.tree
