-- The text of a path gives its rectangles.
use Rattle.std.proofs.Common.{◌≡◌, ◌∙◌, sym, ap, refl, ◌≤◌, ◌<◌, ◌^◌, ℕ, List, [], ◌∷◌, ◌++◌, arith, append_assoc}
use Rattle.std.specs.Prelude.{ℤ, codes, decimal, drop, flat_map, get_or}
use Rattle.std.specs.Char.{digit_value}
use Rattle.std.specs.Str.Parse.{AllDigits, digits_value}
use Rattle.std.proofs.lemmas.Fmt.{decimal_is_IsNumeral}
use Rattle.std.proofs.lemmas.List.{append-nil}
use Rattle.gtd_picture.specs.Paths.{HasNoQuote, IsOutline, IsPathOf, Write}
use Rattle.gtd_picture.specs.Picture.{IsColumn, Rect, rect_text, whole_column}
use Rattle.gtd_picture.specs.Rects.{AreInside}
use Rattle.gtd_picture.proofs.RectFacts.{column_inside}

-- ---- numbers

-- where digits end that are followed by something else
digits_then : (xs ys : List ℕ) (c d : ℕ) (r s : List ℕ) → AllDigits 10 xs → AllDigits 10 ys → 10 ≤ digit_value c
    → 10 ≤ digit_value d → xs ++ (c ∷ r) ≡ ys ++ (d ∷ s) → (xs ≡ ys) × (r ≡ s)
digits_then [] [] c d r s p q m n e = (refl, ap (λ (l : List ℕ). drop 1 l) e)
digits_then [] (y ∷ ys) c d r s p q m n e =
    let same : c ≡ y = ap (λ (l : List ℕ). get_or l 0 0) e in
    let few : digit_value c < 10 = rw same q.0 in absurd (omega (arith, m, few))
digits_then (x ∷ xs) [] c d r s p q m n e =
    let same : x ≡ d = ap (λ (l : List ℕ). get_or l 0 0) e in
    let few : digit_value d < 10 = rw (← same) p.0 in absurd (omega (arith, n, few))
digits_then (x ∷ xs) (y ∷ ys) c d r s p q m n e =
    let same : x ≡ y = ap (λ (l : List ℕ). get_or l 0 0) e in
    let rest = digits_then xs ys c d r s p.1 q.1 m n (ap (λ (l : List ℕ). drop 1 l) e) in
    (ap (λ (z : ℕ). z ∷ xs) same ∙ ap (λ (l : List ℕ). y ∷ l) rest.0, rest.1)

written : (n : ℕ) → n < 2 ^ 64 → Write (decimal n) n
written n few = decimal_is_IsNumeral n few

one_number : (xs ys : List ℕ) (m n : ℕ) → Write xs m → Write ys n → xs ≡ ys → m ≡ n
one_number xs ys m n p q e = sym p.1 ∙ ap (λ (l : List ℕ). digits_value 10 l) e ∙ q.1

-- ---- outlines

abbrev outline : List ℕ → List ℕ → List ℕ → List ℕ → List ℕ
outline x y height rest = 77 ∷ (x ++ (32 ∷ (y ++ (104 ∷ 49 ∷ 118 ∷ (height ++ (104 ∷ 45 ∷ 49 ∷ 122 ∷ rest))))))

outline_is : (x y height rest : List ℕ) → (codes "M" ++ x ++ codes " " ++ y ++ codes "h1v" ++ height ++ codes "h-1z") ++ rest
    ≡ outline x y height rest
outline_is x y height rest = apart (codes "M") x (codes " ") y (codes "h1v") height (codes "h-1z") rest
  where
    apart : (a b c d e f g h : List ℕ) → (a ++ b ++ c ++ d ++ e ++ f ++ g) ++ h ≡ a ++ (b ++ (c ++ (d ++ (e ++ (f ++ (g ++ h))))))
    apart a b c d e f g h = simp append_assoc

record SameOutline (a b : Rect) (r s : List ℕ) : Type 0 where
  rect : a ≡ b
  rest : r ≡ s

same_rect : (a b : Rect) → a.x ≡ b.x → a.y ≡ b.y → a.height ≡ b.height → a ≡ b
same_rect a b p q r =
    let make : ℕ → ℕ → ℕ → Rect = λ x y height. record { x = x; y = y; height = height } in
    let same : make a.x a.y a.height ≡ make b.x b.y b.height = rw (p, q, r) refl in
    same

outline_then : (a b : Rect) (p q r s : List ℕ) → IsOutline p a → IsOutline q b → p ++ r ≡ q ++ s → SameOutline a b r s
outline_then a b p q r s m n e =
    let texts = sym (outline_is m.x m.y m.height r) ∙ ap (λ (l : List ℕ). l ++ r) (sym m.whole) ∙ e
    ∙ ap (λ (l : List ℕ). l ++ s) n.whole ∙ outline_is n.x n.y n.height s in
    let x = digits_then m.x n.x 32 32 _ _ m.column.0.1 n.column.0.1 (omega arith) (omega arith)
    (ap (λ (l : List ℕ). drop 1 l) texts) in
    let y = digits_then m.y n.y 104 104 _ _ m.first.0.1 n.first.0.1 (omega arith) (omega arith) x.1 in
    let height = digits_then m.height n.height 104 104 _ _ m.seconds.0.1 n.seconds.0.1 (omega arith) (omega arith)
    (ap (λ (l : List ℕ). drop 2 l) y.1) in
    record {
      rect = same_rect a b (one_number m.x n.x a.x b.x m.column n.column x.0) (one_number m.y n.y a.y b.y m.first n.first y.0)
          (one_number m.height n.height a.height b.height m.seconds n.seconds height.0);
      rest = ap (λ (l : List ℕ). drop 3 l) height.1;
    }

no_outline : (a : Rect) (p r : List ℕ) → IsOutline p a → [] ≡ p ++ r → ⊥
no_outline a p r m e =
    let texts = e ∙ ap (λ (l : List ℕ). l ++ r) m.whole ∙ outline_is m.x m.y m.height r in
    absurd cc

-- ---- paths

pub one_path : (text : List ℕ) (a b : List Rect) → IsPathOf text a → IsPathOf text b → a ≡ b
one_path text [] [] p q = refl
one_path text [] (s ∷ b) p q = absurd (no_outline s q.0 q.1 q.2 (sym p ∙ q.4))
one_path text (r ∷ a) [] p q = absurd (no_outline r p.0 p.1 p.2 (sym q ∙ p.4))
one_path text (r ∷ a) (s ∷ b) p q =
    let first = outline_then r s p.0 q.0 p.1 q.1 p.2 q.2 (sym p.4 ∙ q.4) in
    let rest = one_path q.1 a b (rw (← first.rest) p.3) q.3 in
    ap (λ (z : Rect). z ∷ a) first.rect ∙ ap (λ (l : List Rect). s ∷ l) rest

-- numbers of a rectangle of a picture
abbrev IsSmall : Rect → Type 0
IsSmall r = (r.x < 366) × (r.y ≤ 86400) × (r.height ≤ 86400)

outline_of : (r : Rect) → IsSmall r → IsOutline (rect_text r) r
outline_of r few = record {
  x = decimal r.x;
  y = decimal r.y;
  height = decimal r.height;
  column = written r.x (omega (arith, few.0));
  first = written r.y (omega (arith, few.1));
  seconds = written r.height (omega (arith, few.2));
  whole = refl;
}

path_inside : (rects : List Rect) → AreInside 366 rects → IsPathOf (flat_map rect_text rects) rects
path_inside [] few = refl
path_inside (r ∷ rects) few = (
  rect_text r,
  flat_map rect_text rects,
  outline_of r (few.0, omega (arith, few.2), omega (arith, few.2)),
  path_inside rects few.3,
  refl,
)

pub path_of_column : (set : ℤ → Type 0) (day : ℤ) (place : ℕ) (column : List Rect) → place < 366 → IsColumn set day place column
    → IsPathOf (flat_map rect_text column) column
path_of_column set day place column few is = path_inside column (column_inside set day place 366 column few is)

pub path_of_whole : (place : ℕ) → place < 366 → IsPathOf (rect_text (whole_column place)) (whole_column place ∷ [])
path_of_whole place few =
    let r = whole_column place in
    (rect_text r, [], outline_of r (few, omega arith, omega arith), refl, sym (append-nil (rect_text r)))

-- ---- quotes

quote-append : (a b : List ℕ) → HasNoQuote a → HasNoQuote b → HasNoQuote (a ++ b)
quote-append [] b p q = q
quote-append (c ∷ a) b p q = (p.0, quote-append a b p.1 q)

quote-digits : (ds : List ℕ) → AllDigits 10 ds → HasNoQuote ds
quote-digits [] h = tt
quote-digits (c ∷ ds) h = (λ e. no_digit (rw e at (h.0)), quote-digits ds h.1)
  where
    no_digit : digit_value 39 < 10 → ⊥
    no_digit h = absurd (omega (arith, h))

quote-outline : (p : List ℕ) (r : Rect) → IsOutline p r → HasNoQuote p
quote-outline p r m =
    rw (m.whole) (quote-append (codes "M" ++ m.x ++ codes " " ++ m.y ++ codes "h1v" ++ m.height) (codes "h-1z")
    (quote-append (codes "M" ++ m.x ++ codes " " ++ m.y ++ codes "h1v") m.height
    (quote-append (codes "M" ++ m.x ++ codes " " ++ m.y) (codes "h1v")
    (quote-append (codes "M" ++ m.x ++ codes " ") m.y (quote-append (codes "M" ++ m.x) (codes " ")
    (quote-append (codes "M") m.x (omega arith, tt) (quote-digits m.x m.column.0.1)) (omega arith, tt))
    (quote-digits m.y m.first.0.1)) (omega arith, (omega arith, (omega arith, tt)))) (quote-digits m.height m.seconds.0.1))
    (omega arith, (omega arith, (omega arith, (omega arith, tt)))))

pub path_has_no_quote : (text : List ℕ) (rects : List Rect) → IsPathOf text rects → HasNoQuote text
path_has_no_quote text [] p = rw p tt
path_has_no_quote text (r ∷ rects) p =
    rw (p.4) (quote-append p.0 p.1 (quote-outline p.0 r p.2) (path_has_no_quote p.1 rects p.3))
