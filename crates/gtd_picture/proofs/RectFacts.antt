-- What the rectangles of columns cover.
use Rattle.std.proofs.Common.{◌≡◌, refl, ◌≤◌, ◌<◌, ◌+◌, ◌⊎◌, ◌↔◌, ℕ, zero, suc, arith, inl, inr}
use Rattle.std.proofs.Common.{List, [], ◌∷◌, ◌++◌, map}
use Rattle.std.specs.Prelude.{ℤ, pos, ◌+ℤ◌, ◌-ℤ◌, ◌*ℤ◌, ◌≤ℤ◌, ◌<ℤ◌, unsigned_abs}
use Rattle.std.proofs.lemmas.Int.{ints}
use Rattle.gtd_calendar.specs.facts.Signed.{signed_arith, one_part}
use Rattle.gtd_core.specs.Seconds.{Interval, Within}
use Rattle.gtd_spans.specs.Normal.{AllBeginAfter, Holds, IsNormal}
use Rattle.gtd_spans.specs.facts.NormalFor.{normal-of}
use Rattle.gtd_picture.specs.Picture.{AreColumns, IsColumn, Rect, rect_of}
use Rattle.gtd_picture.specs.Rects.{AllFollow, AreApart, AreInside, Covers, SomeCovers, rects_of}

-- the distance from a second to a later one
distance : (a b : ℤ) → a ≤ℤ b → pos (unsigned_abs (b -ℤ a)) ≡ b -ℤ a
distance a b low = let one = one_part (b -ℤ a) in omega (arith, signed_arith, one, low)

-- The spans lie in a day, and none is empty.
abbrev AreOn : ℤ → List Interval → Type 0
AreOn midnight [] = Unit {0}
AreOn midnight (s ∷ xs) = (midnight ≤ℤ s.from) × (s.from <ℤ s.until) × (s.until ≤ℤ (midnight +ℤ pos 86400)) × AreOn midnight xs

are_on : (midnight : ℤ) (xs : List Interval) → IsNormal xs
    → ((t : ℤ) → Holds xs t → (midnight ≤ℤ t) × (t <ℤ (midnight +ℤ pos 86400))) → AreOn midnight xs
are_on midnight [] n inside = tt
are_on midnight (s ∷ xs) n inside =
    let first = inside s.from (inl (omega (arith, ints), n.0)) in
    let last = inside (s.until -ℤ pos 1) (inl (omega (arith, ints, n.0), omega (arith, ints))) in
    (first.0, n.0, omega (arith, ints, last.1), are_on midnight xs n.2 (λ t h. inside t (inr h)))

-- the rectangle of a span covers what the span holds
one_covers : (place y : ℕ) (midnight : ℤ) (s : Interval) → midnight ≤ℤ s.from → s.from <ℤ s.until
    → Covers place y (rect_of place midnight s) ↔ Within s (midnight +ℤ pos y)
one_covers place y midnight s low some =
    let a = distance midnight s.from low in
    let b = distance s.from s.until (omega (arith, ints, some)) in (
      (λ h. (omega (arith, ints, a, h.1), omega (arith, ints, a, b, h.2))),
      (λ w. (refl, omega (arith, ints, a, w.0), omega (arith, ints, a, b, w.1))),
    )

column_covers : (place y : ℕ) (midnight : ℤ) (xs : List Interval) → AreOn midnight xs
    → SomeCovers place y (map (rect_of place midnight) xs) ↔ Holds xs (midnight +ℤ pos y)
column_covers place y midnight [] on = ((λ h. h), (λ h. h))
column_covers place y midnight (s ∷ xs) on =
    let one = one_covers place y midnight s on.0 on.1 in
    let rest = column_covers place y midnight xs on.3 in (
      (λ h. elim h [ inl a ↦ inl (one.0 a) | inr b ↦ inr (rest.0 b) ]),
      (λ h. elim h [ inl a ↦ inl (one.1 a) | inr b ↦ inr (rest.1 b) ]),
    )

-- a column covers nothing elsewhere
elsewhere : (place x y : ℕ) (midnight : ℤ) (xs : List Interval) → place < x → SomeCovers x y (map (rect_of place midnight) xs) → ⊥
elsewhere place x y midnight [] other h = h
elsewhere place x y midnight (s ∷ xs) other h =
    elim h [ inl a ↦ omega (arith, a.0, other) | inr b ↦ elsewhere place x y midnight xs other b ]

-- some of the first rectangles or of the others
some-append : (x y : ℕ) (a b : List Rect) → SomeCovers x y (a ++ b) ↔ (SomeCovers x y a ⊎ SomeCovers x y b)
some-append x y [] b = ((λ h. inr h), (λ h. elim h [ inl k ↦ absurd k | inr k ↦ k ]))
some-append x y (r ∷ a) b =
    let rest = some-append x y a b in (
      (λ h. elim h [ inl k ↦ inl (inl k) | inr k ↦ elim (rest.0 k) [ inl i ↦ inl (inr i) | inr j ↦ inr j ] ]),
      (λ h. elim h [ inl k ↦ elim k [ inl i ↦ inl i | inr j ↦ inr (rest.1 (inl j)) ] | inr k ↦ inr (rest.1 (inr k)) ]),
    )

-- each rectangle is in a column from a place on
abbrev AllFrom : ℕ → List Rect → Type 0
AllFrom place [] = Unit {0}
AllFrom place (r ∷ rects) = (place ≤ r.x) × AllFrom place rects

from-append : (place : ℕ) (a b : List Rect) → AllFrom place a → AllFrom place b → AllFrom place (a ++ b)
from-append place [] b p q = q
from-append place (r ∷ a) b p q = (p.0, from-append place a b p.1 q)

from-weaken : (place later : ℕ) (a : List Rect) → place ≤ later → AllFrom later a → AllFrom place a
from-weaken place later [] h p = tt
from-weaken place later (r ∷ a) h p = (omega (arith, h, p.0), from-weaken place later a h p.1)

from-column : (place : ℕ) (midnight : ℤ) (xs : List Interval) → AllFrom place (map (rect_of place midnight) xs)
from-column place midnight [] = tt
from-column place midnight (s ∷ xs) = (omega arith, from-column place midnight xs)

none_before : (place x y : ℕ) (a : List Rect) → x < place → AllFrom place a → SomeCovers x y a → ⊥
none_before place x y [] h p k = k
none_before place x y (r ∷ a) h p k = elim k [ inl c ↦ omega (arith, c.0, h, p.0) | inr j ↦ none_before place x y a h p.1 j ]

inside-append : (n : ℕ) (a b : List Rect) → AreInside n a → AreInside n b → AreInside n (a ++ b)
inside-append n [] b p q = q
inside-append n (r ∷ a) b p q = (p.0, p.1, p.2, inside-append n a b p.3 q)

inside-column : (place n : ℕ) (midnight : ℤ) (xs : List Interval) → place < n → AreOn midnight xs
    → AreInside n (map (rect_of place midnight) xs)
inside-column place n midnight [] h on = tt
inside-column place n midnight (s ∷ xs) h on =
    let a = distance midnight s.from on.0 in
    let b = distance s.from s.until (omega (arith, ints, on.1)) in
    (h, omega (arith, ints, b, on.1), omega (arith, ints, a, b, on.2), inside-column place n midnight xs h on.3)

follow-append : (r : Rect) (a b : List Rect) → AllFollow r a → AllFollow r b → AllFollow r (a ++ b)
follow-append r [] b p q = q
follow-append r (s ∷ a) b p q = (p.0, follow-append r a b p.1 q)

follow-later : (r : Rect) (later : ℕ) (b : List Rect) → r.x < later → AllFrom later b → AllFollow r b
follow-later r later [] h p = tt
follow-later r later (s ∷ b) h p = (inl (omega (arith, h, p.0)), follow-later r later b h p.1)

follow-column : (place : ℕ) (midnight : ℤ) (s : Interval) (xs : List Interval) → midnight ≤ℤ s.from → s.from <ℤ s.until
    → AllBeginAfter s.until xs → AllFollow (rect_of place midnight s) (map (rect_of place midnight) xs)
follow-column place midnight s [] low some after = tt
follow-column place midnight s (q ∷ xs) low some after =
    let a = distance midnight s.from low in
    let b = distance s.from s.until (omega (arith, ints, some)) in
    let c = distance midnight q.from (omega (arith, ints, low, some, after.0)) in
    (inr (refl, omega (arith, ints, a, b, c, after.0)), follow-column place midnight s xs low some after.1)

-- a column and those of later days
apart-then : (place : ℕ) (midnight : ℤ) (xs : List Interval) (b : List Rect) → AreOn midnight xs → IsNormal xs
    → AllFrom (place + 1) b → AreApart b → AreApart (map (rect_of place midnight) xs ++ b)
apart-then place midnight [] b on n from apart = apart
apart-then place midnight (s ∷ xs) b on n from apart = (
  follow-append (rect_of place midnight s) (map (rect_of place midnight) xs) b (follow-column place midnight s xs on.0 on.1 n.1)
      (follow-later (rect_of place midnight s) (place + 1) b (omega arith) from),
  apart-then place midnight xs b on.3 n.2 from apart,
)

module _ (set : ℤ → Type 0) where
  column_on : (day : ℤ) (place : ℕ) (column : List Rect) (is : IsColumn set day place column) → AreOn (day *ℤ pos 86400) is.spans
  column_on day place column is =
      are_on (day *ℤ pos 86400) is.spans
      (normal-of set (day *ℤ pos 86400) ((day +ℤ pos 1) *ℤ pos 86400) is.spans is.normal)
      (λ t h. let w = is.normal.inside t h in (w.0, omega (arith, ints, w.1)))

  -- a column covers the seconds of its day that are in the set
  in_column : (day : ℤ) (place y : ℕ) (column : List Rect) → IsColumn set day place column → y < 86400
      → SomeCovers place y column ↔ set (day *ℤ pos 86400 +ℤ pos y)
  in_column day place y column is short =
      let covers = column_covers place y (day *ℤ pos 86400) is.spans (column_on day place column is) in
      rw (is.each) (
        (λ h. (is.normal.inside (day *ℤ pos 86400 +ℤ pos y) (covers.0 h)).2),
        (λ h. covers.1 (is.normal.complete (day *ℤ pos 86400 +ℤ pos y) (omega (arith, ints), omega (arith, ints, short), h))),
      )

  pub columns_from : (day : ℤ) (place n : ℕ) (columns : List (List Rect)) → AreColumns set day place n columns
      → AllFrom place (rects_of columns)
  unfolding AreColumns
  columns_from day place zero columns are = rw are tt
  columns_from day place (suc n) columns are =
      let rest = columns_from (day +ℤ pos 1) (place + 1) n are.1 are.3 in
      rw (are.4) (from-append place are.0 (rects_of are.1) (rw (are.2.each) (from-column place (day *ℤ pos 86400) are.2.spans))
      (from-weaken place (place + 1) (rects_of are.1) (omega arith) rest))

  -- the rectangles of a column are inside the columns up to any later one
  pub column_inside : (day : ℤ) (place all : ℕ) (column : List Rect) → place < all → IsColumn set day place column
      → AreInside all column
  column_inside day place all column few is =
      rw (is.each) (inside-column place all (day *ℤ pos 86400) is.spans few (column_on day place column is))

  pub columns_inside : (day : ℤ) (place n all : ℕ) (columns : List (List Rect)) → place + n ≤ all
      → AreColumns set day place n columns
      → AreInside all (rects_of columns)
  unfolding AreColumns
  columns_inside day place zero all columns few are = rw are tt
  columns_inside day place (suc n) all columns few are =
      let rest = columns_inside (day +ℤ pos 1) (place + 1) n all are.1 (omega (arith, few)) are.3 in
      rw (are.4) (inside-append all are.0 (rects_of are.1) (column_inside day place all are.0 (omega (arith, few)) are.2) rest)

  pub columns_apart : (day : ℤ) (place n : ℕ) (columns : List (List Rect)) → AreColumns set day place n columns
      → AreApart (rects_of columns)
  unfolding AreColumns
  columns_apart day place zero columns are = rw are tt
  columns_apart day place (suc n) columns are =
      let on = column_on day place are.0 are.2 in
      let normal = normal-of set (day *ℤ pos 86400) ((day +ℤ pos 1) *ℤ pos 86400) are.2.spans are.2.normal in
      let rest = columns_apart (day +ℤ pos 1) (place + 1) n are.1 are.3 in
      let from = columns_from (day +ℤ pos 1) (place + 1) n are.1 are.3 in
      rw (are.4) (rw (are.2.each) (apart-then place (day *ℤ pos 86400) are.2.spans (rects_of are.1) on normal from rest))

  pub columns_cover : (day : ℤ) (place n x y : ℕ) (columns : List (List Rect)) → AreColumns set day place n columns → x < n
      → y < 86400
      → SomeCovers (place + x) y (rects_of columns) ↔ set ((day +ℤ pos x) *ℤ pos 86400 +ℤ pos y)
  unfolding AreColumns
  columns_cover day place zero x y columns are few short = absurd (omega (arith, few))
  columns_cover day place (suc n) zero y columns are few short =
      let here = in_column day place y are.0 are.2 short in
      let parts = some-append (place + 0) y are.0 (rects_of are.1) in
      let from = columns_from (day +ℤ pos 1) (place + 1) n are.1 are.3 in
      let at : place + 0 ≡ place = omega arith in
      let then : day +ℤ pos 0 ≡ day = omega (arith, ints) in
      let is : SomeCovers place y are.0 ↔ SomeCovers (place + 0) y are.0 = rw at ((λ h. h), (λ h. h)) in
      rw (are.4, then) (
        (λ h. elim (parts.0 h) [
          | inl a ↦ here.0 (is.1 a)
          | inr b ↦ absurd (none_before (place + 1) (place + 0) y (rects_of
              are.1) (omega arith) from b)
        ]),
        (λ h. parts.1 (inl (is.0 (here.1 h)))),
      )
  columns_cover day place (suc n) (suc x) y columns are few short =
      let rest = columns_cover (day +ℤ pos 1) (place + 1) n x y are.1 are.3 (omega (arith, few)) short in
      let parts = some-append (place + suc x) y are.0 (rects_of are.1) in
      let at : place + suc x ≡ place + 1 + x = omega arith in
      let then : day +ℤ pos (suc x) ≡ (day +ℤ pos 1) +ℤ pos x = omega (arith, ints) in
      let never : SomeCovers (place + suc x) y are.0 → ⊥ =
      rw (are.2.each) (elsewhere place (place + suc x) y (day *ℤ pos 86400) are.2.spans (omega arith)) in
      let same : SomeCovers (place + suc x) y (rects_of are.1) ↔ SomeCovers (place + 1 + x) y (rects_of are.1) = rw at (
        (λ h.
            h),
        (λ h. h),
      ) in
      rw (are.4, then) (
        (λ h. elim (parts.0 h) [ inl a ↦ absurd (never a) | inr b ↦ rest.0 (same.0 b) ]),
        (λ h. parts.1 (inr (same.1 (rest.1 h)))),
      )
