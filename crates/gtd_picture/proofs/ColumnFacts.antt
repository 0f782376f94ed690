-- The columns of days.
use Rattle.std.proofs.Common.{◌≡◌, ◌∙◌, sym, ap, refl, subst, ◌≤◌, ◌+◌, ◌-◌, ◌↔◌, ℕ, zero, suc, arith}
use Rattle.std.proofs.Common.{List, [], ◌∷◌, ◌++◌, length, map}
use Rattle.std.specs.Prelude.{ℤ, pos, ◌+ℤ◌, ◌*ℤ◌, ◌≤ℤ◌, ◌<ℤ◌}
use Rattle.std.proofs.lemmas.Int.{ints}
use Rattle.gtd_core.specs.Seconds.{Interval}
use Rattle.gtd_spans.specs.Normal.{Holds}
use Rattle.gtd_spans.specs.facts.NormalFor.{normal-for, normal-of, one-normal-list}
use Rattle.gtd_spans.specs.Counting.{part_within}
use Rattle.gtd_picture.specs.Picture.{AreColumns, IsColumn, Rect, day_line, day_lines, rect_of}
use Rattle.gtd_spans.specs.facts.PartFacts.{part-normal-for}

-- the seconds of a day
abbrev pub stretch_of : ℤ → Interval
stretch_of day = record { from = day *ℤ pos 86400; until = (day +ℤ pos 1) *ℤ pos 86400 }

-- the column of a list of spans
abbrev pub column_of : ℤ → ℕ → List Interval → List Rect
column_of day place xs = map (rect_of place (day *ℤ pos 86400)) (part_within (stretch_of day) xs)

pub held_column : (xs : List Interval) (day : ℤ) (place : ℕ) → IsColumn (Holds xs) day place (column_of day place xs)
held_column xs day place = record {
  spans = part_within (stretch_of day) xs;
  normal = part-normal-for (stretch_of day) xs;
  each = refl;
}

-- a day has one column
pub one_column : (set : ℤ → Type 0) (day : ℤ) (place : ℕ) (a b : List Rect) → IsColumn set day place a
    → IsColumn set day place b → a ≡ b
one_column set day place a b p q =
    p.each
    ∙ ap (map (rect_of place (day *ℤ pos 86400)))
    (one-normal-list set (day *ℤ pos 86400) ((day +ℤ pos 1) *ℤ pos 86400) p.spans q.spans p.normal q.normal)
    ∙ sym q.each

-- sets with the same seconds on a day have the same column
pub same_column : (one two : ℤ → Type 0) (day : ℤ) (place : ℕ) (column : List Rect)
    → ((t : ℤ) → (day *ℤ pos 86400) ≤ℤ t → t <ℤ ((day +ℤ pos 1) *ℤ pos 86400) → one t ↔ two t)
    → IsColumn one day place column → IsColumn two day place column
same_column one two day place column h p = record {
  spans = p.spans;
  normal = normal-for two (day *ℤ pos 86400) ((day +ℤ pos 1) *ℤ pos 86400) p.spans
      (normal-of one (day *ℤ pos 86400) ((day +ℤ pos 1) *ℤ pos 86400) p.spans p.normal)
      (λ t. (
        (λ k. let w = p.normal.inside t k in (w.0, w.1, (h t w.0 w.1).0 w.2)),
        (λ w. p.normal.complete t (w.0, w.1, (h t w.0 w.1).1 w.2)),
      ));
  each = p.each;
}

module _ (set : ℤ → Type 0) where
  pub no_columns : (day : ℤ) (place : ℕ) → AreColumns set day place 0 []
  unfolding AreColumns
  no_columns day place = refl

  single : (day : ℤ) (place : ℕ) (column : List Rect) → IsColumn set day place column → AreColumns set day place 1 (column ∷ [])
  unfolding AreColumns
  single day place column is = (column, [], is, refl, refl)

  -- the columns of some days, and of the days after them
  columns_then : (day next : ℤ) (place there n m : ℕ) (a b : List (List Rect)) → next ≡ day +ℤ pos n → there ≡ place + n
      → AreColumns set day place n a → AreColumns set next there m b → AreColumns set day place (n + m) (a ++ b)
  unfolding AreColumns
  columns_then day next place there zero m a b e f p q =
      let same : next ≡ day = omega (arith, ints, e) in
      let at : there ≡ place = omega (arith, f) in
      let none : 0 + m ≡ m = omega arith in
      rw (none, p, ← same, ← at) q
  columns_then day next place there (suc n) m a b e f p q =
      let r = columns_then (day +ℤ pos 1) next (place + 1) there n m p.1 b (omega (arith, ints, e)) (omega (arith, f)) p.3 q in
      let k : suc n + m ≡ suc (n + m) = omega arith in
      rw k (p.0, p.1 ++ b, p.2, r, ap (λ (l : List (List Rect)). l ++ b) p.4)

  -- days have one list of columns
  pub one_columns : (day : ℤ) (place n : ℕ) (a b : List (List Rect)) → AreColumns set day place n a
      → AreColumns set day place n b → a ≡ b
  unfolding AreColumns
  one_columns day place zero a b p q = p ∙ sym q
  one_columns day place (suc n) a b p q =
      let first = one_column set day place p.0 q.0 p.2 q.2 in
      let rest = one_columns (day +ℤ pos 1) (place + 1) n p.1 q.1 p.3 q.3 in
      p.4 ∙ ap (λ (c : List Rect). c ∷ p.1) first ∙ ap (λ (l : List (List Rect)). q.0 ∷ l) rest ∙ sym q.4

  pub length-columns : (day : ℤ) (place n : ℕ) (a : List (List Rect)) → AreColumns set day place n a → length a ≡ n
  unfolding AreColumns
  length-columns day place zero a p = ap length p
  length-columns day place (suc n) a p =
      let r = length-columns (day +ℤ pos 1) (place + 1) n p.1 p.3 in
      let l = ap length p.4 in
      omega (arith, l, r)

-- the days of a list of spans have columns
pub held_columns : (xs : List Interval) (day : ℤ) (place n : ℕ)
    → (columns : List (List Rect)) × AreColumns (Holds xs) day place n columns
unfolding AreColumns
held_columns xs day place zero = ([], refl)
held_columns xs day place (suc n) =
    let r = held_columns xs (day +ℤ pos 1) (place + 1) n in
    (column_of day place xs ∷ r.0, (column_of day place xs, r.0, held_column xs day place, r.1, refl))

-- sets that have the same seconds on those days have the same columns
pub same_columns : (one two : ℤ → Type 0) (day : ℤ) (place n : ℕ) (columns : List (List Rect))
    → ((t : ℤ) → (day *ℤ pos 86400) ≤ℤ t → t <ℤ ((day +ℤ pos n) *ℤ pos 86400) → one t ↔ two t)
    → AreColumns one day place n columns → AreColumns two day place n columns
unfolding AreColumns
same_columns one two day place zero columns h p = p
same_columns one two day place (suc n) columns h p = (
  p.0,
  p.1,
  same_column one two day place p.0 (λ t l u. h t l (omega (arith, ints, u))) p.2,
  same_columns one two (day +ℤ pos 1) (place + 1) n p.1 (λ t l u. h t (omega (arith, ints, l)) (omega (arith, ints, u))) p.3,
  p.4,
)

-- the column of one day more
pub one_more : (all now : List Interval) (first day : ℤ) (place : ℕ) (done : List (List Rect)) (column : List Rect)
    → day ≡ first +ℤ pos place → AreColumns (Holds all) first 0 place done
    → ((t : ℤ) → ((first +ℤ pos place) *ℤ pos 86400) ≤ℤ t → Holds all t ↔ Holds now t)
    → IsColumn (Holds now) day place column → AreColumns (Holds all) first 0 (place + 1) (done ++ (column ∷ []))
one_more all now first day place done column is are same made =
    columns_then (Holds all) first day 0 place place 1 done (column ∷ []) is (omega arith) are
    (single (Holds all) day place column
    (same_column (Holds now) (Holds all) day place column
    (λ t l u. let b = same t (omega (arith, ints, is, l)) in (b.1, b.0)) made))

-- the columns of the days so far, and of all
pub whole_picture : (all : List Interval) (first : ℤ) (place days : ℕ) (done : List (List Rect)) → place ≤ days
    → AreColumns (Holds all) first 0 place done → (more : List (List Rect)) × AreColumns (Holds all) first 0 days (done ++ more)
whole_picture all first place days done few are =
    let next : ℤ = first +ℤ pos place in
    let more = held_columns all next place (days - place) in
    let n : place + (days - place) ≡ days = omega arith in
    let r : AreColumns (Holds all) first 0 (place + (days - place)) (done ++ more.0) =
    columns_then (Holds all) first next 0 place place (days - place) done more.0 refl (omega arith) are more.1 in
    (more.0, subst (λ (k : ℕ). AreColumns (Holds all) first 0 k (done ++ more.0)) n r)

-- the lines of the days so far, and of more
pub day_lines-append : (day next : ℤ) (place there : ℕ) (a b : List (List Rect)) → next ≡ day +ℤ pos (length a)
    → there ≡ place + length a
    → day_lines day place (a ++ b) ≡ day_lines day place a ++ day_lines next there b
day_lines-append day next place there [] b e f =
    let same : next ≡ day = omega (arith, ints, e) in
    let at : there ≡ place = omega (arith, f) in
    rw (same, at) refl
day_lines-append day next place there (c ∷ a) b e f =
    ap (λ (l : List (List ℕ)). day_line day place c ∷ l)
    (day_lines-append (day +ℤ pos 1) next (place + 1) there a b (omega (arith, ints, e)) (omega (arith, f)))
