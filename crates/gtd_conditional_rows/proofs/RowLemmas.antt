-- The rows of an element close it exactly when its steps do.
use Rattle.std.proofs.Common.{◌≡◌, ◌↔◌, ◌⊎◌, ◌++◌, ◌||◌, ℕ, ℤ, Bool, true, false, not, List, [], ◌∷◌, refl, sym, ◌∙◌, cond}
use Rattle.std.proofs.Common.{subst}
use Rattle.std.proofs.Common.{inl, inr, IsTrue, if◌then◌else◌, get_or}
use Rattle.std.specs.Prelude.{filter}
use Rattle.std.proofs.Common.{◌<◌, arith}
use Rattle.std.proofs.lemmas.Bool.{cases_lt}
use Rattle.gtd_rows.specs.Serving.{ClosesDirection}
use Rattle.gtd_rows.specs.declared.direction.Closed.{Closed}
use Rattle.gtd_rows.specs.declared.direction.Closed.TheVariants.{One, Both}
use Rattle.gtd_rows.specs.declared.direction.Direction.{Direction}
use Rattle.gtd_rows.specs.declared.direction.Direction.TheVariants.{Positive, Negative}
use Rattle.gtd_conditional_rows.specs.Rows.{AreGroups, AreOrdered, AreRows, AtMostOne, Each, IsClosedByRow, IsGroup, Some'}
use Rattle.gtd_conditional_rows.specs.Rows.{is_listed, same_row, steps_in}
use Rattle.gtd_conditional_rows.specs.Steps.{IsClosed}
use Rattle.gtd_conditional_rows.specs.Times.{InTimes, Never, times_of}
use Rattle.gtd_conditional_rows.specs.Timing.{domain_times}
use Rattle.gtd_conditional_rows.specs.Types.{HasType, IsVehicle}
use Rattle.gtd_conditional_rows.specs.declared.row.Row.{Row}
use Rattle.gtd_conditional_rows.specs.declared.step.Step.{Step}
use Rattle.gtd_conditional_rows.proofs.ClosedLemmas.{times-closed}
use Rattle.gtd_conditional_rows.proofs.TypeLemmas.{either, row-same, same-row}

-- the row is one of them
abbrev IsIn : Row → List Row → Type 0
IsIn row [] = ⊥
IsIn row (other ∷ rows) = (other ≡ row) ⊎ IsIn row rows

found : (P : Row → Type 0) (rows : List Row) → Some' P rows → (row : Row) × IsIn row rows × P row
found P [] some = absurd some
found P (r ∷ rows) some = elim some [
  | inl here ↦ (r, inl refl, here)
  | inr more ↦ (let x = found P rows more in (x.0, inr x.1, x.2))
]

put : (P : Row → Type 0) (rows : List Row) (row : Row) → IsIn row rows → P row → Some' P rows
put P [] row is this = absurd is
put P (r ∷ rows) row is this = elim is [ inl e ↦ inl (subst P (sym e) this) | inr more ↦ inr (put P rows row more this) ]

each-is : (P : Row → Type 0) (rows : List Row) (row : Row) → Each P rows → IsIn row rows → P row
each-is P [] row each is = absurd is
each-is P (r ∷ rows) row each is = elim is [ inl e ↦ subst P e each.0 | inr more ↦ each-is P rows row each.1 more ]

in-either : (xs ys : List Row) (row : Row) → IsIn row (xs ++ ys) → IsIn row xs ⊎ IsIn row ys
in-either [] ys row is = inr is
in-either (x ∷ xs) ys row is = elim is [
  | inl e ↦ inl (inl e)
  | inr more ↦ elim (in-either xs ys row more) [ inl a ↦ inl (inr a) | inr b ↦ inr b ]
]

in-first : (xs ys : List Row) (row : Row) → IsIn row xs → IsIn row (xs ++ ys)
in-first [] ys row is = absurd is
in-first (x ∷ xs) ys row is = elim is [ inl e ↦ inl e | inr more ↦ inr (in-first xs ys row more) ]

in-second : (xs ys : List Row) (row : Row) → IsIn row ys → IsIn row (xs ++ ys)
in-second [] ys row is = is
in-second (x ∷ xs) ys row is = inr (in-second xs ys row is)

-- those that pass a test
in-cond : (b : Bool) (x row : Row) (rest more : List Row) → (IsIn row rest → IsIn row more)
    → IsIn row (cond b (x ∷ rest) rest) → (x ≡ row) ⊎ IsIn row more
in-cond true x row rest more f is = elim is [ inl e ↦ inl e | inr later ↦ inr (f later) ]
in-cond false x row rest more f is = inr (f is)

of-filter : (test : Row → Bool) (rows : List Row) (row : Row) → IsIn row (filter test rows) → IsIn row rows
of-filter test [] row is = is
of-filter test (x ∷ rows) row is =
    in-cond (test x) x row (filter test rows) rows (λ more. of-filter test rows row more) is

cond-has : (b : Bool) (x row : Row) (rest : List Row) → b ≡ true → x ≡ row → IsIn row (cond b (x ∷ rest) rest)
cond-has true x row rest e same = inl same
cond-has false x row rest e same = cc

cond-more : (b : Bool) (x row : Row) (rest : List Row) → IsIn row rest → IsIn row (cond b (x ∷ rest) rest)
cond-more true x row rest is = inr is
cond-more false x row rest is = is

to-filter : (test : Row → Bool) (rows : List Row) (row : Row) → IsIn row rows → test row ≡ true → IsIn row (filter test rows)
to-filter test [] row is e = is
to-filter test (x ∷ rows) row is e = elim is [
  | inl same ↦
      cond-has (test x) x row (filter test rows) (subst (λ (r : Row). test r ≡ true) (sym same) e) same
  | inr more ↦ cond-more (test x) x row (filter test rows) (to-filter test rows row more e)
]

-- a row with the same types and domain is listed
or-cases : (a b : Bool) → (a || b) ≡ true → (a ≡ true) ⊎ (b ≡ true)
or-cases true b e = inl refl
or-cases false b e = inr e

pub or-second : (a b : Bool) → b ≡ true → (a || b) ≡ true
or-second true b e = refl
or-second false b e = e

pub or-first : (a b : Bool) → a ≡ true → (a || b) ≡ true
or-first true b e = refl
or-first false b e = cc

listed-found : (row : Row) (rows : List Row) → is_listed row rows ≡ true
    → (other : Row) × IsIn other rows × (same_row row other ≡ true)
listed-found row [] e = cc
listed-found row (r ∷ rows) e = elim (or-cases (same_row row r) (is_listed row rows) e) [
  | inl same ↦ (r, inl refl, same)
  | inr more ↦ (let x = listed-found row rows more in (x.0, inr x.1, x.2))
]

listed-put : (row other : Row) (rows : List Row) → IsIn other rows → same_row row other ≡ true → is_listed row rows ≡ true
listed-put row other [] is same = absurd is
listed-put row other (r ∷ rows) is same = elim is [
  | inl e ↦ or-first (same_row row r) (is_listed row rows) (subst (λ (x : Row). same_row row x ≡ true) (sym e) same)
  | inr more ↦ or-second (same_row row r) (is_listed row rows) (listed-put row other rows more same)
]

pub passes : (test : Row → Bool) (rows : List Row) (row : Row) → IsIn row (filter test rows) → test row ≡ true
passes test [] row is = absurd is
passes test (x ∷ rows) row is = pass (test x) x row (filter test rows) refl is (λ more. passes test rows row more)
  where
    pass : (b : Bool) (x row : Row) (rest : List Row) → test x ≡ b → IsIn row (cond b (x ∷ rest) rest)
        → (IsIn row rest → test row ≡ true) → test row ≡ true
    pass true x row rest e is f = elim is [ inl same ↦ subst (λ (r : Row). test r ≡ true) same e | inr more ↦ f more ]
    pass false x row rest e is f = f is

-- at most one of them
none-append : (P : Row → Type 0) (xs ys : List Row) → Some' P (xs ++ ys) → Some' P xs ⊎ Some' P ys
none-append P [] ys some = inr some
none-append P (x ∷ xs) ys some = elim some [
  | inl h ↦ inl (inl h)
  | inr more ↦ elim (none-append P xs ys more) [ inl a ↦ inl (inr a) | inr b ↦ inr b ]
]

once-append : (P : Row → Type 0) (xs ys : List Row) → AtMostOne P xs → AtMostOne P ys
    → ((a b : Row) → IsIn a xs → IsIn b ys → P a → P b → ⊥) → AtMostOne P (xs ++ ys)
once-append P [] ys first second apart = second
once-append P (x ∷ xs) ys first second apart = (
  (λ this some. elim (none-append P xs ys some) [
    | inl a ↦ first.0 this a
    | inr b ↦ (let y = found P ys b in apart x y.0 (inl refl) y.1 this y.2)
  ]),
  once-append P xs ys first.1 second (λ a b is also. apart a b (inr is) also),
)

some-map : (P Q : Row → Type 0) (rows : List Row) → ((row : Row) → P row → Q row) → Some' P rows → Some' Q rows
some-map P Q [] f some = some
some-map P Q (r ∷ rows) f some = elim some [ inl h ↦ inl (f r h) | inr more ↦ inr (some-map P Q rows f more) ]

once-fewer : (P Q : Row → Type 0) (rows : List Row) → ((row : Row) → Q row → P row) → AtMostOne P rows → AtMostOne Q rows
once-fewer P Q [] f once = once
once-fewer P Q (r ∷ rows) f once =
    ((λ this some. once.0 (f r this) (some-map Q P rows f some)), once-fewer P Q rows f once.1)

some-filter : (P : Row → Type 0) (test : Row → Bool) (rows : List Row) → Some' P (filter test rows) → Some' P rows
some-filter P test rows some =
    let x = found P (filter test rows) some in put P rows x.0 (of-filter test rows x.0 x.1) x.2

once-cond : (P : Row → Type 0) (b : Bool) (r : Row) (rest : List Row) → (P r → Some' P rest → ⊥) → AtMostOne P rest
    → AtMostOne P (cond b (r ∷ rest) rest)
once-cond P true r rest apart once = (apart, once)
once-cond P false r rest apart once = once

once-filter : (P : Row → Type 0) (test : Row → Bool) (rows : List Row) → AtMostOne P rows → AtMostOne P (filter test rows)
once-filter P test [] once = once
once-filter P test (r ∷ rows) once =
    once-cond P (test r) r (filter test rows) (λ this some. once.0 this (some-filter P test rows some))
    (once-filter P test rows once.1)

once-same : (P : Row → Type 0) (rows : List Row) (a b : Row) → AtMostOne P rows → IsIn a rows → IsIn b rows → P a → P b
    → a ≡ b
once-same P [] a b once is also x y = absurd is
once-same P (r ∷ rows) a b once is also x y = elim is [
  | inl e ↦ elim also [
    | inl f ↦ sym e ∙ f
    | inr more ↦ absurd (once.0 (subst P (sym e) x) (put P rows b more y))
  ]
  | inr more ↦ elim also [
    | inl f ↦ absurd (once.0 (subst P (sym f) y) (put P rows a more x))
    | inr later ↦ once-same P rows a b once.1 more later x y
  ]
]

-- rows in order have types above the bound alone
ordered-above : (bound : ℕ) (rows : List Row) (row : Row) (u : ℕ) → AreOrdered bound rows → IsIn row rows → IsVehicle u
    → HasType row.types u → bound < u
ordered-above bound [] row u ordered is v has = absurd is
ordered-above bound (r ∷ rows) row u ordered is v has = elim is [
  | inl e ↦ elim (cases_lt u ordered.0) [
    | inl lt ↦ absurd (ordered.2.lowest u v lt (subst (λ (x : Row). HasType x.types u) (sym e) has))
    | inr le ↦ (let low : bound < ordered.0 = ordered.1 in omega (arith, low, le))
  ]
  | inr more ↦ (
      let low : bound < ordered.0 = ordered.1 in
      let lt = ordered-above ordered.0 rows row u ordered.3 more v has in
      omega (arith, low, lt))
]

ordered-once : (steps : List Step) (bound : ℕ) (rows : List Row) → Each (IsGroup steps) rows → AreOrdered bound rows
    → (t : ℕ) → IsVehicle t → AtMostOne (λ row. HasType row.types t) rows
ordered-once steps bound [] each ordered t v = tt
ordered-once steps bound (r ∷ rows) each ordered t v = (
  (λ this some.
      let x = found (λ row. HasType row.types t) rows some in
      let group = each-is (IsGroup steps) rows x.0 each.1 x.1 in
      let low = ordered.2 in
      let own : times_of steps ordered.0 ≡ domain_times r.domain = (each.0 ordered.0 low.vehicle).0 low.has in
      let same : domain_times r.domain ≡ domain_times x.0.domain = sym ((each.0 t v).0 this) ∙ (group t v).0 x.2 in
      let has = (group ordered.0 low.vehicle).1 (own ∙ same) in
      let lt : ordered.0 < ordered.0 = ordered-above ordered.0 rows x.0 ordered.0 ordered.3 x.1 low.vehicle has in
      omega (arith, lt)),
  ordered-once steps ordered.0 rows each.1 ordered.3 t v,
)

module _ (t : ℕ) (s : ℤ) (vehicle : IsVehicle t) where
  -- the row closes the type at the second in the directions that it closes
  abbrev HasNow : Row → Type 0
  HasNow row = HasType row.types t × InTimes (domain_times row.domain) s

  has-alike : (a b : Row) → same_row a b ≡ true → HasNow a → HasNow b
  has-alike a b e x =
      let same = row-same a b e in
      (subst (λ (has : List Bool). IsTrue (get_or has t false)) same.0 x.0, rw same.1 at x.1)

  -- the rows of a direction
  group-closes : (steps : List Step) (rows : List Row) (row : Row) → AreGroups steps rows → IsIn row rows → HasNow row
      → IsClosed steps t s
  group-closes steps rows row g is x =
      let same = (each-is (IsGroup steps) rows row g.each is t vehicle).0 x.0 in
      (times-closed steps t s).0 (rw same x.1)

  group-of : (steps : List Step) (rows : List Row) → AreGroups steps rows → IsClosed steps t s
      → (row : Row) × IsIn row rows × HasNow row
  group-of steps rows g closed =
      let now = (times-closed steps t s).1 closed in
      let ever : times_of steps t ≡ Never → ⊥ = λ never. rw never at now in
      let some = found (λ row. HasType row.types t) rows (g.all t vehicle ever) in
      let same = (each-is (IsGroup steps) rows some.0 g.each some.1 t vehicle).0 some.2 in
      (some.0, some.1, (some.2, rw same at now))

  -- which directions a row closes
  closes-own : (b : Bool) (closed : Closed) (d : Direction) → closed ≡ (if b then Both else One d) → ClosesDirection closed d
  closes-own true closed d e = rw e tt
  closes-own false closed d e = rw e refl

  closes-both : (b : Bool) (closed : Closed) → closed ≡ (if b then Both else One Positive) → ClosesDirection closed Negative
      → b ≡ true
  closes-both true closed e closes = refl
  closes-both false closed e closes = let no : Positive ≡ Negative = rw e at closes in cc

  closes-other : (closed : Closed) → closed ≡ One Negative → ClosesDirection closed Positive → ⊥
  closes-other closed e closes = let no : Negative ≡ Positive = rw e at closes in cc

  not-true : (b : Bool) → b ≡ false → not b ≡ true
  not-true true e = cc
  not-true false e = refl

  not-both : (b : Bool) → b ≡ true → not b ≡ true → ⊥
  not-both true e f = cc
  not-both false e f = cc

  -- rows of groups have no type in common
  groups-once : (steps : List Step) (rows : List Row) → AreGroups steps rows → AtMostOne (λ row. HasType row.types t) rows
  groups-once steps rows g = ordered-once steps 0 rows g.each g.ordered t vehicle

  module _ (positive negative : List Step) (rows : List Row) (are : AreRows positive negative rows) where
    abbrev Closes : Direction → Row → Type 0
    Closes d row = ClosesDirection row.closed d × HasType row.types t × InTimes (domain_times row.domain) s

    is-either : (row : Row) → IsIn row rows → IsIn row are.forward ⊎ IsIn row are.backward
    is-either row is = elim (in-either are.forward _ row (rw are.are at is)) [
      | inl a ↦ inl a
      | inr b ↦ inr (of-filter _ are.backward row b)
    ]

    marked : (row : Row) → IsIn row are.forward → row.closed ≡ (if is_listed row are.backward then Both else One Positive)
    marked row is =
        each-is (λ row. row.closed ≡ (if is_listed row are.backward then Both else One Positive)) are.forward row
        are.forward_closed is

    one-way : (row : Row) → IsIn row are.backward → row.closed ≡ One Negative
    one-way row is = each-is (λ row. row.closed ≡ One Negative) are.backward row are.backward_closed is

    row-in : (d : Direction) (row : Row) → IsIn row (are.forward ++ filter (λ row. not (is_listed row are.forward)) are.backward)
        → Closes d row → Some' (Closes d) rows
    row-in d row is x = put (Closes d) rows row (rw are.are is) x

    positive-closed : Some' (Closes Positive) rows → IsClosed positive t s
    positive-closed some =
        let x = found (Closes Positive) rows some in
        elim (is-either x.0 x.1) [
          | inl a ↦ group-closes positive are.forward x.0 are.forward_groups a (x.2.1, x.2.2)
          | inr b ↦ absurd (closes-other x.0.closed (one-way x.0 b) x.2.0)
        ]

    closed-positive : IsClosed positive t s → Some' (Closes Positive) rows
    closed-positive closed =
        let x = group-of positive are.forward are.forward_groups closed in
        row-in Positive x.0 (in-first are.forward _ x.0 x.1)
        (closes-own (is_listed x.0 are.backward) x.0.closed Positive (marked x.0 x.1), x.2.0, x.2.1)

    negative-closed : Some' (Closes Negative) rows → IsClosed negative t s
    negative-closed some =
        let x = found (Closes Negative) rows some in
        elim (is-either x.0 x.1) [
          | inl a ↦ (
              let listed = closes-both (is_listed x.0 are.backward) x.0.closed (marked x.0 a) x.2.0 in
              let other = listed-found x.0 are.backward listed in
              group-closes negative are.backward other.0 are.backward_groups other.1
              (has-alike x.0 other.0 other.2 (x.2.1, x.2.2)))
          | inr b ↦ group-closes negative are.backward x.0 are.backward_groups b (x.2.1, x.2.2)
        ]

    closed-negative : IsClosed negative t s → Some' (Closes Negative) rows
    closed-negative closed =
        let x = group-of negative are.backward are.backward_groups closed in
        elim (either (is_listed x.0 are.forward)) [
          | inl listed ↦ (
              let other = listed-found x.0 are.forward listed in
              let same = row-same x.0 other.0 other.2 in
              let back = same-row other.0 x.0 (sym same.0) (sym same.1) in
              let both = listed-put other.0 x.0 are.backward x.1 back in
              let now = has-alike x.0 other.0 other.2 x.2 in
              row-in Negative other.0 (in-first are.forward _ other.0 other.1)
              (rw (marked other.0 other.1, both) tt, now.0, now.1))
          | inr not_listed ↦
              row-in Negative x.0
              (in-second are.forward _ x.0
              (to-filter (λ row. not (is_listed row are.forward)) are.backward x.0 x.1 (not-true _ not_listed)))
              (rw (one-way x.0 x.1) refl, x.2.0, x.2.1)
        ]

    -- a row of the negative direction alone has no type of a row of the positive one that closes it too
    apart : (d : Direction) (a b : Row) → IsIn a are.forward
        → IsIn b (filter (λ row. not (is_listed row are.forward)) are.backward)
        → ClosesDirection a.closed d × HasType a.types t → ClosesDirection b.closed d × HasType b.types t → ⊥
    apart Positive a b first second x y =
        closes-other b.closed (one-way b (of-filter (λ row. not (is_listed row are.forward)) are.backward b second)) y.0
    apart Negative a b first second x y =
        let listed = closes-both (is_listed a are.backward) a.closed (marked a first) x.0 in
        let other = listed-found a are.backward listed in
        let same = row-same a other.0 other.2 in
        let has : HasType other.0.types t = subst (λ (has : List Bool). IsTrue (get_or has t false)) same.0 x.1 in
        let is = of-filter (λ row. not (is_listed row are.forward)) are.backward b second in
        let one = once-same (λ row. HasType row.types t) are.backward other.0 b
        (groups-once negative are.backward are.backward_groups) other.1 is has y.1 in
        let back : same_row b a ≡ true =
        subst (λ (row : Row). same_row row a ≡ true) one (same-row other.0 a (sym same.0) (sym same.1)) in
        not-both (is_listed b are.forward) (listed-put b a are.forward first back)
        (passes (λ row. not (is_listed row are.forward)) are.backward b second)

    pub rows-close : (d : Direction) → IsClosedByRow rows d t s ↔ IsClosed (steps_in positive negative d) t s
    rows-close Positive = (positive-closed, closed-positive)
    rows-close Negative = (negative-closed, closed-negative)

    -- a type is in at most one row of a direction
    pub rows-once : (d : Direction) → AtMostOne (λ row. ClosesDirection row.closed d × HasType row.types t) rows
    rows-once d =
        rw are.are
        (once-append (λ row. ClosesDirection row.closed d × HasType row.types t) are.forward
        (filter (λ row. not (is_listed row are.forward)) are.backward)
        (once-fewer (λ row. HasType row.types t) (λ row. ClosesDirection row.closed d × HasType row.types t) are.forward
        (λ row x. x.1) (groups-once positive are.forward are.forward_groups))
        (once-filter (λ row. ClosesDirection row.closed d × HasType row.types t) (λ row. not (is_listed row are.forward))
        are.backward
        (once-fewer (λ row. HasType row.types t) (λ row. ClosesDirection row.closed d × HasType row.types t) are.backward
        (λ row x. x.1) (groups-once negative are.backward are.backward_groups)))
        (apart d))
