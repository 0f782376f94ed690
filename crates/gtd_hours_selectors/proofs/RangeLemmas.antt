-- Ranges from a day of each year to another: from the first day on, without what comes after the last one.
use Rattle.std.proofs.Common.{◌≡◌, ◌⊎◌, inl, inr, ap, sym, subst, arith, ℕ, ◌≤◌}
use Rattle.std.proofs.Common.{ℤ, pos, ◌+ℤ◌, ◌-ℤ◌, ◌*ℤ◌, ◌≤ℤ◌, ◌<ℤ◌}
use Rattle.std.proofs.lemmas.Int.{by_lt_z}
use Rattle.std.specs.Int.{int_div_euclid, int_rem_euclid}
use Rattle.gtd_calendar.specs.facts.Signed.{signed_arith, one_part}

-- The first days of months rise, each month is 28 days or longer, and a day of each year is in the same month of it.
abbrev pub Rises : (ℤ → ℤ) → Type 0
Rises f = ((t u : ℤ) → t ≤ℤ u → f t ≤ℤ f u) × ((t : ℤ) → (f t +ℤ pos 28) ≤ℤ f (t +ℤ pos 1))

abbrev pub IsInMonth : (ℤ → ℤ) → ℤ → ℤ → Type 0
IsInMonth f t n = (f t ≤ℤ n) × (n <ℤ f (t +ℤ pos 1))

-- the months of year y are counted from this on
abbrev pub in_year : ℤ → ℤ → ℤ
in_year y i = pos 12 *ℤ y +ℤ i

abbrev pub EachYear : (ℤ → ℤ) → ℤ → (ℤ → ℤ) → Type 0
EachYear f i x = (y : ℤ) → IsInMonth f (in_year y i) (x y)

-- the day is in one of the stretches from x to r, and not among the first p days of one
abbrev pub IsPast : (ℤ → ℤ) → (ℤ → ℤ) → ℕ → ℤ → Type 0
IsPast x r p n =
    ((y : ℤ) × (x y ≤ℤ n) × (n <ℤ r y)) × (((y : ℤ) × (x y ≤ℤ n) × (n <ℤ (x y +ℤ pos p))) → ⊥)

-- the day is from p days after x on and before d days after z
abbrev pub IsWithinOne : (ℤ → ℤ) → (ℤ → ℤ) → ℕ → ℕ → ℤ → Type 0
IsWithinOne x z p d n = (y : ℤ) × ((x y +ℤ pos p) ≤ℤ n) × (n <ℤ (z y +ℤ pos d))

-- so many days after a day of one month are before the next month but one
pub soon : (f : ℤ → ℤ) → Rises f → (t n m : ℤ) (p : ℕ) → p ≤ 28 → IsInMonth f t n → m <ℤ (n +ℤ pos p) → m <ℤ f (t +ℤ pos 2)
soon f rises t n m p few lies lt =
    let step = rises.1 (t +ℤ pos 1) in
    let two : (t +ℤ pos 1) +ℤ pos 1 ≡ t +ℤ pos 2 = omega (arith, signed_arith) in
    near n m (f (t +ℤ pos 1)) (f (t +ℤ pos 2)) p few lies.1 lt (rw two at step)
  where
    near : (n m a b : ℤ) (p : ℕ) → p ≤ 28 → n <ℤ a → m <ℤ (n +ℤ pos p) → (a +ℤ pos 28) ≤ℤ b → m <ℤ b
    near n m a b p few q r s = omega (arith, signed_arith)

-- a day before a month is not from a later one on
pub crossed : (f : ℤ → ℤ) → Rises f → (t u m n : ℤ) → t ≤ℤ u → m <ℤ f t → f u ≤ℤ n → n ≤ℤ m → ⊥
crossed f rises t u m n le lt low back = none m n (f t) (f u) lt (rises.0 t u le) low back
  where
    none : (m n a b : ℤ) → m <ℤ a → a ≤ℤ b → b ≤ℤ n → n ≤ℤ m → ⊥
    none m n a b p q r s = omega (arith, signed_arith)

at-least : (f : ℤ → ℤ) → Rises f → (t u m n : ℤ) → t ≤ℤ u → m <ℤ f t → f u ≤ℤ n → m <ℤ n
at-least f rises t u m n le lt low = from m n (f t) (f u) lt (rises.0 t u le) low
  where
    from : (m n a b : ℤ) → m <ℤ a → a ≤ℤ b → b ≤ℤ n → m <ℤ n
    from m n a b p q r = omega (arith, signed_arith)

on-or-after : (x m : ℤ) (p : ℕ) → (x +ℤ pos p) ≤ℤ m → x ≤ℤ m
on-or-after x m p le = omega (arith, signed_arith)

-- the first days of an earlier year are over before a later year's day
earlier-over : (f : ℤ → ℤ) → Rises f → (i : ℤ) (x : ℤ → ℤ) (p : ℕ) → p ≤ 28 → EachYear f i x → (y z m : ℤ) → y <ℤ z
    → m <ℤ (x y +ℤ pos p) → x z ≤ℤ m → ⊥
earlier-over f rises i x p few each y z m lt before after =
    crossed f rises (in_year y i +ℤ pos 2) (in_year z i) m (x z) (omega (arith, signed_arith, lt))
    (soon f rises (in_year y i) (x y) m p few (each y) before) (each z).0 after

module _ (f : ℤ → ℤ) (rises : Rises f) (x z rx rz : ℤ → ℤ) (i j : ℤ) (k p d : ℕ) (few : k ≤ 10) (small : p ≤ 28) (short : d ≤ 28)
    (months : j +ℤ pos 2 ≡ i +ℤ pos k) (xs : EachYear f i x) (zs : EachYear f j z) (rxs : EachYear f (i +ℤ pos k) rx)
    (rzs : EachYear f (j +ℤ pos 3) rz) where
  -- what is after the last day of a year lasts until from the first day on has ended
  ends : (y m : ℤ) → m <ℤ rx y → m <ℤ rz y
  ends y m lt =
      at-least f rises (in_year y (i +ℤ pos k) +ℤ pos 1) (in_year y (j +ℤ pos 3)) m (rz y) (counted y i j k months)
      (until m (rx y) _ lt (rxs y).1) (rzs y).0
    where
      counted : (y i j : ℤ) (k : ℕ) → j +ℤ pos 2 ≡ i +ℤ pos k → (in_year y (i +ℤ pos k) +ℤ pos 1) ≤ℤ in_year y (j +ℤ pos 3)
      counted y i j k e = omega (arith, signed_arith)

      until : (m a b : ℤ) → m <ℤ a → a <ℤ b → m <ℤ b
      until m a b q r = omega (arith, signed_arith)

  -- a day before so many days after the last one is before the end of from the first day on
  lasts : (y m : ℤ) → m <ℤ (z y +ℤ pos d) → m <ℤ rx y
  lasts y m lt =
      at-least f rises (in_year y j +ℤ pos 2) (in_year y (i +ℤ pos k)) m (rx y) (counted y i j k months)
      (soon f rises (in_year y j) (z y) m d short (zs y) lt) (rxs y).0
    where
      counted : (y i j : ℤ) (k : ℕ) → j +ℤ pos 2 ≡ i +ℤ pos k → (in_year y j +ℤ pos 2) ≤ℤ in_year y (i +ℤ pos k)
      counted y i j k e = omega (arith, signed_arith)

  pub range-to : (m : ℤ) → IsPast x rx p m → (IsPast z rz d m → ⊥) → IsWithinOne x z p d m
  range-to m h late =
      let y : ℤ = h.0.0 in (
        y,
        by_lt_z m (x y +ℤ pos p) (λ lt. absurd (h.1 (y, h.0.1, lt))) (λ le. le),
        by_lt_z m (z y +ℤ pos d)
            (λ lt. lt)
            (λ le. absurd (late ((y, on-or-after (z y) m d le, ends y m h.0.2), none y m le h.0.2))),
      )
    where
      none : (y m : ℤ) → (z y +ℤ pos d) ≤ℤ m → m <ℤ rx y → (((v : ℤ) × (z v ≤ℤ m) × (m <ℤ (z v +ℤ pos d))) → ⊥)
      none y m le lt there =
          let v : ℤ = there.0 in
          by_lt_z v y
          (λ before. earlier-over f rises j z d short zs v y m before there.2 (on-or-after (z y) m d le))
          (λ ge.
          by_lt_z y v
          (λ after.
          crossed f rises (in_year y (i +ℤ pos k) +ℤ pos 1) (in_year v j) m (z v) (counted y v i j k months after)
          (until m (rx y) _ lt (rxs y).1) (zs v).0 there.1)
          (λ same.
          let e : v ≡ y = omega (arith, signed_arith, ge, same) in
          beyond m (z v) (z y) d (ap z e) le there.2))
        where
          counted : (y v i j : ℤ) (k : ℕ) → j +ℤ pos 2 ≡ i +ℤ pos k → y <ℤ v
              → (in_year y (i +ℤ pos k) +ℤ pos 1) ≤ℤ in_year v j
          counted y v i j k e lt = omega (arith, signed_arith)

          until : (m a b : ℤ) → m <ℤ a → a <ℤ b → m <ℤ b
          until m a b q r = omega (arith, signed_arith)

          beyond : (m a b : ℤ) (d : ℕ) → a ≡ b → (b +ℤ pos d) ≤ℤ m → m <ℤ (a +ℤ pos d) → ⊥
          beyond m a b d e q r = omega (arith, signed_arith)

  pub range-from : (m : ℤ) → IsWithinOne x z p d m → IsPast x rx p m × (IsPast z rz d m → ⊥)
  range-from m h =
      let y : ℤ = h.0 in
      let on = on-or-after (x y) m p h.1 in
      (((y, on, lasts y m h.2), first y m h.1 h.2), past y m on h.2)
    where
      first : (y m : ℤ) → (x y +ℤ pos p) ≤ℤ m → m <ℤ (z y +ℤ pos d) → (((v : ℤ) × (x v ≤ℤ m) × (m <ℤ (x v +ℤ pos p))) → ⊥)
      first y m le lt there =
          let v : ℤ = there.0 in
          by_lt_z v y
          (λ before. earlier-over f rises i x p small xs v y m before there.2 (on-or-after (x y) m p le))
          (λ ge.
          by_lt_z y v
          (λ after.
          crossed f rises (in_year y j +ℤ pos 2) (in_year v i) m (x v) (counted y v i j k few months after)
          (soon f rises (in_year y j) (z y) m d short (zs y) lt) (xs v).0 there.1)
          (λ same.
          let e : v ≡ y = omega (arith, signed_arith, ge, same) in
          beyond m (x v) (x y) p (ap x e) le there.2))
        where
          counted : (y v i j : ℤ) (k : ℕ) → k ≤ 10 → j +ℤ pos 2 ≡ i +ℤ pos k → y <ℤ v → (in_year y j +ℤ pos 2) ≤ℤ in_year v i
          counted y v i j k few e lt = omega (arith, signed_arith)

          beyond : (m a b : ℤ) (d : ℕ) → a ≡ b → (b +ℤ pos d) ≤ℤ m → m <ℤ (a +ℤ pos d) → ⊥
          beyond m a b d e q r = omega (arith, signed_arith)

      past : (y m : ℤ) → x y ≤ℤ m → m <ℤ (z y +ℤ pos d) → IsPast z rz d m → ⊥
      past y m on lt there =
          let v : ℤ = there.0.0 in
          by_lt_z v y
          (λ before.
          crossed f rises (in_year v (j +ℤ pos 3) +ℤ pos 1) (in_year y i) m (x y) (ended v y i j k few months before)
          (until m (rz v) _ there.0.2 (rzs v).1) (xs y).0 on)
          (λ ge.
          by_lt_z y v
          (λ after.
          crossed f rises (in_year y j +ℤ pos 2) (in_year v j) m (z v) (counted y v j after)
          (soon f rises (in_year y j) (z y) m d short (zs y) lt) (zs v).0 there.0.1)
          (λ same.
          let e : v ≡ y = omega (arith, signed_arith, ge, same) in
          there.1 (v, there.0.1, subst (λ (u : ℤ). m <ℤ (z u +ℤ pos d)) (sym e) lt)))
        where
          ended : (v y i j : ℤ) (k : ℕ) → k ≤ 10 → j +ℤ pos 2 ≡ i +ℤ pos k → v <ℤ y
              → (in_year v (j +ℤ pos 3) +ℤ pos 1) ≤ℤ in_year y i
          ended v y i j k few e lt = omega (arith, signed_arith)

          counted : (y v j : ℤ) → y <ℤ v → (in_year y j +ℤ pos 2) ≤ℤ in_year v j
          counted y v j lt = omega (arith, signed_arith)

          until : (m a b : ℤ) → m <ℤ a → a <ℤ b → m <ℤ b
          until m a b q r = omega (arith, signed_arith)

-- ---- all days but those between two ranges

-- each day is from one first day on and before the next one
year-of-range : (f : ℤ → ℤ) → Rises f → (i : ℤ) (x : ℤ → ℤ) (p : ℕ) → p ≤ 28 → EachYear f i x → (t m : ℤ) → IsInMonth f t m
    → (y : ℤ) × ((x y +ℤ pos p) ≤ℤ m) × (m <ℤ (x (y +ℤ pos 1) +ℤ pos p))
year-of-range f rises i x p few each t m lies =
    let y = int_div_euclid (t -ℤ i) (pos 12) in
    let part = one_part (int_rem_euclid (t -ℤ i) (pos 12)) in
    let low : in_year y i ≤ℤ t = omega (arith, signed_arith) in
    let high : (t +ℤ pos 1) ≤ℤ in_year (y +ℤ pos 1) i = omega (arith, signed_arith) in
    by_lt_z m (x y +ℤ pos p)
    (λ lt.
    let last = y -ℤ pos 1 in
    let same : last +ℤ pos 1 ≡ y = omega (arith, signed_arith) in (
      last,
      by_lt_z m (x last +ℤ pos p)
          (λ early. absurd (crossed f rises (in_year last i +ℤ pos 2) t m m (turned y i t low)
          (soon f rises (in_year last i) (x last) m p few (each last) early) lies.0 (omega (arith, signed_arith)))) (λ le. le),
      subst (λ (u : ℤ). m <ℤ (x u +ℤ pos p)) (sym same) lt,
    ))
    (λ le. (
      y,
      le,
      further m (x (y +ℤ pos 1)) p (at-least f rises (t +ℤ pos 1) (in_year (y +ℤ pos 1) i) m (x (y +ℤ pos 1)) high lies.1
          (each (y +ℤ pos 1)).0),
    ))
  where
    turned : (y i t : ℤ) → in_year y i ≤ℤ t → (in_year (y -ℤ pos 1) i +ℤ pos 2) ≤ℤ t
    turned y i t le = omega (arith, signed_arith)

    further : (m a : ℤ) (p : ℕ) → m <ℤ a → m <ℤ (a +ℤ pos p)
    further m a p lt = omega (arith, signed_arith)

-- the days of a later year are later
later-days : (f : ℤ → ℤ) → Rises f → (i : ℤ) (x : ℤ → ℤ) (p : ℕ) → p ≤ 28 → EachYear f i x → (y z : ℤ) → y ≤ℤ z
    → (x y +ℤ pos p) ≤ℤ (x z +ℤ pos p)
later-days f rises i x p few each y z le =
    by_lt_z y z
    (λ lt. by_lt_z (x z +ℤ pos p) (x y +ℤ pos p)
    (λ back. absurd (earlier-over f rises i x p few each y z (x z) lt (less (x z) (x y) p back) (omega (arith, signed_arith))))
    (λ ge. ge))
    (λ ge. let e : y ≡ z = omega (arith, signed_arith, le, ge) in rw e (omega (arith, signed_arith)))
  where
    less : (a b : ℤ) (p : ℕ) → (a +ℤ pos p) <ℤ (b +ℤ pos p) → a <ℤ (b +ℤ pos p)
    less a b p lt = omega (arith, signed_arith)

module _ (f : ℤ → ℤ) (rises : Rises f) (x z : ℤ → ℤ) (i j : ℤ) (p d : ℕ) (small : p ≤ 28) (short : d ≤ 28)
    (xs : EachYear f i x) (zs : EachYear f j z) (ordered : (y : ℤ) → ((x y +ℤ pos p) ≤ℤ (z y +ℤ pos d))
    × ((z y +ℤ pos d) ≤ℤ (x (y +ℤ pos 1) +ℤ pos p))) where
  pub rest-or : (t m : ℤ) → IsInMonth f t m → IsWithinOne x z p d m ⊎ IsWithinOne z (λ (y : ℤ). x (y +ℤ pos 1)) d p m
  rest-or t m lies =
      let v = year-of-range f rises i x p small xs t m lies in
      let y : ℤ = v.0 in
      by_lt_z m (z y +ℤ pos d) (λ lt. inl (y, v.1, lt)) (λ le. inr (y, le, v.2))

  pub rest-from : (m : ℤ) → IsWithinOne x z p d m → IsWithinOne z (λ (y : ℤ). x (y +ℤ pos 1)) d p m → ⊥
  rest-from m h there =
      let y : ℤ = h.0 in
      let v : ℤ = there.0 in
      by_lt_z v y
      (λ lt.
      apart m (x (v +ℤ pos 1) +ℤ pos p) (x y +ℤ pos p) there.2
      (later-days f rises i x p small xs (v +ℤ pos 1) y (omega (arith, signed_arith, lt))) h.1)
      (λ ge. apart m (z y +ℤ pos d) (z v +ℤ pos d) h.2 (later-days f rises j z d short zs y v ge) there.1)
    where
      apart : (m a b : ℤ) → m <ℤ a → a ≤ℤ b → b ≤ℤ m → ⊥
      apart m a b p q r = omega (arith, signed_arith)
