-- The starts of a day lie one step apart.
use Rattle.std.proofs.Common.{◌≡◌, ℕ, zero, suc, ◌+◌, ◌-◌, ◌*◌, ◌/◌, ◌<◌, ◌≤◌, Bool, true, Some, List}
use Rattle.std.proofs.Common.{[], ◌∷◌, ◌++◌, length, drop, refl, sym, ap, ◌∙◌, arith, ◌⊎◌, inl, inr, ℤ, pos}
use Rattle.std.proofs.Common.{◌+ℤ◌, ◌*ℤ◌}
use Rattle.std.proofs.lemmas.Bool.{both_ways, cases_lt}
use Rattle.std.proofs.lemmas.List.{drop-drop, drop_at, length-append}
use Rattle.gtd_calendar.specs.facts.Signed.{signed_arith}
use Rattle.gtd_core.specs.Limits.{last_second_of_day}
use Rattle.gtd_core.specs.declared.start.StartParts.{StartParts}
use Rattle.gtd_recur.specs.Begins.{begins_at}
use Rattle.gtd_recur.specs.ClockSearch.{IsLastPassing, IsNextPassing}
use Rattle.gtd_recur.specs.Stepping.{AreClocks, IsBehindOne, IsStep, Stepped}
use Rattle.gtd_recur.specs.Look.{IsLookBack}
use Rattle.gtd_recur.specs.Starts.{clock_starts, starts_left, AreLeft, IsOpened}
use Rattle.gtd_recur.specs.facts.StartsLemmas.{clock_starts-some, clock_starts-none, clock_starts-nil}

-- the starts of a day behind one of them
pub stepping : (p : StartParts) (n : ℤ) (step last : ℕ) → IsStep (begins_at p) step
    → IsLastPassing (begins_at p) last_second_of_day (Some last) → (f k : ℕ) → begins_at p k ≡ true → k ≤ last → last ≤ k + f
    → Stepped step (pos 86400 *ℤ n +ℤ pos k) (clock_starts p n (k + 1)) (pos 86400 *ℤ n +ℤ pos last)
stepping p n step last is end zero k on low high =
    let same : last ≡ k = omega arith in
    let none : clock_starts p n (k + 1) ≡ [] = clock_starts-none p n (k + 1) (omega (arith, end.0))
    (λ j le lt. end.2 j (omega arith) (omega arith)) in
    rw none (rw same refl)
stepping p n step last is end (suc f) k on low high = elim (cases_lt k last) [
  | inl lt ↦
      let some = is.next k last on end.1 lt (omega (arith, end.0)) in
      let within : k + step ≤ last = elim (cases_lt last (k + step)) [
        | inl less ↦ absurd (both_ways _ (is.between k last on lt less) end.1)
        | inr ge ↦ omega (arith, ge)
      ] in
      let next = clock_starts-some p n (k + 1) (k + step) (
        more k step is.known,
        omega (arith, within, end.0),
        some,
        λ j ge less. is.between k j on (omega arith) less,
      ) in
      rw next (far n k step, stepping p n step last is end f (k + step) some within (left k step last f is.known high))
  | inr ge ↦
      let same : last ≡ k = omega (arith, ge) in
      let none : clock_starts p n (k + 1) ≡ [] = clock_starts-none p n (k + 1) (omega (arith, end.0))
      (λ j le lt. end.2 j (omega arith) (omega arith)) in
      rw none (rw same refl)
]
  where
    more : (k step : ℕ) → (step ≡ 60) ⊎ (step ≡ 3600) → k + 1 ≤ k + step
    more k step e = elim e [ inl x ↦ omega arith | inr x ↦ omega arith ]

    far : (n : ℤ) (k step : ℕ) → pos 86400 *ℤ n +ℤ pos (k + step) ≡ pos 86400 *ℤ n +ℤ pos k +ℤ pos step
    far n k step = omega (arith, signed_arith)

    left : (k step last f : ℕ) → (step ≡ 60) ⊎ (step ≡ 3600) → last ≤ k + suc f → last ≤ k + step + f
    left k step last f e h = elim e [ inl x ↦ omega arith | inr x ↦ omega arith ]

-- how many they are
pub stepped-many : (step : ℕ) (b : ℤ) (xs : List ℤ) (last : ℤ) → (step ≡ 60) ⊎ (step ≡ 3600) → Stepped step b xs last
    → ((step ≡ 60) × (last ≡ b +ℤ pos 60 *ℤ pos (length xs))) ⊎ ((step ≡ 3600) × (last ≡ b +ℤ pos 3600 *ℤ pos (length xs)))
stepped-many step b xs last e h = elim e [
  | inl x ↦ inl (x, by60 b xs last (rw x at h))
  | inr x ↦
      inr (x, by3600 b xs last (rw x at h))
]
  where
    by60 : (b : ℤ) (xs : List ℤ) (last : ℤ) → Stepped 60 b xs last → last ≡ b +ℤ pos 60 *ℤ pos (length xs)
    by60 b [] last h = omega (arith, signed_arith)
    by60 b (x ∷ xs) last h = let i = by60 x xs last h.1 in let e = h.0 in omega (arith, signed_arith, i, e)

    by3600 : (b : ℤ) (xs : List ℤ) (last : ℤ) → Stepped 3600 b xs last → last ≡ b +ℤ pos 3600 *ℤ pos (length xs)
    by3600 b [] last h = omega (arith, signed_arith)
    by3600 b (x ∷ xs) last h = let i = by3600 x xs last h.1 in let e = h.0 in omega (arith, signed_arith, i, e)

pub passed-count : (n : ℤ) (step k last : ℕ) (xs : List ℤ) → (step ≡ 60) ⊎ (step ≡ 3600) → k ≤ last
    → Stepped step (pos 86400 *ℤ n +ℤ pos k) xs (pos 86400 *ℤ n +ℤ pos last)
    → (last + 1 - (k + 1)) / step ≡ length xs
passed-count n step k last xs e low h = elim (stepped-many step _ xs _ e h) [
  | inl w ↦ rw (w.0) (by60 n k last (length xs) low w.1)
  | inr w ↦ rw (w.0) (by3600 n k last (length xs) low w.1)
]
  where
    by60 : (n : ℤ) (k last m : ℕ) → k ≤ last → pos 86400 *ℤ n +ℤ pos last ≡ pos 86400 *ℤ n +ℤ pos k +ℤ pos 60 *ℤ pos m
        → (last + 1 - (k + 1)) / 60 ≡ m
    by60 n k last m low e = let f : last ≡ k + 60 * m = omega (arith, signed_arith) in omega arith

    by3600 : (n : ℤ) (k last m : ℕ) → k ≤ last → pos 86400 *ℤ n +ℤ pos last ≡ pos 86400 *ℤ n +ℤ pos k +ℤ pos 3600 *ℤ pos m
        → (last + 1 - (k + 1)) / 3600 ≡ m
    by3600 n k last m low e = let f : last ≡ k + 3600 * m = omega (arith, signed_arith) in omega arith

-- several are handed out at once
pub handed-many : (k : ℕ) (all left more xs : List ℤ) → AreLeft k all left → left ≡ xs ++ more → AreLeft (k + length xs) all more
handed-many k all left more xs h e =
    let count = rw e at h.count in
    record {
      count = (let l = length-append xs more in omega (arith, l, count));
      rest = sym (sym (drop-drop (length xs) k all) ∙ ap (λ (l : List ℤ). drop (length xs) l) (sym h.rest ∙ e)
          ∙ drop_at xs more (length xs) refl);
    }

-- where those behind one are passed over, the others are left
pub left-passed : (p : StartParts) (n next end : ℤ) (from : ℕ) → starts_left p n from next end ≡ clock_starts p n from
    ++ starts_left p n 86400 next end
unfolding starts_left
left-passed p n next end from = rw (clock_starts-nil p n) refl

-- a start is not behind the last of its day
pub last-behind : (p : StartParts) (k last : ℕ) → IsLastPassing (begins_at p) last_second_of_day (Some last) → k < 86400
    → begins_at p k ≡ true → k ≤ last
last-behind p k last end low on = elim (cases_lt last k) [
  | inl lt ↦ absurd (both_ways _ (end.2 k lt (omega (arith, low))) on)
  | inr ge ↦ omega (arith, ge)
]

pub next-step : (test : ℕ → Bool) (first last step clock : ℕ) → AreClocks test first last step → IsBehindOne test first last clock
    → first < clock → clock ≤ last → IsNextPassing test clock (Some (clock - 1 + step))
next-step test first last step clock c behind low high =
    let k = clock - 1 in
    let is : clock ≡ k + 1 = omega arith in
    let on = behind k is (omega arith) (omega arith) in
    let some = c.apart.next k last on (c.end.1) (omega arith) (omega (arith, c.end.0)) in
    let within : k + step ≤ last = elim (cases_lt last (k + step)) [
      | inl less ↦ absurd (both_ways _ (c.apart.between k last on (omega arith) less) (c.end.1))
      | inr ge ↦ omega (arith, ge)
    ] in (
      more clock step low c.apart.known,
      omega (arith, within, c.end.0),
      some,
      λ j ge less. c.apart.between k j on (omega arith) less,
    )
  where
    more : (clock step : ℕ) → first < clock → (step ≡ 60) ⊎ (step ≡ 3600) → clock ≤ clock - 1 + step
    more clock step lt e = elim e [ inl x ↦ omega arith | inr x ↦ omega arith ]

-- behind a start, at the first second and at the end of a day
pub behind-start : (test : ℕ → Bool) (first last k : ℕ) → test k ≡ true → IsBehindOne test first last (k + 1)
behind-start test first last k on j e low high = let same : j ≡ k = omega arith in rw same on

pub behind-none : (test : ℕ → Bool) (first last : ℕ) → IsBehindOne test first last 0
behind-none test first last k e = absurd (omega arith)

pub behind-all : (test : ℕ → Bool) (first last step : ℕ) → AreClocks test first last step → IsBehindOne test first last 86400
behind-all test first last step c k e low high = absurd (let most = c.end.0 in omega (arith, most))

pub behind-opened : (p : StartParts) (n : ℤ) (first last step clock : ℕ) → AreClocks (begins_at p) first last step
    → IsOpened p n clock → IsBehindOne (begins_at p) first last clock
behind-opened p n first last step clock c o = elim o [
  | inl on ↦ rw (on.1) (behind-none (begins_at p) first last)
  | inr off ↦ rw (off.1) (behind-all (begins_at p) first last step c)
]

pub behind-look : (p : StartParts) (low n first day : ℤ) (from last step clock looked : ℕ)
    → AreClocks (begins_at p) from last step → IsLookBack p low n first day clock looked
    → IsBehindOne (begins_at p) from last clock
behind-look p low n first day from last step clock looked c look = elim (look.opened) [
  | inl on ↦ rw (on.3) (behind-none (begins_at p) from last)
  | inr off ↦ rw (off.1) (behind-all (begins_at p) from last step c)
]
