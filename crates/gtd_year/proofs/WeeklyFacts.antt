-- Rows that repeat after a week, and days that do.
use Rattle.std.proofs.Common.{◌≡◌, arith, sym, subst, inl, inr, ◌<◌, ◌+◌, ◌↔◌, ℕ, zero, suc, List, length}
use Rattle.std.specs.Prelude.{ℤ, pos, ◌+ℤ◌, ◌*ℤ◌, slice_index_or}
use Rattle.std.proofs.lemmas.Int.{ints}
use Rattle.gtd_records.specs.Closing.{HoldsAt, IsClosed, Restriction}
use Rattle.gtd_rows.specs.declared.direction.Direction.{Direction}
use Rattle.gtd_records.specs.facts.IndexFacts.{by_le, one_record}
use Rattle.gtd_spans.specs.Counting.{IsCount}
use Rattle.gtd_spans.specs.facts.CountFacts.{Among}
use Rattle.gtd_year.specs.Counts.{IsOpenWeekly, RepeatsWeekly}

-- a row's seconds repeat
abbrev pub Repeats : Restriction → Type 0
Repeats r = (t : ℤ) → HoldsAt r.domain t ↔ HoldsAt r.domain (t +ℤ pos 604800)

module _ (found : List Restriction) (element : ℕ) where
  -- those of the first rows of the element do
  abbrev pub RepeatSoFar : ℕ → Type 0
  RepeatSoFar stop = (k : ℕ) (r : Restriction) → k < stop → slice_index_or found k r ≡ r → r.element ≡ element → Repeats r

  pub one_more : (i : ℕ) (s : Restriction) → i < length found → s ≡ slice_index_or found i s
      → (s.element ≡ element → Repeats s) → RepeatSoFar i → RepeatSoFar (i + 1)
  one_more i s here is its before = λ k r lt stands names.
      by_le {P = Repeats r} i k
      (λ ge.
      let e : k ≡ i = omega arith in
      let same : r ≡ s = one_record found i r s here (subst (λ (n : ℕ). slice_index_or found n r ≡ r) e stands) is in
      subst Repeats (sym same) (its (subst (λ (x : Restriction). x.element ≡ element) same names)))
      (λ less. before k r less stands names)

  closed_weekly : RepeatSoFar (length found) → (direction : Direction) (vehicle : ℕ) (t : ℤ)
      → IsClosed found element direction vehicle t ↔ IsClosed found element direction vehicle (t +ℤ pos 604800)
  closed_weekly all direction vehicle t = (
    (λ is.
        let c = is.4 in (
          is.0,
          is.1,
          is.2,
          is.3,
          record { names = c.names; concerns = c.concerns; holds = (all is.0 is.1 is.2 is.3 c.names t).0 c.holds },
        )),
    (λ is.
        let c = is.4 in (
          is.0,
          is.1,
          is.2,
          is.3,
          record { names = c.names; concerns = c.concerns; holds = (all is.0 is.1 is.2 is.3 c.names t).1 c.holds },
        )),
  )

  pub open_weekly : RepeatSoFar (length found) → IsOpenWeekly found element
  open_weekly all = λ direction vehicle t.
      let same = closed_weekly all direction vehicle t in (
        (λ free closed. free (same.1 closed)),
        (λ free closed. free (same.0 closed)),
      )

-- a day has as many seconds as the day a week before
week_later : (set : ℤ → Type 0) (t : ℤ) (n count : ℕ) → ((s : ℤ) → Among t n s → set s ↔ set (s +ℤ pos 604800))
    → IsCount set t n count → IsCount set (t +ℤ pos 604800) n count
unfolding IsCount
week_later set t zero count h p = p
week_later set t (suc n) count h p =
    let next : (t +ℤ pos 1) +ℤ pos 604800 ≡ (t +ℤ pos 604800) +ℤ pos 1 = omega (arith, ints) in
    let rest = week_later set (t +ℤ pos 1) n p.0 (λ s a. h s (omega (arith, ints, a.0), omega (arith, ints, a.1))) p.1 in
    let b = h t (omega (arith, ints), omega (arith, ints)) in (
      p.0,
      subst (λ (s : ℤ). IsCount set s n p.0) next rest,
      elim p.2 [ inl y ↦ inl (b.0 y.0, y.1) | inr y ↦ inr ((λ k. y.0 (b.1 k)), y.1) ],
    )

pub later_count : (set : ℤ → Type 0) (first day : ℤ) (days k count : ℕ) → RepeatsWeekly set first days
    → day ≡ first +ℤ pos (k + 7) → k + 7 < days → IsCount set ((first +ℤ pos k) *ℤ pos 86400) 86400 count
    → IsCount set (day *ℤ pos 86400) 86400 count
later_count set first day days k count weekly at within counted =
    let later : ((first +ℤ pos k) *ℤ pos 86400) +ℤ pos 604800 ≡ day *ℤ pos 86400 = omega (arith, ints, at) in
    subst (λ (s : ℤ). IsCount set s 86400 count) later
    (week_later set ((first +ℤ pos k) *ℤ pos 86400) 86400 count
    (λ s a. weekly s (omega (arith, ints, a.0)) (omega (arith, ints, a.1, within))) counted)
