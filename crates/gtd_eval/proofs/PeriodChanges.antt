-- Sets that repeat after some seconds and do not change for so long.
use Rattle.std.proofs.Common.{◌≡◌, ◌↔◌, sym, subst, arith, ℕ, zero, suc}
use Rattle.std.specs.Prelude.{ℤ, pos, ◌+ℤ◌, ◌-ℤ◌, ◌<ℤ◌, ◌≤ℤ◌}
use Rattle.std.proofs.lemmas.Int.{ints, by_lt_z}
use Rattle.gtd_spans.specs.Change.{NeverChanges, SameAt}
use Rattle.gtd_eval.specs.facts.Repeats.{behind}

back-on : (w t : ℤ) → (t -ℤ w) +ℤ w ≡ t
back-on w t = omega (arith, ints)

module _ (set : ℤ → Type 0) (w s until : ℤ) (some : pos 0 <ℤ w) (r : (t : ℤ) → set t ↔ set (t +ℤ w))
    (far : (s +ℤ w) ≤ℤ until) (never : NeverChanges set s until) where
  steps : (n : ℕ) (t : ℤ) → s ≤ℤ t → t <ℤ (s +ℤ pos n) → SameAt set s t
  steps zero t le lt = absurd (omega (arith, ints, le, lt))
  steps (suc n) t le lt =
      by_lt_z {P = SameAt set s t} s t
      (λ after. by_lt_z {P = SameAt set s t} t (s +ℤ w)
      (λ early. never t after (omega (arith, ints, early, far)))
      (λ late. let i = steps n (t -ℤ w) (omega (arith, ints, late)) (omega (arith, ints, lt, some)) in
      let e = back-on w t in
      let q = r (t -ℤ w) in
      ((λ h. subst set e (q.0 (i.0 h))), (λ h. i.1 (q.1 (subst set (sym e) h))))))
      (λ ge. let e : s ≡ t = omega (arith, ints, le, ge) in subst (λ (u : ℤ). SameAt set s u) e ((λ h. h), (λ h. h)))

  -- they never change
  pub never-changes : (last : ℤ) → NeverChanges set s last
  never-changes last t after before =
      let b = behind s t after in
      steps (suc (suc b.0)) t (omega (arith, ints, after)) (let e = b.1 in omega (arith, ints, e))
