-- Sets that repeat after 7 days, and their changes.
use Rattle.gtd_core.specs.declared.second.Sec.{Sec}
use Rattle.std.proofs.Common.{Option, Some, None, MatchOption, ◌≡◌, ◌↔◌, ◌⊎◌, inl, inr, ℕ, zero, suc, ◌+◌, ◌*◌, ◌/◌, ◌%◌}
use Rattle.std.proofs.Common.{sym, subst, arith}
use Rattle.std.specs.Prelude.{ℤ, pos, ◌+ℤ◌, ◌<ℤ◌, ◌≤ℤ◌}
use Rattle.std.proofs.lemmas.Int.{ints, by_lt_z}
use Rattle.gtd_core.specs.declared.duration.DurationParts.{DurationParts}
use Rattle.gtd_core.specs.declared.start.StartParts.{StartParts}
use Rattle.gtd_recur.specs.Membership.{InStretches}
use Rattle.gtd_recur.specs.Weekly.{IsWeekly}
use Rattle.gtd_spans.specs.facts.NormalFor.{combined-both}
use Rattle.gtd_spans.specs.Change.{NeverChanges, IsNextChange}
use Rattle.gtd_recur.specs.facts.WeekLemmas.{week-forward, week-back}
use Rattle.gtd_eval.specs.Membership.{InTree}
use Rattle.gtd_eval.specs.Weekly.{AllWeekly}
use Rattle.gtd_core.specs.Trees.{Tree, Single, Joined}
use Rattle.gtd_eval.specs.Ever.{NeverChangesAfter, IsFirstChange, week}
use Rattle.gtd_eval.specs.facts.Repeats.{behind, first-of-next}

pub tree-weekly : (e : Tree) (t : ℤ) → AllWeekly e → InTree e t ↔ InTree e (t +ℤ week)
tree-weekly (Single start duration) t w = (week-forward start duration t w, week-back start duration t w)
tree-weekly (Joined op left right) t w = combined-both op _ _ _ _ (tree-weekly left t w.0) (tree-weekly right t w.1)

abbrev pub RepeatsWeekly : (ℤ → Type 0) → Type 0
RepeatsWeekly set = (t : ℤ) → set t ↔ set (t +ℤ week)

at-once-week : (t : ℤ) → t +ℤ pos (0 * 604800) ≡ t
at-once-week t = omega (arith, ints)

once-more-week : (t : ℤ) (k : ℕ) → (t +ℤ pos (k * 604800)) +ℤ week ≡ t +ℤ pos ((suc k) * 604800)
once-more-week t k = omega (arith, ints)

pub repeats-weekly : (set : ℤ → Type 0) → RepeatsWeekly set → (k : ℕ) (t : ℤ) → set t ↔ set (t +ℤ pos (k * 604800))
repeats-weekly set r zero t = rw at-once-week ((λ h. h), (λ h. h))
repeats-weekly set r (suc k) t =
    let i = repeats-weekly set r k t in
    let j = r (t +ℤ pos (k * 604800)) in
    let e = once-more-week t k in
    ((λ h. subst set e (j.0 (i.0 h))), (λ h. i.1 (j.1 (subst set (sym e) h))))

-- a set that repeats, and does not change for a whole week, never changes
pub never-after-week : (set : ℤ → Type 0) → RepeatsWeekly set → (s until : ℤ) → (s +ℤ week) <ℤ until → NeverChanges set s until
    → NeverChangesAfter set s
never-after-week set r s until far never t lt =
    let b = behind s t lt in
    let n : ℕ = b.0 in
    let k : ℕ = n / 604800 in
    let u : ℤ = s +ℤ pos (1 + n % 604800) in
    let e : u +ℤ pos (k * 604800) ≡ t = omega (arith, ints, b.1) in
    let same = never u (omega (arith, ints)) (omega (arith, ints, far)) in
    let many = repeats-weekly set r k u in
    ((λ h. subst set e (many.0 (same.0 h))), (λ h. same.1 (many.1 (subst set (sym e) h))))

-- what the changes in more than a week say of all later ones
pub changes-after-week : (set : ℤ → Type 0) → RepeatsWeekly set → (s until : ℤ) → (s +ℤ week) <ℤ until
    → (o : Option Sec) → MatchOption o (NeverChanges set s until) (λ c. IsNextChange set s until c.0)
    → MatchOption o (NeverChangesAfter set s) (λ c. IsFirstChange set s c.0)
changes-after-week set r s until far None h = never-after-week set r s until far h
changes-after-week set r s until far (Some c) h = first-of-next set s until c.0 h

-- ---- the first change of a basic domain, in the days in which it is looked for

looked : (set : ℤ → Type 0) → (s until last c : ℤ) → IsNextChange set s until c → until ≤ℤ last → c ≤ℤ last
looked set s until last c h le = omega (arith, ints, h.within, le)

-- no later second stays longer
pub no_later : (set : ℤ → Type 0) (s until c u : ℤ) → IsNextChange set s until c → NeverChanges set s u → u ≤ℤ c
no_later set s until c u h never =
    by_lt_z {P = u ≤ℤ c} c u (λ lt. absurd (h.differs (never c h.later lt))) (λ ge. ge)

-- where nothing changes in the days that are looked at, nothing changes in the horizon
pub never-to-end : (p : StartParts) (q : DurationParts) (s until last : ℤ) → NeverChanges (InStretches p q) s until
    → ((until ≡ last) ⊎ (((s +ℤ week) <ℤ until) × IsWeekly p q)) → NeverChanges (InStretches p q) s last
never-to-end p q s until last never (inl e) = subst (λ (l : ℤ). NeverChanges (InStretches p q) s l) e never
never-to-end p q s until last never (inr w) = λ t later within.
    never-after-week (InStretches p q) (λ t. (week-forward p q t w.1, week-back p q t w.1)) s until w.0 never t later

-- what the changes in the days that are looked at say of the horizon
pub changes-to-end : (set : ℤ → Type 0) (weekly : Type 0) → (weekly → RepeatsWeekly set) → (s until last : ℤ) → until ≤ℤ last
    → ((until ≡ last) ⊎ (((s +ℤ week) <ℤ until) × weekly))
    → (o : Option Sec) → MatchOption o (NeverChanges set s until) (λ c. IsNextChange set s until c.0)
    → MatchOption o (NeverChanges set s last) (λ c. IsNextChange set s last c.0)
changes-to-end set weekly r s until last le (inl e) None h = subst (λ (l : ℤ). NeverChanges set s l) e h
changes-to-end set weekly r s until last le (inr w) None h = λ t later within.
    never-after-week set (r w.1) s until w.0 h t later
changes-to-end set weekly r s until last le far (Some c) h = record {
  later = h.later;
  within = omega (arith, ints, h.within, le);
  differs = h.differs;
  least = h.least;
}
