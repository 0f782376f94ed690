-- Sets that repeat after 146,097 days, and their changes.
use Rattle.gtd_core.specs.declared.second.Sec.{Sec}
use Rattle.std.proofs.Common.{Option, Some, None, MatchOption, IsSome, refl, ◌≡◌, ◌↔◌, ℕ, zero, suc, ◌+◌, ◌*◌, ◌/◌, ◌%◌, List}
use Rattle.std.proofs.Common.{sym, subst, inl, inr, arith}
use Rattle.std.specs.Prelude.{ℤ, pos, ◌+ℤ◌, ◌-ℤ◌, ◌≤ℤ◌, ◌<ℤ◌, unsigned_abs}
use Rattle.std.proofs.lemmas.Int.{ints}
use Rattle.gtd_core.specs.Seconds.{Interval}
use Rattle.gtd_spans.specs.Normal.{Holds, IsNormalFor}
use Rattle.gtd_spans.specs.facts.NormalFor.{combined-both}
use Rattle.gtd_spans.specs.Change.{SameAt, NeverChanges, IsNextChange}
use Rattle.gtd_recur.specs.facts.CycleLemmas.{in_stretches-forward, in_stretches-back}
use Rattle.gtd_eval.specs.Membership.{InTree, SomeGivesYear}
use Rattle.gtd_core.specs.Trees.{Tree, Single, Joined}
use Rattle.gtd_eval.specs.Ever.{NeverChangesAfter, IsFirstChange, cycle}

no-year : (y : Option ℕ) → (IsSome y → ⊥) → y ≡ None
no-year None n = refl
no-year (Some k) n = absurd (n refl)

pub tree-repeats : (e : Tree) (t : ℤ) → (SomeGivesYear e → ⊥) → InTree e t ↔ InTree e (t +ℤ cycle)
tree-repeats (Single start duration) t n =
    let none : start.year ≡ None = no-year start.year n in
    (in_stretches-forward start duration t none, in_stretches-back start duration t none)
tree-repeats (Joined op left right) t n =
    combined-both op _ _ _ _ (tree-repeats left t (λ h. n (inl h))) (tree-repeats right t (λ h. n (inr h)))

abbrev pub Repeats : (ℤ → Type 0) → Type 0
Repeats set = (t : ℤ) → set t ↔ set (t +ℤ cycle)

at-once : (t : ℤ) → t +ℤ pos (0 * 12622780800) ≡ t
at-once t = omega (arith, ints)

once-more : (t : ℤ) (k : ℕ) → (t +ℤ pos (k * 12622780800)) +ℤ cycle ≡ t +ℤ pos ((suc k) * 12622780800)
once-more t k = omega (arith, ints)

pub repeats-many : (set : ℤ → Type 0) → Repeats set → (k : ℕ) (t : ℤ) → set t ↔ set (t +ℤ pos (k * 12622780800))
repeats-many set r zero t = rw at-once ((λ h. h), (λ h. h))
repeats-many set r (suc k) t =
    let i = repeats-many set r k t in
    let j = r (t +ℤ pos (k * 12622780800)) in
    let e = once-more t k in
    ((λ h. subst set e (j.0 (i.0 h))), (λ h. i.1 (j.1 (subst set (sym e) h))))

-- how far after s the second is
pub behind : (s t : ℤ) → s <ℤ t → (n : ℕ) × (t ≡ s +ℤ pos (1 + n))
behind s t lt = let n : ℕ = unsigned_abs ((t -ℤ s) -ℤ pos 1) in (n, grind (arith, ints))

-- a set that repeats, and does not change for a whole cycle, never changes
pub never-after : (set : ℤ → Type 0) → Repeats set → (s until : ℤ) → (s +ℤ cycle) <ℤ until → NeverChanges set s until
    → NeverChangesAfter set s
never-after set r s until far never t lt =
    let b = behind s t lt in
    let n : ℕ = b.0 in
    let k : ℕ = n / 12622780800 in
    let u : ℤ = s +ℤ pos (1 + n % 12622780800) in
    let e : u +ℤ pos (k * 12622780800) ≡ t = omega (arith, ints, b.1) in
    let same = never u (omega (arith, ints)) (omega (arith, ints, far)) in
    let many = repeats-many set r k u in
    ((λ h. subst set e (many.0 (same.0 h))), (λ h. same.1 (many.1 (subst set (sym e) h))))

-- what the list of a set in a range says of its changes
same-in : (set : ℤ → Type 0) (from until s t : ℤ) (xs : List Interval) → IsNormalFor set from until xs
    → from ≤ℤ s → s <ℤ until → from ≤ℤ t → t <ℤ until → SameAt (Holds xs) s t ↔ SameAt set s t
same-in set from until s t xs n fs su ft tu = (
  (λ h. ((λ k. (n.inside t (h.0 (n.complete s (fs, su, k)))).2), (λ k. (n.inside s (h.1 (n.complete t (ft, tu, k)))).2))),
  (λ h. ((λ k. n.complete t (ft, tu, h.0 (n.inside s k).2)), (λ k. n.complete s (fs, su, h.1 (n.inside t k).2)))),
)

pub never-in : (set : ℤ → Type 0) (from until s : ℤ) (xs : List Interval) → IsNormalFor set from until xs
    → from ≤ℤ s → NeverChanges (Holds xs) s until → NeverChanges set s until
never-in set from until s xs n fs h t st tu =
    (same-in set from until s t xs n fs (omega (arith, ints, st, tu)) (omega (arith, ints, st, fs)) tu).0 (h t st tu)

pub next-in : (set : ℤ → Type 0) (from until s c : ℤ) (xs : List Interval) → IsNormalFor set from until xs
    → from ≤ℤ s → IsNextChange (Holds xs) s until c → IsNextChange set s until c
next-in set from until s c xs n fs h = record {
  later = h.later;
  within = h.within;
  differs = λ k. h.differs ((same-in set from until s c xs n fs (omega (arith, ints, h.later, h.within))
      (omega (arith, ints, h.later, fs)) h.within).1 k);
  least = λ t st tc. (same-in set from until s t xs n fs (omega (arith, ints, st, tc, h.within)) (omega (arith, ints, st, fs))
      (omega (arith, ints, tc, h.within))).0 (h.least t st tc);
}

pub first-of-next : (set : ℤ → Type 0) (s until c : ℤ) → IsNextChange set s until c → IsFirstChange set s c
first-of-next set s until c h = record { later = h.later; differs = h.differs; least = h.least }

-- what a list says of the changes of its set
pub changes-in : (set : ℤ → Type 0) (from until s : ℤ) (xs : List Interval) → IsNormalFor set from until xs → from ≤ℤ s
    → (o : Option Sec) → MatchOption o (NeverChanges (Holds xs) s until) (λ c. IsNextChange (Holds xs) s until c.0)
    → MatchOption o (NeverChanges set s until) (λ c. IsNextChange set s until c.0)
changes-in set from until s xs n fs None h = never-in set from until s xs n fs h
changes-in set from until s xs n fs (Some c) h = next-in set from until s c.0 xs n fs h

-- what the changes in more than a cycle say of all later ones
pub changes-after : (set : ℤ → Type 0) → Repeats set → (s until : ℤ) → (s +ℤ cycle) <ℤ until
    → (o : Option Sec) → MatchOption o (NeverChanges set s until) (λ c. IsNextChange set s until c.0)
    → MatchOption o (NeverChangesAfter set s) (λ c. IsFirstChange set s c.0)
changes-after set r s until far None h = never-after set r s until far h
changes-after set r s until far (Some c) h = first-of-next set s until c.0 h
