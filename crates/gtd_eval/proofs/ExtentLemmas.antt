-- Sets that vary, and those that do not.
use Rattle.std.proofs.Common.{is_some, ◌≡◌, ℕ, ◌+◌, ◌*◌, arith, inl, inr, true, false, Option, Some, None, MatchOption}
use Rattle.std.specs.Prelude.{ℤ, ◌⊎◌, pos, ◌+ℤ◌, ◌*ℤ◌, ◌≤ℤ◌, ◌<ℤ◌, Bool}
use Rattle.std.proofs.lemmas.Int.{ints, by_lt_z}
use Rattle.gtd_core.specs.declared.second.Sec.{Sec}
use Rattle.gtd_core.specs.Limits.{day_seconds, horizons_end, most_horizon_days}
use Rattle.gtd_core.specs.Seconds.{IsHorizonSecond}
use Rattle.gtd_core.specs.Trees.{Tree}
use Rattle.gtd_spans.specs.Change.{IsNextChange, NeverChanges, SameAt}
use Rattle.gtd_eval.specs.Ever.{NeverChangesAfter, cycle, week}
use Rattle.gtd_eval.specs.Extent.{IsChanging, first_second, IsLookedAt, IsTreeExtent, IsVaried}
use Rattle.gtd_eval.specs.declared.extent.Extent.TheVariants.{Never, Sometimes, Always}
use Rattle.gtd_eval.specs.facts.Repeats.{Repeats, behind, never-after, repeats-many, tree-repeats}
use Rattle.gtd_eval.specs.facts.TreeDecisions.{in_tree}
use Rattle.gtd_eval.specs.Membership.{InTree, SomeGivesYear}
use Rattle.gtd_eval.specs.Weekly.{AllWeekly}
use Rattle.gtd_eval.specs.facts.WeekFacts.{RepeatsWeekly, never-after-week, repeats-weekly, tree-weekly}

pub same-self : (set : ℤ → Type 0) (s : ℤ) → SameAt set s s
same-self set s = ((λ h. h), (λ h. h))

pub same-over : (set : ℤ → Type 0) (s t u : ℤ) → SameAt set s u → SameAt set t u → SameAt set s t
same-over set s t u a b = ((λ h. b.1 (a.0 h)), (λ h. a.1 (b.0 h)))

pub same-next : (set : ℤ → Type 0) (s t u : ℤ) → SameAt set s t → SameAt set t u → SameAt set s u
same-next set s t u a b = ((λ h. b.0 (a.0 h)), (λ h. a.1 (b.1 h)))

-- a set that repeats after 400 years, and never changes from s on, is the same at all seconds
pub all-same : (set : ℤ → Type 0) → Repeats set → (s : ℤ) → NeverChangesAfter set s → (t : ℤ) → SameAt set s t
all-same set r s never t =
    by_lt_z {P = SameAt set s t} s t (λ lt. never t lt) (λ le.
    let b = behind t (s +ℤ pos 1) (omega (arith, ints, le)) in
    let k : ℕ = b.0 + 1 in
    let u : ℤ = t +ℤ pos (k * 12622780800) in
    same-over set s t u (never u (omega (arith, ints, b.1))) (repeats-many set r k t))

-- the same for a set that repeats after 7 days
pub all-same-weekly : (set : ℤ → Type 0) → RepeatsWeekly set → (s : ℤ) → NeverChangesAfter set s → (t : ℤ) → SameAt set s t
all-same-weekly set r s never t =
    by_lt_z {P = SameAt set s t} s t (λ lt. never t lt) (λ le.
    let b = behind t (s +ℤ pos 1) (omega (arith, ints, le)) in
    let k : ℕ = b.0 + 1 in
    let u : ℤ = t +ℤ pos (k * 604800) in
    same-over set s t u (never u (omega (arith, ints, b.1))) (repeats-weekly set r k t))

-- what the changes over a whole cycle say of all seconds
pub varied-ever : (tree : Tree) (s until : ℤ) (found : Bool) → (SomeGivesYear tree → ⊥) → Repeats (InTree tree)
    → (s +ℤ cycle) <ℤ until → IsChanging (InTree tree) s until found → IsVaried tree s found
varied-ever tree s until true none r far c = (c.0, (λ y. absurd (none y)), c.3)
varied-ever tree s until false none r far c =
    λ t looked. all-same (InTree tree) r s (never-after (InTree tree) r s until far c) t

pub varied-weekly : (tree : Tree) (s until : ℤ) (found : Bool) → (SomeGivesYear tree → ⊥) → RepeatsWeekly (InTree tree)
    → (s +ℤ week) <ℤ until → IsChanging (InTree tree) s until found → IsVaried tree s found
varied-weekly tree s until true none r far c = (c.0, (λ y. absurd (none y)), c.3)
varied-weekly tree s until false none r far c =
    λ t looked. all-same-weekly (InTree tree) r s (never-after-week (InTree tree) r s until far c) t

-- what a change in a first part of the years of horizons says of all of them
pub varied-early : (tree : Tree) (until : ℤ) → until ≤ℤ (horizons_end *ℤ pos day_seconds)
    → IsChanging (InTree tree) first_second until true
    → IsVaried tree first_second true
varied-early tree until inside c = (c.0, (λ y. (c.1, omega (arith, ints, c.2, inside))), c.3)

-- what the changes in both parts say, if the first part, which ends after the beginning of the second, has none
pub varied-late : (tree : Tree) (middle until : ℤ) (found : Bool) → SomeGivesYear tree
    → first_second <ℤ middle → middle <ℤ until
    → NeverChanges (InTree tree) first_second until
    → IsChanging (InTree tree) middle (horizons_end *ℤ pos day_seconds) found
    → IsVaried tree first_second found
varied-late tree middle until true y after before never c = (
  c.0,
  (λ y. (omega (arith, ints, after, c.1), c.2)),
  (λ same. c.3
      (same-next (InTree tree) middle first_second c.0
      ((never middle after before).1, (never middle after before).0) same)),
)
varied-late tree middle until false y after before never c = λ t looked.
    let inside : IsHorizonSecond t = looked y in
    by_lt_z {P = SameAt (InTree tree) first_second t} first_second t (λ lt.
    by_lt_z {P = SameAt (InTree tree) first_second t} middle t (λ later.
    same-next (InTree tree) first_second middle t (never middle after before) (c t later inside.1))
    (λ le. never t lt (omega (arith, ints, le, before))))
    (λ le. let same : t ≡ first_second = omega (arith, ints, le, inside.0) in rw same (same-self (InTree tree) first_second))

-- an expression that varies from a second looked at holds at some seconds, and at some it does not
pub some : (tree : Tree) (s : ℤ) → IsLookedAt tree s → IsVaried tree s true → IsTreeExtent tree Sometimes
some tree s looked v =
    elim (in_tree tree s) [
      | inl a ↦ ((s, looked, a), (v.0, v.1, (λ b. v.2 ((λ h. b), (λ h. a)))))
      | inr n ↦ elim (in_tree tree v.0) [
        | inl b ↦ ((v.0, v.1, b), (s, looked, n))
        | inr m ↦ absurd (v.2 ((λ h. absurd (n h)), (λ h. absurd (m h))))
      ]
    ]

pub all : (tree : Tree) (s : ℤ) → IsVaried tree s false → InTree tree s → IsTreeExtent tree Always
all tree s v h t looked = (v t looked).0 h

pub none : (tree : Tree) (s : ℤ) → IsVaried tree s false → (InTree tree s → ⊥) → IsTreeExtent tree Never
none tree s v n t looked h = n ((v t looked).1 h)

-- what the next change of a set, if there is one, says of its changes
pub changing : (set : ℤ → Type 0) (s until : ℤ) (o : Option Sec)
    → MatchOption o (NeverChanges set s until) (λ c. IsNextChange set s until c.0) → IsChanging set s until (is_some o)
changing set s until None h = h
changing set s until (Some c) h = (c.0, omega (arith, ints, h.later), h.within, h.differs)

-- the same from the first second of a horizon
pub changing-from : (set : ℤ → Type 0) (from until s : ℤ) (o : Option Sec) (found : Bool) → s ≡ from → found ≡ is_some o
    → MatchOption o (NeverChanges set s until) (λ c. IsNextChange set s until c.0) → IsChanging set from until found
changing-from set from until s o found starts is h = rw is (changing set from until o (rw starts at h))

-- what the changes over the days after which an expression repeats say of all seconds
pub varied-repeated : (tree : Tree) (from until days : ℤ) (found : Bool) → (SomeGivesYear tree → ⊥) → from ≡ first_second
    → until ≡ first_second +ℤ (days *ℤ pos day_seconds)
    → (days ≡ pos most_horizon_days) ⊎ ((days ≡ pos 8) × AllWeekly tree)
    → IsChanging (InTree tree) from until found → IsVaried tree first_second found
varied-repeated tree from until days found none begins ends (inl long) c =
    varied-ever tree first_second until found none (λ t. tree-repeats tree t none) (omega (arith, ints, ends, long))
    (rw begins at c)
varied-repeated tree from until days found none begins ends (inr short) c =
    varied-weekly tree first_second until found none (λ t. tree-weekly tree t short.1) (omega (arith, ints, ends, short.0))
    (rw begins at c)
