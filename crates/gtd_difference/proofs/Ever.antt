-- What the seconds that two sets share in a part of time say of others.
use Rattle.std.proofs.Common.{◌≡◌, ◌↔◌, ◌⊎◌, ℕ, ◌+◌, ◌*◌, arith, inl, inr}
use Rattle.std.specs.Prelude.{ℤ, pos, ◌+ℤ◌, ◌-ℤ◌, ◌*ℤ◌, ◌<ℤ◌, ◌≤ℤ◌}
use Rattle.std.proofs.lemmas.Int.{ints, by_lt_z}
use Rattle.gtd_core.specs.Limits.{day_seconds, most_horizon_days}
use Rattle.gtd_core.specs.Parts.{domain_tree}
use Rattle.gtd_core.specs.declared.domain.Domain.{Domain}
use Rattle.gtd_eval.specs.Ever.{cycle, week}
use Rattle.gtd_eval.specs.Membership.{InDomain}
use Rattle.gtd_eval.specs.Weekly.{AllWeekly}
use Rattle.gtd_eval.specs.facts.Repeats.{Repeats, behind, never-after, repeats-many, tree-repeats}
use Rattle.gtd_eval.specs.facts.WeekFacts.{RepeatsWeekly, never-after-week, repeats-weekly, tree-weekly}
use Rattle.gtd_difference.specs.Difference.{Agree, AgreeFrom, EitherGivesYear, HasNoneAlone, IsWithin}

module _ (set : ℤ → Type 0) where
  -- a set that repeats, and holds each second of a whole cycle, holds all
  pub always-cycle : Repeats set → (s until : ℤ) → (s +ℤ cycle) <ℤ until → ((t : ℤ) → s ≤ℤ t → t <ℤ until → set t)
      → (t : ℤ) → set t
  always-cycle r s until far h =
      let here : set s = h s (omega (arith, ints)) (omega (arith, ints, far)) in
      let never = never-after set r s until far (λ t later before.
      ((λ a. h t (omega (arith, ints, later)) before), (λ a. here))) in
      λ t. by_lt_z {P = set t} s t (λ lt. (never t lt).0 here) (λ le.
      let b = behind t (s +ℤ pos 1) (omega (arith, ints, le)) in
      let k : ℕ = b.0 + 1 in
      let u : ℤ = t +ℤ pos (k * 12622780800) in
      (repeats-many set r k t).1 ((never u (omega (arith, ints, b.1))).0 here))

  -- the same for a set that repeats after 7 days
  pub always-week : RepeatsWeekly set → (s until : ℤ) → (s +ℤ week) <ℤ until → ((t : ℤ) → s ≤ℤ t → t <ℤ until → set t)
      → (t : ℤ) → set t
  always-week r s until far h =
      let here : set s = h s (omega (arith, ints)) (omega (arith, ints, far)) in
      let never = never-after-week set r s until far (λ t later before.
      ((λ a. h t (omega (arith, ints, later)) before), (λ a. here))) in
      λ t. by_lt_z {P = set t} s t (λ lt. (never t lt).0 here) (λ le.
      let b = behind t (s +ℤ pos 1) (omega (arith, ints, le)) in
      let k : ℕ = b.0 + 1 in
      let u : ℤ = t +ℤ pos (k * 604800) in
      (repeats-weekly set r k t).1 ((never u (omega (arith, ints, b.1))).0 here))

module _ (P Q : ℤ → Type 0) where
  -- the seconds at which the sets agree, and those at which the one has none alone
  abbrev agreed : ℤ → Type 0
  agreed t = P t ↔ Q t

  abbrev shared : ℤ → Type 0
  shared t = P t → Q t

  pub agreed-later : (d t : ℤ) → P t ↔ P (t +ℤ d) → Q t ↔ Q (t +ℤ d) → agreed t ↔ agreed (t +ℤ d)
  agreed-later d t p q = (
    (λ h. ((λ x. q.0 (h.0 (p.1 x))), (λ y. p.0 (h.1 (q.1 y))))),
    (λ h. ((λ x. q.1 (h.0 (p.0 x))), (λ y. p.1 (h.1 (q.0 y))))),
  )

  pub shared-later : (d t : ℤ) → P t ↔ P (t +ℤ d) → Q t ↔ Q (t +ℤ d) → shared t ↔ shared (t +ℤ d)
  shared-later d t p q = ((λ h x. q.0 (h (p.1 x))), (λ h x. q.1 (h (p.0 x))))

-- the days are as many as two domains without years need to repeat
abbrev pub IsRepeating : Domain → Domain → ℤ → Type 0
IsRepeating first second days =
    (days ≡ pos most_horizon_days) ⊎ ((days ≡ pos 8) × AllWeekly (domain_tree first) × AllWeekly (domain_tree second))

module _ (first second : Domain) (s until days : ℤ) (none : EitherGivesYear first second → ⊥)
    (far : (s +ℤ ((days *ℤ pos day_seconds) -ℤ pos day_seconds)) <ℤ until) where
  -- two domains without years that agree for as many days as they need to repeat
  pub agree-ever : IsRepeating first second days → AgreeFrom (InDomain first) (InDomain second) s until
      → Agree (InDomain first) (InDomain second)
  agree-ever (inl long) h =
      always-cycle (agreed (InDomain first) (InDomain second))
      (λ t. agreed-later (InDomain first) (InDomain second) cycle t (tree-repeats (domain_tree first) t (λ y. none (inl y)))
      (tree-repeats (domain_tree second) t (λ y. none (inr y)))) s until (omega (arith, ints, far, long)) h
  agree-ever (inr short) h =
      always-week (agreed (InDomain first) (InDomain second))
      (λ t. agreed-later (InDomain first) (InDomain second) week t (tree-weekly (domain_tree first) t short.1)
      (tree-weekly (domain_tree second) t short.2)) s until (omega (arith, ints, far, short.0)) h

  -- the same, where the first has no second alone
  pub within-ever : IsRepeating first second days → HasNoneAlone (InDomain first) (InDomain second) s until
      → IsWithin (InDomain first) (InDomain second)
  within-ever (inl long) h =
      always-cycle (shared (InDomain first) (InDomain second))
      (λ t. shared-later (InDomain first) (InDomain second) cycle t (tree-repeats (domain_tree first) t (λ y. none (inl y)))
      (tree-repeats (domain_tree second) t (λ y. none (inr y)))) s until (omega (arith, ints, far, long)) h
  within-ever (inr short) h =
      always-week (shared (InDomain first) (InDomain second))
      (λ t. shared-later (InDomain first) (InDomain second) week t (tree-weekly (domain_tree first) t short.1)
      (tree-weekly (domain_tree second) t short.2)) s until (omega (arith, ints, far, short.0)) h
