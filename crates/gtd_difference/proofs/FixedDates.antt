-- What is left of an expression while the basic domains with a date are fixed, and what that says of the expression.
use Rattle.std.proofs.Common.{◌≡◌, ◌↔◌, ℕ, zero, suc, sym, refl, subst, arith, inl, inr, Bool, true, false}
use Rattle.std.proofs.Common.{Option, Some, None, MatchOption}
use Rattle.std.specs.Prelude.{ℤ, pos, ◌+ℤ◌, ◌-ℤ◌, ◌≤ℤ◌, ◌<ℤ◌, IfSome, IsTrue}
use Rattle.std.proofs.lemmas.Int.{ints, by_lt_z}
use Rattle.gtd_core.specs.Parts.{domain_tree}
use Rattle.gtd_core.specs.Trees.{Tree, Joined}
use Rattle.gtd_core.specs.declared.domain.Op.TheVariants.{Minus}
use Rattle.gtd_core.specs.declared.second.Sec.{Sec}
use Rattle.gtd_spans.specs.facts.NormalFor.{combined-both}
use Rattle.gtd_recur.specs.Periods.{period_seconds}
use Rattle.gtd_recur.specs.declared.period.Period.{Period}
use Rattle.gtd_eval.specs.Membership.{InTree}
use Rattle.gtd_eval.specs.Periods.{AllRepeat}
use Rattle.gtd_eval.specs.Stays.{IsStay}
use Rattle.gtd_eval.specs.declared.stay.Stay.{Stay}
use Rattle.gtd_eval.specs.facts.PeriodFacts.{all-longer, tree-repeats-after}
use Rattle.gtd_eval.specs.facts.Repeats.{behind}
use Rattle.gtd_eval.specs.facts.TreeDecisions.{in_tree}
use Rattle.gtd_difference.specs.Dates.{FixedDate}
use Rattle.gtd_difference.specs.Difference.{HasNoneAlone, IsFirstAlone}
use Rattle.gtd_difference.specs.Memory.{IsNever}
use Rattle.gtd_difference.specs.Pieces.{AreKnown, Fixed, HasNone, HaveShortPeriods, InFixed}
use Rattle.gtd_difference.specs.declared.states.ExprStates.{ExprStates}
use Rattle.gtd_difference.specs.declared.states.ExprStates.TheVariants.{Basic, Dated, Join'}

-- ---- basic domains

fixed-later : (w : Period) (tree : Tree) (own : Option Period) (holds : Bool) (t : ℤ)
    → IfSome own (λ x. AllRepeat (period_seconds x) tree) → IfSome own (λ x. period_seconds x ≤ℤ period_seconds w)
    → Fixed own holds (InTree tree t) ↔ Fixed own holds (InTree tree (t +ℤ period_seconds w))
fixed-later w tree (Some x) holds t r short =
    tree-repeats-after (period_seconds w) tree t (w, refl) (all-longer (period_seconds x) (period_seconds w) tree short r)
fixed-later w tree None holds t r short = ((λ h. h), (λ h. h))

undated-later : (w : Period) (tree : Tree) (own : Period) (wide holds : Bool) (t : ℤ) → AllRepeat (period_seconds own) tree
    → period_seconds own ≤ℤ period_seconds w
    → FixedDate wide holds (InTree tree t) ↔ FixedDate wide holds (InTree tree (t +ℤ period_seconds w))
undated-later w tree own true holds t r short =
    tree-repeats-after (period_seconds w) tree t (w, refl) (all-longer (period_seconds own) (period_seconds w) tree short r)
undated-later w tree own false holds t r short = ((λ h. h), (λ h. h))

-- a period that is found is one after which the basic domain repeats
pub repeats-if : (o : Option Period) (N : Type 0) (P : Period → Type 0) → MatchOption o N P → IfSome o P
repeats-if None N P h = tt
repeats-if (Some x) N P h = h

short-in : (o : Option Period) (v w : ℤ) → v ≤ℤ w → IfSome o (λ x. period_seconds x ≤ℤ v) → IfSome o (λ x. period_seconds x ≤ℤ w)
short-in None v w le h = tt
short-in (Some x) v w le h = omega (arith, ints, le, h)

-- what a stay says of each second before its end
pub held-by-stay : (set : ℤ → Type 0) (at last : ℤ) (stay : Stay) → IsStay set at last stay → (t : ℤ) → at ≤ℤ t
    → t <ℤ stay.until.0 → IsTrue stay.holds ↔ set t
held-by-stay set at last stay is t after before =
    by_lt_z {P = IsTrue stay.holds ↔ set t} at t
    (λ lt. let same = is.same t lt before in ((λ h. same.0 (is.holds.0 h)), (λ h. is.holds.1 (same.1 h))))
    (λ le. let e : at ≡ t = omega (arith, ints, after, le) in subst (λ (u : ℤ). IsTrue stay.holds ↔ set u) e is.holds)

-- ---- expressions

pub short-periods : (v w : ℤ) (states : ExprStates) → v ≤ℤ w → HaveShortPeriods v states → HaveShortPeriods w states
short-periods v w (Basic state) le h = short-in state.period v w le h
short-periods v w (Dated state) le h = omega (arith, ints, le, h)
short-periods v w (Join' op p left right) le h = (short-periods v w left le h.0, short-periods v w right le h.1)

-- what is left repeats after a period that is not shorter than those of the basic domains
pub fixed-repeats : (w : Period) (states : ExprStates) (last t : ℤ) → AreKnown last states
    → HaveShortPeriods (period_seconds w) states → InFixed states t ↔ InFixed states (t +ℤ period_seconds w)
fixed-repeats w (Basic state) last t k short =
    fixed-later w (domain_tree state.domain) state.period state.holds t k.repeats short
fixed-repeats w (Dated state) last t k short =
    undated-later w (domain_tree state.wide.domain) state.period state.is_wide state.own.holds t k.repeats short
fixed-repeats w (Join' op p left right) last t k short =
    combined-both op _ _ _ _ (fixed-repeats w left last t k.0 short.0) (fixed-repeats w right last t k.1 short.1)

-- ---- sets with no second in some time

back-on : (w t : ℤ) → (t -ℤ w) +ℤ w ≡ t
back-on w t = omega (arith, ints)

-- a set that repeats and has none for a whole period has none later
module _ (set : ℤ → Type 0) (w s until : ℤ) (some : pos 0 <ℤ w) (r : (t : ℤ) → set t ↔ set (t +ℤ w))
    (far : (s +ℤ w) ≤ℤ until) (none : HasNone set s until) where
  steps : (n : ℕ) (t : ℤ) → s ≤ℤ t → t <ℤ (s +ℤ pos n) → set t → ⊥
  steps zero t le lt h = absurd (omega (arith, ints, le, lt))
  steps (suc n) t le lt h =
      by_lt_z {P = ⊥} t (s +ℤ w) (λ early. none t le (omega (arith, ints, early, far)) h)
      (λ late. steps n (t -ℤ w) (omega (arith, ints, late)) (omega (arith, ints, lt, some))
      ((r (t -ℤ w)).1 (subst set (sym (back-on w t)) h)))

  pub none-later : (v : ℤ) → HasNone set s v
  none-later v t later before h =
      let b = behind (s -ℤ pos 1) t (omega (arith, ints, later)) in
      steps (suc b.0) t later (let e = b.1 in omega (arith, ints, e)) h

  before : (n : ℕ) (t : ℤ) → (s -ℤ pos n) ≤ℤ t → set t → ⊥
  before zero t le h = none-later (t +ℤ pos 1) t (omega (arith, ints, le)) (omega (arith, ints)) h
  before (suc n) t le h =
      by_lt_z {P = ⊥} t s (λ early. before n (t +ℤ w) (omega (arith, ints, le, some)) ((r t).0 h))
      (λ late. none-later (t +ℤ pos 1) t late (omega (arith, ints)) h)

  pub never : IsNever set
  never t h =
      by_lt_z {P = ⊥} t s (λ early. let b = behind t s early in before (suc b.0) t (let e = b.1 in omega (arith, ints, e)) h)
      (λ late. none-later (t +ℤ pos 1) t late (omega (arith, ints)) h)

-- one more stay in which the set is not
pub none-more : (P Q : ℤ → Type 0) (from at last : ℤ) (stay : Stay) → ((t : ℤ) → P t ↔ Q t) → HasNone Q from at
    → IsStay P at last stay → stay.holds ≡ false → HasNone Q from stay.until.0
none-more P Q from at last stay same none is not t later before h =
    by_lt_z {P = ⊥} t at (λ lt. none t later lt h) (λ ge.
    by_lt_z {P = ⊥} at t (λ lt. never ((is.same t lt before).1 ((same t).1 h))) (λ le.
    let e : t ≡ at = omega (arith, ints, ge, le) in never (subst P e ((same t).1 h))))
  where
    never : P at → ⊥
    never p = let q = is.holds.1 p in cc

-- two sets that are the same for some time
pub none-in : (P Q : ℤ → Type 0) (at until reached v : ℤ) → ((t : ℤ) → at ≤ℤ t → t <ℤ until → P t ↔ Q t) → HasNone P at reached
    → v ≤ℤ until → v ≤ℤ reached → HasNone Q at v
none-in P Q at until reached v same none a b t later before h =
    none t later (omega (arith, ints, before, b)) ((same t later (omega (arith, ints, before, a))).1 h)

pub none-on : (P : ℤ → Type 0) (a b c : ℤ) → HasNone P a b → HasNone P b c → HasNone P a c
none-on P a b c first second t later before h =
    by_lt_z {P = ⊥} t b (λ lt. first t later lt h) (λ ge. second t ge before h)

-- ---- one domain without another

pub none-alone : (d o x y : Tree) (from until : ℤ) → x ≡ d → y ≡ o → HasNone (InTree (Joined Minus x y)) from until
    → HasNoneAlone (InTree d) (InTree o) from until
none-alone d o x y from until e f none t later before a =
    elim (in_tree o t) [
      | inl b ↦ b
      | inr n ↦ absurd (none t later before
          (subst (λ (z : Tree). InTree z t) (sym e) a, (λ h. n (subst (λ (z : Tree). InTree z t) f h))))
    ]

-- what is first from a second on, before which there is none, is first
module _ (P Q : ℤ → Type 0) (from at : ℤ) (none : HasNoneAlone P Q from at) (on : from ≤ℤ at) where
  both : (until : ℤ) → HasNoneAlone P Q at until → HasNoneAlone P Q from until
  both until h t later before a =
      by_lt_z {P = Q t} t at (λ lt. none t later lt a) (λ ge. h t ge before a)

  pub first-later : (until end : ℤ) → until ≡ end → (o : Option Sec)
      → MatchOption o (HasNoneAlone P Q at until) (λ s. IsFirstAlone P Q at until s.0)
      → MatchOption o (HasNoneAlone P Q from end) (λ s. IsFirstAlone P Q from end s.0)
  first-later until end e None h = both end (subst (λ (u : ℤ). HasNoneAlone P Q at u) e h)
  first-later until end e (Some s) h = record {
    later = omega (arith, ints, on, h.later);
    within = omega (arith, ints, e, h.within);
    alone = h.alone;
    least = both s.0 h.least;
  }
