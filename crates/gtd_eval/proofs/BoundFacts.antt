-- The bounds of an expression by its basic domains that repeat weekly: what lies within them, and how they repeat.
use Rattle.std.proofs.Common.{◌≡◌, ◌↔◌, refl, subst, arith, inl, inr, Bool, true, false}
use Rattle.std.specs.Prelude.{ℤ, ◌⊎◌, IsTrue, not, pos, ◌+ℤ◌, ◌≤ℤ◌, ◌<ℤ◌}
use Rattle.std.proofs.lemmas.Int.{ints, by_lt_z}
use Rattle.gtd_core.specs.Trees.{Tree, Single, Joined, tree_of}
use Rattle.gtd_core.specs.declared.domain.Expr.{Expr}
use Rattle.gtd_core.specs.declared.domain.Op.{Op}
use Rattle.gtd_core.specs.declared.domain.Op.TheVariants.{Union, Meet, Minus}
use Rattle.gtd_core.specs.declared.duration.DurationParts.{DurationParts}
use Rattle.gtd_core.specs.declared.start.StartParts.{StartParts}
use Rattle.gtd_recur.specs.Membership.{InStretches}
use Rattle.gtd_recur.specs.Periods.{IsPeriod, RepeatsAfter}
use Rattle.gtd_recur.specs.Weekly.{IsWeekly}
use Rattle.gtd_recur.specs.facts.PeriodLemmas.{period-forward, period-back, repeats-longer}
use Rattle.gtd_spans.specs.Change.{NeverChanges}
use Rattle.gtd_spans.specs.Normal.{Combined}
use Rattle.gtd_spans.specs.facts.NormalFor.{combined-both}
use Rattle.gtd_eval.specs.Bounds.{InBasicBound, InBound, WeeklyRepeat, right_bound}
use Rattle.gtd_eval.specs.Membership.{InTree}
use Rattle.gtd_eval.specs.Stays.{IsJoined, IsStay}
use Rattle.gtd_eval.specs.declared.stay.Stay.{Stay}
use Rattle.gtd_eval.specs.facts.StayFacts.{joined_stays}
use Rattle.gtd_eval.proofs.PeriodChanges.{never-changes}

-- ---- what lies within the bounds

-- a bound from above has what the set has, and one from below has nothing else
abbrev Bounds : Bool → Type 0 → Type 0 → Type 0
Bounds true P Q = P → Q
Bounds false P Q = Q → P

basic-bounds : (upper : Bool) (p : StartParts) (q : DurationParts) (t : ℤ)
    → Bounds upper (InStretches p q t) (InBasicBound upper p q t)
basic-bounds true p q t = λ h weekly. h
basic-bounds false p q t = λ h. h.1

joined-bounds : (op : Op) (upper : Bool) (P Q R S : Type 0) → Bounds upper P R → Bounds (right_bound op upper) Q S
    → Bounds upper (Combined op P Q) (Combined op R S)
joined-bounds Union true P Q R S f g = λ h. elim h [ inl x ↦ inl (f x) | inr y ↦ inr (g y) ]
joined-bounds Union false P Q R S f g = λ h. elim h [ inl x ↦ inl (f x) | inr y ↦ inr (g y) ]
joined-bounds Meet true P Q R S f g = λ h. (f h.0, g h.1)
joined-bounds Meet false P Q R S f g = λ h. (f h.0, g h.1)
joined-bounds Minus true P Q R S f g = λ h. (f h.0, (λ y. h.1 (g y)))
joined-bounds Minus false P Q R S f g = λ h. (f h.0, (λ y. h.1 (g y)))

bounding : (upper : Bool) (e : Tree) (t : ℤ) → Bounds upper (InTree e t) (InBound upper e t)
bounding upper (Single p q) t = basic-bounds upper p q t
bounding upper (Joined op left right) t =
    joined-bounds op upper (InTree left t) (InTree right t) (InBound upper left t) (InBound (right_bound op upper) right t)
    (bounding upper left t) (bounding (right_bound op upper) right t)

within : (holds : Bool) (P Q : Type 0) → Bounds (not holds) P Q → IsTrue holds ↔ Q → IsTrue holds ↔ P
within true P Q b q = ((λ h. b (q.0 refl)), (λ p. refl))
within false P Q b q = ((λ h. absurd (cc)), (λ p. q.1 (b p)))

-- ---- how they repeat

basic-repeats : (upper : Bool) (w : ℤ) (p : StartParts) (q : DurationParts) (t : ℤ) → IsPeriod w
    → (IsWeekly p q → RepeatsAfter w p q) → InBasicBound upper p q t ↔ InBasicBound upper p q (t +ℤ w)
basic-repeats true w p q t is r = (
  (λ h weekly. period-forward w p q t is (r weekly) (h weekly)),
  (λ h weekly. period-back w p q t is (r weekly) (h weekly)),
)
basic-repeats false w p q t is r = (
  (λ h. (h.0, period-forward w p q t is (r h.0) h.1)),
  (λ h. (h.0, period-back w p q t is (r h.0) h.1)),
)

pub bound-repeats : (upper : Bool) (w : ℤ) (e : Tree) (t : ℤ) → IsPeriod w → WeeklyRepeat w e
    → InBound upper e t ↔ InBound upper e (t +ℤ w)
bound-repeats upper w (Single p q) t is r = basic-repeats upper w p q t is r
bound-repeats upper w (Joined op left right) t is r =
    combined-both op (InBound upper left t) (InBound (right_bound op upper) right t) (InBound upper left (t +ℤ w))
    (InBound (right_bound op upper) right (t +ℤ w))
    (bound-repeats upper w left t is r.0) (bound-repeats (right_bound op upper) w right t is r.1)

-- what repeats after a period repeats after a longer one
pub weekly-longer : (v w : ℤ) (e : Tree) → v ≤ℤ w → WeeklyRepeat v e → WeeklyRepeat w e
weekly-longer v w (Single p q) le r = λ weekly. repeats-longer v w p q le (r weekly)
weekly-longer v w (Joined op left right) le r = (weekly-longer v w left le r.0, weekly-longer v w right le r.1)

-- ---- how long they stay

pub join-bound : (op : Op) (upper side : Bool) (l r left right : Expr) (s last : ℤ) (a b stay : Stay) → l ≡ left → r ≡ right
    → side ≡ right_bound op upper → IsJoined op a b stay → IsStay (InBound upper (tree_of l)) s last a
    → IsStay (InBound side (tree_of r)) s last b → IsStay (InBound upper (Joined op (tree_of left) (tree_of right))) s last stay
join-bound op upper side l r left right s last a b stay el er es joined p q =
    joined_stays op (InBound upper (tree_of left)) (InBound (right_bound op upper) (tree_of right)) s last a b stay
    (subst (λ (e : Expr). IsStay (InBound upper (tree_of e)) s last a) el p)
    (subst (λ (e : Expr). IsStay (InBound (right_bound op upper) (tree_of e)) s last b) er
    (subst (λ (x : Bool). IsStay (InBound x (tree_of r)) s last b) es q)) joined

-- ---- sets of which it is said whether they have a second

-- each second from s up to `until` is in the set exactly if that is said to hold
abbrev pub AreTold : Bool → (ℤ → Type 0) → ℤ → ℤ → Type 0
AreTold holds set s until = (t : ℤ) → s ≤ℤ t → t <ℤ until → IsTrue holds ↔ set t

-- what is said of the bound is so of the expression
pub all-within : (holds : Bool) (e : Tree) (s until : ℤ) → AreTold holds (InBound (not holds) e) s until
    → AreTold holds (InTree e) s until
all-within holds e s until told = λ t from before.
    within holds (InTree e t) (InBound (not holds) e t) (bounding (not holds) e t) (told t from before)

over : (P Q R : Type 0) → P ↔ Q → Q ↔ R → P ↔ R
over P Q R a b = ((λ h. b.0 (a.0 h)), (λ h. a.1 (b.1 h)))

back : (P Q R : Type 0) → P ↔ Q → P ↔ R → Q ↔ R
back P Q R a b = ((λ h. b.0 (a.1 h)), (λ h. a.0 (b.1 h)))

module _ (holds : Bool) (set : ℤ → Type 0) (s : ℤ) where
  -- it is so in the next stay, if it is at its second
  pub told-on : (at last : ℤ) (stay : Stay) → IsStay set at last stay → stay.holds ≡ holds → AreTold holds set s at
      → AreTold holds set s stay.until.0
  told-on at last stay is same told = λ t from before.
      by_lt_z {P = IsTrue holds ↔ set t} t at
      (λ lt. told t from lt)
      (λ ge. by_lt_z {P = IsTrue holds ↔ set t} at t
      (λ later. over (IsTrue holds) (set at) (set t) here (is.same t later before))
      (λ le. let e : at ≡ t = omega (arith, ints, ge, le) in subst (λ (u : ℤ). IsTrue holds ↔ set u) e here))
    where
      here : IsTrue holds ↔ set at
      here = subst (λ (b : Bool). IsTrue b ↔ set at) same is.holds

  -- it is so at all later seconds, if it is for a period after which the set repeats
  pub told-ever : (w until : ℤ) → pos 0 <ℤ w → ((t : ℤ) → set t ↔ set (t +ℤ w)) → (s +ℤ w) ≤ℤ until
      → AreTold holds set s until → (last : ℤ) → AreTold holds set s last
  told-ever w until some r far told last = λ t from before.
      by_lt_z {P = IsTrue holds ↔ set t} s t
      (λ later. over (IsTrue holds) (set s) (set t) here (never-changes set w s until some r far never last t later before))
      (λ le. let e : s ≡ t = omega (arith, ints, from, le) in subst (λ (u : ℤ). IsTrue holds ↔ set u) e here)
    where
      here : IsTrue holds ↔ set s
      here = told s (omega (arith, ints)) (omega (arith, ints, some, far))

      never : NeverChanges set s until
      never = λ t after before. back (IsTrue holds) (set s) (set t) here (told t (omega (arith, ints, after)) before)

  -- and so to the end, if it is as far as that, or for such a period
  pub told-to-end : (w last at end : ℤ) → pos 0 <ℤ w → ((t : ℤ) → set t ↔ set (t +ℤ w))
      → ((last ≡ s +ℤ w) ⊎ (last ≡ end)) → last ≤ℤ at → AreTold holds set s at → AreTold holds set s end
  told-to-end w last at end some r (inl e) past told = told-ever w at some r (omega (arith, ints, e, past)) told end
  told-to-end w last at end some r (inr e) past told = λ t from before. told t from (omega (arith, ints, e, past, before))

  -- then it does not change
  pub never-told : (until end : ℤ) → end ≡ until → AreTold holds set s until → NeverChanges set s end
  never-told until end e told = λ t after before.
      back (IsTrue holds) (set s) (set t) (told s (omega (arith, ints)) (omega (arith, ints, after, before, e)))
      (told t (omega (arith, ints, after)) (omega (arith, ints, before, e)))
