-- First intervals of a list that were handed on, and what was handed on of the whole: for `each_kept`, `each_given_left` and
-- `each_of_leaf`.
use Rattle.std.proofs.Common.{◌≡◌, ◌∙◌, refl, sym, ap, inl, inr, List, [], ◌∷◌, ◌++◌, append_assoc, arith}
use Rattle.std.specs.Prelude.{◌≤◌, Bool, true, false, length}
use Rattle.std.proofs.lemmas.List.{length-append}
use Rattle.gtd_core.specs.Seconds.{Interval}
use Rattle.gtd_spans.specs.Inside.{IsInside}
use Rattle.gtd_spans.specs.Sweeping.{still, Fits, GivesLeft, GivesRight}
use Rattle.gtd_spans.specs.declared.bounds.Bounds.{Bounds}
use Rattle.gtd_spans.specs.declared.sweep.Sweep.{Sweep}
use Rattle.gtd_eval.specs.Taking.{CarriesOn, HandsOn, TakesSome}
use Rattle.gtd_eval.specs.Within.{AreInside, IsReadyWithin, TakesWithin}

-- first intervals of the left side that lie inside of the bounds are the first ones of the result; the same for the right side
pub left-first : (s : Sweep) (bounds : Bounds) (first left r : List Interval)
    → ((x : Interval) → IsInside bounds x → GivesLeft s x) → AreInside bounds first → Fits s (first ++ left) r
    → Fits s left r × (still s (first ++ left) r ≡ first ++ still s left r)
left-first s bounds [] left r gives inside fits = (fits, refl)
left-first s bounds (x ∷ xs) left r gives inside fits =
    let one = gives x inside.0 (x ∷ (xs ++ left)) (xs ++ left) r refl fits in
    let more = left-first s bounds xs left r gives inside.1 one.0 in
    (more.0, one.1 ∙ ap (λ (l : List Interval). x ∷ l) more.1)

pub right-first : (s : Sweep) (bounds : Bounds) (l first left : List Interval)
    → ((x : Interval) → IsInside bounds x → GivesRight s x) → AreInside bounds first → Fits s l (first ++ left)
    → Fits s l left × (still s l (first ++ left) ≡ first ++ still s l left)
right-first s bounds l [] left gives inside fits = (fits, refl)
right-first s bounds l (x ∷ xs) left gives inside fits =
    let one = gives x inside.0 l (x ∷ (xs ++ left)) (xs ++ left) refl fits in
    let more = right-first s bounds l xs left gives inside.1 one.0 in
    (more.0, one.1 ∙ ap (λ (ys : List Interval). x ∷ ys) more.1)

-- after first intervals that were handed on, whatever is done with the others is done with all
pub carries-first : {E T : Type 0} (takes : E → T → Interval → E → T → Bool → Type 0)
    (first rest : List Interval) (into0 into : E)
    (taker0 taker : T) → HandsOn takes first into0 taker0 [] into taker true
    → CarriesOn takes rest into taker (first ++ rest) into0 taker0
carries-first takes [] rest into0 into taker0 taker on = λ left after then all h. rw (on.1, on.2) at h
carries-first takes (x ∷ xs) rest into0 into taker0 taker on = λ left after then all h.
    elim on [
      | inl stops ↦ cc
      | inr goes ↦ inr (
        goes.0,
        goes.1,
        goes.2,
        carries-first takes xs rest goes.0 into goes.1 taker goes.3 left after then all h,
      )
    ]

-- first intervals, of which the taker asked for no more after the last, are those that were handed on of all
pub stops-first : {E T : Type 0} (takes : E → T → Interval → E → T → Bool → Type 0) (first rest : List Interval) (into0 into : E)
    (taker0 taker : T) → HandsOn takes first into0 taker0 [] into taker false
    → HandsOn takes (first ++ rest) into0 taker0 rest into taker false
stops-first takes [] rest into0 into taker0 taker on = cc
stops-first takes (x ∷ xs) rest into0 into taker0 taker on =
    elim on [
      | inl stops ↦ inl (stops.0, ap (λ (ys : List Interval). ys ++ rest) stops.1, refl)
      | inr goes ↦ inr (goes.0, goes.1, goes.2, stops-first takes xs rest goes.0 into goes.1 taker goes.3)
    ]

-- what a taker that is ready for a list does with first intervals of it
pub some-first : {E T : Type 0} (takes : E → T → Interval → E → T → Bool → Type 0)
    (list first rest : List Interval) (into0 into : E) (taker0 taker : T) (all : Bool)
    → list ≡ first ++ rest → HandsOn takes first into0 taker0 [] into taker all
    → TakesSome takes list into0 taker0 rest into taker all
some-first takes list first rest into0 into taker0 taker true is on =
    rw is (carries-first takes first rest into0 into taker0 taker on)
some-first takes list first rest into0 into taker0 taker false is on =
    rw is (stops-first takes first rest into0 into taker0 taker on)

pub rest-no-more : (list first rest : List Interval) → list ≡ first ++ rest → length rest ≤ length list
rest-no-more list first rest is = rw (is, length-append first rest) (omega (arith))

both-inside : (bounds : Bounds) (xs ys : List Interval) → AreInside bounds xs → AreInside bounds ys → AreInside bounds (xs ++ ys)
both-inside bounds [] ys a b = b
both-inside bounds (x ∷ xs) ys a b = (a.0, both-inside bounds xs ys a.1 b)

-- one interval that was handed on
pub one-on : {E T : Type 0} (takes : E → T → Interval → E → T → Bool → Type 0) (x : Interval) (into after : E) (taker then : T)
    (all : Bool) → takes into taker x after then all → HandsOn takes (x ∷ []) into taker [] after then all
one-on takes x into after taker then true h = inr (after, then, h, (refl, refl, refl, refl))
one-on takes x into after taker then false h = inl (h, refl, refl)

-- one interval more
pub takes-one : {E T : Type 0} (is_ready : E → T → List Interval → Type 0) (takes : E → T → Interval → E → T → Bool → Type 0)
    (bounds : Bounds) (list mid left : List Interval) (x : Interval) (into0 into after : E) (taker0 taker then : T) (all : Bool)
    → TakesWithin is_ready takes (AreInside bounds) list into0 taker0 mid into taker true → mid ≡ x ∷ left → IsInside bounds x
    → takes into taker x after then all
    → (all ≡ true → (more : List Interval) → is_ready into taker (x ∷ more) → is_ready after then more)
    → TakesWithin is_ready takes (AreInside bounds) list into0 taker0 left after then all
takes-one is_ready takes bounds list mid left x into0 into after taker0 taker then all so_far is inside taken ready = record {
  first = so_far.first ++ (x ∷ []);
  split = so_far.split ∙ ap (λ (l : List Interval). so_far.first ++ l) is ∙ sym (append_assoc so_far.first (x ∷ []) left);
  are_so = both-inside bounds so_far.first (x ∷ []) so_far.are_so (inside, tt);
  hands_on = carries-first takes so_far.first (x ∷ []) into0 into taker0 taker so_far.hands_on [] after then all
      (one-on takes x into after taker then all taken);
  ready = λ yes more r. ready yes more (so_far.ready refl (x ∷ more)
      (rw (append_assoc so_far.first (x ∷ []) more) at r));
}

-- what a taker is ready for after one interval
pub ready-one : {E T : Type 0} (is_ready : E → T → List Interval → Type 0) (bounds : Bounds) (mid left : List Interval)
    (x : Interval) (into after : E) (taker then : T) → IsReadyWithin is_ready (AreInside bounds) mid into taker → mid ≡ x ∷ left
    → IsInside bounds x → ((more : List Interval) → is_ready into taker (x ∷ more) → is_ready after then more)
    → IsReadyWithin is_ready (AreInside bounds) left after then
ready-one is_ready bounds mid left x into after taker then before is inside ready = λ first rest split are.
    let old = before (x ∷ first) rest (is ∙ ap (λ (l : List Interval). x ∷ l) split) (inside, are) in
    (old.0, ready (first ++ old.0) old.1)

-- a taker that is ready for what the sweep still has to give is ready for first intervals of the left side inside of the bounds
pub left-ready : {E T : Type 0} (is_ready : E → T → List Interval → Type 0)
    (s : Sweep) (bounds : Bounds) (before r : List Interval)
    (into : E) (taker : T) → ((x : Interval) → IsInside bounds x → GivesLeft s x) → Fits s before r
    → is_ready into taker (still s before r)
    → IsReadyWithin is_ready (AreInside bounds) before into taker
left-ready is_ready s bounds before r into taker gives fits ready = λ first left split are.
    let one = left-first s bounds first left r gives are (rw split at fits) in
    (still s left r, rw (ap (λ (ys : List Interval). still s ys r) split ∙ one.1) at ready)

-- what a taker does with first intervals of the left side inside of the bounds, it does with what the sweep still has to give
pub left-given : {E T : Type 0} (is_ready : E → T → List Interval → Type 0) (takes : E → T → Interval → E → T → Bool → Type 0)
    (s : Sweep) (bounds : Bounds) (before after r : List Interval) (into0 into : E) (taker0 taker : T) (all : Bool)
    → ((x : Interval) → IsInside bounds x → GivesLeft s x) → Fits s before r
    → TakesWithin is_ready takes (AreInside bounds) before into0 taker0 after into taker all
    → Fits s after r × TakesSome takes (still s before r) into0 taker0 (still s after r) into taker all
    × (all ≡ true → is_ready into0 taker0 (still s before r) → is_ready into taker (still s after r))
    × (length (still s after r) ≤ length (still s before r))
left-given is_ready takes s bounds before after r into0 into taker0 taker all gives fits w =
    let one = left-first s bounds w.first after r gives w.are_so (rw w.split at fits) in
    let is : still s before r ≡ w.first ++ still s after r = ap (λ (ys : List Interval). still s ys r) w.split ∙ one.1 in (
      one.0,
      some-first takes (still s before r) w.first (still s after r) into0 into taker0 taker all is w.hands_on,
      (λ yes ready. w.ready yes (still s after r) (rw is at ready)),
      rest-no-more (still s before r) w.first (still s after r) is,
    )

-- a taker that is ready for what the sweep still has to give is ready for first intervals of the right side inside of the bounds
pub right-ready : {E T : Type 0} (is_ready : E → T → List Interval → Type 0)
    (s : Sweep) (bounds : Bounds) (l before : List Interval)
    (into : E) (taker : T) → ((x : Interval) → IsInside bounds x → GivesRight s x) → Fits s l before
    → is_ready into taker (still s l before)
    → IsReadyWithin is_ready (AreInside bounds) before into taker
right-ready is_ready s bounds l before into taker gives fits ready = λ first left split are.
    let one = right-first s bounds l first left gives are (rw split at fits) in
    (still s l left, rw (ap (λ (ys : List Interval). still s l ys) split ∙ one.1) at ready)

-- what a taker does with first intervals of the right side inside of the bounds, it does with what the sweep still has to give
pub right-given : {E T : Type 0} (is_ready : E → T → List Interval → Type 0) (takes : E → T → Interval → E → T → Bool → Type 0)
    (s : Sweep) (bounds : Bounds) (l before after : List Interval) (into0 into : E) (taker0 taker : T) (all : Bool)
    → ((x : Interval) → IsInside bounds x → GivesRight s x) → Fits s l before
    → TakesWithin is_ready takes (AreInside bounds) before into0 taker0 after into taker all
    → Fits s l after × TakesSome takes (still s l before) into0 taker0 (still s l after) into taker all
    × (all ≡ true → is_ready into0 taker0 (still s l before) → is_ready into taker (still s l after))
    × (length (still s l after) ≤ length (still s l before))
right-given is_ready takes s bounds l before after into0 into taker0 taker all gives fits w =
    let one = right-first s bounds l w.first after gives w.are_so (rw w.split at fits) in
    let is : still s l before ≡ w.first ++ still s l after = ap (λ (ys : List Interval). still s l ys) w.split ∙ one.1 in (
      one.0,
      some-first takes (still s l before) w.first (still s l after) into0 into taker0 taker all is w.hands_on,
      (λ yes ready. w.ready yes (still s l after) (rw is at ready)),
      rest-no-more (still s l before) w.first (still s l after) is,
    )
