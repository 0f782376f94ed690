-- A set of seconds has one normal list between two whole numbers, and what it is.
use Rattle.std.specs.Prelude.{ℤ, pos, ◌-ℤ◌, ◌≤ℤ◌, ◌≡◌, ◌↔◌, List, [], ◌∷◌}
use Rattle.std.proofs.Common.{arith, inl, inr}
use Rattle.std.proofs.lemmas.Int.{ints, by_lt_z}
use Rattle.gtd_core.specs.Seconds.{Interval}
use Rattle.gtd_spans.specs.Normal.{Holds, AllBeginFrom, AllBeginAfter, IsNormal, IsIn, AreInOrder, AreMaximal, IsNormalFor}
use Rattle.gtd_spans.specs.Normal.{Combined, combine}
use Rattle.gtd_core.specs.declared.domain.Op.{Op}
use Rattle.gtd_core.specs.declared.domain.Op.TheVariants.{Union, Meet, Minus}
use Rattle.gtd_spans.specs.facts.Combining.{combine-normal, combine-holds}
use Rattle.gtd_spans.specs.facts.OneList.{after-holds, one-list}
use Rattle.gtd_spans.specs.facts.Exists.{after-weaken}

begin-after : (b : ℤ) (xs : List Interval) → AllBeginFrom b xs → AreInOrder xs → (Holds xs b → ⊥) → AllBeginAfter b xs
begin-after b [] a o h = tt
begin-after b (x ∷ xs) a o h = (
  by_lt_z b x.from (λ lt. lt) (λ ge. absurd (h (inl (ge, omega (arith, ints, o.0, a.0))))),
  begin-after b xs a.1 o.2 (λ k. h (inr k)),
)

normal-from : (set : ℤ → Type 0) (xs : List Interval) → AreInOrder xs → AreMaximal set xs → ((t : ℤ) → Holds xs t → set t)
    → IsNormal xs
normal-from set [] o m i = tt
normal-from set (x ∷ xs) o m i =
    (o.0, begin-after x.until xs o.1 o.2 (λ k. m.1 (i x.until (inr k))), normal-from set xs o.2 m.2 (λ t k. i t (inr k)))

pub normal-of : (set : ℤ → Type 0) (from until : ℤ) (xs : List Interval) → IsNormalFor set from until xs → IsNormal xs
normal-of set from until xs n = normal-from (IsIn set from until) xs n.order n.maximal n.inside

weaken : (b : ℤ) (xs : List Interval) → AllBeginAfter b xs → AllBeginFrom b xs
weaken b [] a = tt
weaken b (x ∷ xs) a = (omega (arith, ints, a.0), weaken b xs a.1)

order-of : (xs : List Interval) → IsNormal xs → AreInOrder xs
order-of [] n = tt
order-of (x ∷ xs) n = (n.0, weaken x.until xs n.1, order-of xs n.2)

-- a second that a normal list that begins after b does not hold, before b or after it
not-before : (b : ℤ) (xs : List Interval) → AllBeginAfter b xs → Holds xs b → ⊥
not-before b xs a h = let q = after-holds b b xs a h in omega (arith, ints, q)

-- the ends of each interval are not held, if what comes before the list ends before it
maximal-of : (set : ℤ → Type 0) (b : ℤ) (xs : List Interval) → IsNormal xs → AllBeginAfter b xs
    → ((t : ℤ) → b ≤ℤ t → set t → Holds xs t) → AreMaximal set xs
maximal-of set b [] n a c = tt
maximal-of set b (x ∷ xs) n a c = (
  (λ s. elim (c (x.from -ℤ pos 1) (omega (arith, ints, a.0)) s) [
    | inl w ↦ omega (arith, ints, w.0)
    | inr k ↦ let q = after-holds x.until (x.from -ℤ pos 1) xs n.1 k in omega (arith, ints, q, n.0)
  ]),
  (λ s. elim (c x.until (omega (arith, ints, a.0, n.0)) s) [
    | inl w ↦ omega (arith, ints, w.1)
    | inr k ↦ not-before x.until xs n.1 k
  ]),
  maximal-of set x.until xs n.2 n.1 (λ t le s. elim (c t (omega (arith, ints, le, a.0, n.0)) s) [
    | inl w ↦ absurd (omega (arith, ints, w.1, le))
    | inr k ↦ k
  ]),
)

begins : (x : Interval) (xs : List Interval) → IsNormal (x ∷ xs) → AllBeginAfter (x.from -ℤ pos 1) (x ∷ xs)
begins x xs n = (omega (arith, ints), after-weaken x.until (x.from -ℤ pos 1) xs (omega (arith, ints, n.0)) n.1)

-- a normal list that holds exactly those seconds is their normal list
pub normal-for : (set : ℤ → Type 0) (from until : ℤ) (xs : List Interval) → IsNormal xs
    → ((t : ℤ) → Holds xs t ↔ IsIn set from until t) → IsNormalFor set from until xs
normal-for set from until [] n is = record {
  order = tt;
  inside = λ t. (is t).0;
  complete = λ t. (is t).1;
  maximal = tt;
}
normal-for set from until (x ∷ xs) n is = record {
  order = order-of (x ∷ xs) n;
  inside = λ t. (is t).0;
  complete = λ t. (is t).1;
  maximal = maximal-of (IsIn set from until) (x.from -ℤ pos 1) (x ∷ xs) n (begins x xs n) (λ t le. (is t).1);
}

-- the law of one normal list
pub one-normal-list : (set : ℤ → Type 0) (from until : ℤ) (xs ys : List Interval)
    → IsNormalFor set from until xs → IsNormalFor set from until ys → xs ≡ ys
one-normal-list set from until xs ys n m =
    one-list xs ys (normal-of set from until xs n) (normal-of set from until ys m)
    (λ t. ((λ h. m.complete t (n.inside t h)), (λ h. n.complete t (m.inside t h))))

-- what the operator makes is in a range if its sides are
pub combined-in : (op : Op) (from until t : ℤ) (P Q : ℤ → Type 0)
    → Combined op (IsIn P from until t) (IsIn Q from until t) ↔ IsIn (λ u. Combined op (P u) (Q u)) from until t
combined-in Union from until t P Q = (
  (λ h. elim h [ inl a ↦ (a.0, a.1, inl a.2) | inr b ↦ (b.0, b.1, inr b.2) ]),
  (λ h. elim h.2 [ inl a ↦ inl (h.0, h.1, a) | inr b ↦ inr (h.0, h.1, b) ]),
)
combined-in Meet from until t P Q = ((λ h. (h.0.0, h.0.1, (h.0.2, h.1.2))), (λ h. ((h.0, h.1, h.2.0), (h.0, h.1, h.2.1))))
combined-in Minus from until t P Q =
    ((λ h. (h.0.0, h.0.1, (h.0.2, (λ q. h.1 (h.0.0, h.0.1, q))))), (λ h. ((h.0, h.1, h.2.0), (λ q. h.2.1 q.2))))

combined-same : (op : Op) (P Q R S : Type 0) → P ↔ R → Q ↔ S → Combined op P Q → Combined op R S
combined-same Union P Q R S e f h = elim h [ inl a ↦ inl (e.0 a) | inr b ↦ inr (f.0 b) ]
combined-same Meet P Q R S e f h = (e.0 h.0, f.0 h.1)
combined-same Minus P Q R S e f h = (e.0 h.0, (λ s. h.1 (f.1 s)))

pub combined-both : (op : Op) (P Q R S : Type 0) → P ↔ R → Q ↔ S → Combined op P Q ↔ Combined op R S
combined-both op P Q R S e f = (combined-same op P Q R S e f, combined-same op R S P Q (e.1, e.0) (f.1, f.0))

pub is-in : (set : ℤ → Type 0) (from until : ℤ) (xs : List Interval) → IsNormalFor set from until xs → (t : ℤ) → Holds xs t
    ↔ IsIn set from until t
is-in set from until xs n t = (n.inside t, n.complete t)

-- the operator over two lists that are normal for two sets is normal for what it makes of the sets
pub combine-normal-for : (op : Op) (P Q : ℤ → Type 0) (from until : ℤ) (xs ys : List Interval)
    → IsNormalFor P from until xs → IsNormalFor Q from until ys
    → IsNormalFor (λ t. Combined op (P t) (Q t)) from until (combine op xs ys)
combine-normal-for op P Q from until xs ys n m =
    normal-for (λ t. Combined op (P t) (Q t)) from until (combine op xs ys) (combine-normal op xs ys)
    (λ t. let c = combine-holds op xs ys t in
    let b = combined-both op (Holds xs t) (Holds ys t) (IsIn P from until t) (IsIn Q from until t)
    (is-in P from until xs n t) (is-in Q from until ys m t) in
    let i = combined-in op from until t P Q in
    ((λ h. i.0 (b.0 (c.0 h))), (λ h. c.1 (b.1 (i.1 h)))))
