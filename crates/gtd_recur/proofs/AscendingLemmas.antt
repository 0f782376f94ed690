-- The starts of days come in ascending order.
use Rattle.std.proofs.Common.{ℕ, zero, suc, ◌+◌, Bool, List, [], ◌∷◌, ◌++◌, map, filter, inl, inr, arith, ℤ, pos, ◌+ℤ◌, ◌-ℤ◌}
use Rattle.std.proofs.Common.{◌*ℤ◌, ◌<ℤ◌, ◌≤ℤ◌}
use Rattle.std.proofs.lemmas.Bool.{cases_Bool}
use Rattle.gtd_calendar.specs.facts.Signed.{signed_arith}
use Rattle.gtd_calendar.specs.ComputedFields.{day_fields}
use Rattle.gtd_core.specs.declared.start.StartParts.{StartParts}
use Rattle.gtd_recur.specs.Begins.{begins_on, begins_at}
use Rattle.gtd_recur.specs.Work.{days_from, days_between, numbers_from, starts_on, starts_of}
use Rattle.gtd_recur.specs.Starts.{clock_starts}
use Rattle.gtd_recur.specs.Ascending.{AllAfter, AllBefore, IsAscending}
use Rattle.gtd_recur.specs.facts.StartsLemmas.{starts_on-yes, starts_on-no, starts_of-cons, starts_of-nil}

pub after-weaken : (b c : ℤ) (xs : List ℤ) → c ≤ℤ b → AllAfter b xs → AllAfter c xs
after-weaken b c [] le h = tt
after-weaken b c (x ∷ xs) le h = (omega (arith, signed_arith, h.0), after-weaken b c xs le h.1)

pub after-append : (b : ℤ) (xs ys : List ℤ) → AllAfter b xs → AllAfter b ys → AllAfter b (xs ++ ys)
after-append b [] ys p q = q
after-append b (x ∷ xs) ys p q = (p.0, after-append b xs ys p.1 q)

pub before-weaken : (b c : ℤ) (xs : List ℤ) → b ≤ℤ c → AllBefore b xs → AllBefore c xs
before-weaken b c [] le h = tt
before-weaken b c (x ∷ xs) le h = (omega (arith, signed_arith, h.0), before-weaken b c xs le h.1)

-- two lists in order, the one before and the other from a second on
pub ascending-append : (m : ℤ) (xs ys : List ℤ) → IsAscending xs → IsAscending ys → AllBefore m xs → AllAfter (m -ℤ pos 1) ys
    → IsAscending (xs ++ ys)
ascending-append m [] ys p q low high = q
ascending-append m (x ∷ xs) ys p q low high = (
  after-append x xs ys p.0 (after-weaken (m -ℤ pos 1) x ys (omega (arith, signed_arith, low.0)) high),
  ascending-append m xs ys p.1 q low.1 high,
)

-- what stands before an element in an ascending list, and after it
pub ascending-before : (xs : List ℤ) (b : ℤ) (ys : List ℤ) → IsAscending (xs ++ b ∷ ys) → AllBefore b xs
ascending-before [] b ys h = tt
ascending-before (x ∷ xs) b ys h = (after-at x xs b ys h.0, ascending-before xs b ys h.1)
  where
    after-at : (x : ℤ) (xs : List ℤ) (b : ℤ) (ys : List ℤ) → AllAfter x (xs ++ b ∷ ys) → x <ℤ b
    after-at x [] b ys h = h.0
    after-at x (z ∷ xs) b ys h = after-at x xs b ys h.1

pub ascending-after : (xs ys : List ℤ) → IsAscending (xs ++ ys) → IsAscending ys
ascending-after [] ys h = h
ascending-after (x ∷ xs) ys h = ascending-after xs ys h.1

passing-after : (d b : ℤ) (test : ℕ → Bool) (n k : ℕ) → b <ℤ (d +ℤ pos n)
    → AllAfter b (map (λ j. d +ℤ pos j) (filter test (numbers_from n k)))
unfolding numbers_from
passing-after d b test n zero lt = tt
passing-after d b test n (suc k) lt =
    let rest = passing-after d b test (n + 1) k (omega (arith, signed_arith)) in
    elim (cases_Bool (test n)) [ inl on ↦ rw on (lt, rest) | inr off ↦ rw off rest ]

passing-before : (d b : ℤ) (test : ℕ → Bool) (n k : ℕ) → (d +ℤ pos (n + k)) ≤ℤ b
    → AllBefore b (map (λ j. d +ℤ pos j) (filter test (numbers_from n k)))
unfolding numbers_from
passing-before d b test n zero le = tt
passing-before d b test n (suc k) le =
    let rest = passing-before d b test (n + 1) k (omega (arith, signed_arith)) in
    elim (cases_Bool (test n)) [ inl on ↦ rw on (omega (arith, signed_arith), rest) | inr off ↦ rw off rest ]

passing-ascending : (d : ℤ) (test : ℕ → Bool) (n k : ℕ) → IsAscending (map (λ j. d +ℤ pos j) (filter test (numbers_from n k)))
unfolding numbers_from
passing-ascending d test n zero = tt
passing-ascending d test n (suc k) =
    let rest = passing-ascending d test (n + 1) k in
    let after = passing-after d (d +ℤ pos n) test (n + 1) k (omega (arith, signed_arith)) in
    elim (cases_Bool (test n)) [ inl on ↦ rw on (after, rest) | inr off ↦ rw off rest ]

-- the starts of a day lie in it, in order
pub starts_on-ascending : (p : StartParts) (n : ℤ) → IsAscending (starts_on p n)
    × AllAfter (pos 86400 *ℤ n -ℤ pos 1) (starts_on p n) × AllBefore (pos 86400 *ℤ (n +ℤ pos 1)) (starts_on p n)
unfolding clock_starts
starts_on-ascending p n = elim (cases_Bool (begins_on p (day_fields n))) [
  | inl on ↦ rw (starts_on-yes p n on) (
    passing-ascending (pos 86400 *ℤ n) (begins_at p) 0 86400,
    passing-after (pos 86400 *ℤ n) (pos 86400 *ℤ n -ℤ pos 1) (begins_at p) 0 86400 (omega (arith, signed_arith)),
    passing-before (pos 86400 *ℤ n) (pos 86400 *ℤ (n +ℤ pos 1)) (begins_at p) 0 86400 (omega (arith, signed_arith)),
  )
  | inr off ↦ rw (starts_on-no p n off) (tt, tt, tt)
]

-- so do those of days
pub starts_of-ascending : (p : StartParts) (n : ℤ) (k : ℕ) → IsAscending (starts_of p (days_from n k))
    × AllAfter (pos 86400 *ℤ n -ℤ pos 1) (starts_of p (days_from n k))
unfolding days_from
starts_of-ascending p n zero = rw (starts_of-nil p) (tt, tt)
starts_of-ascending p n (suc k) =
    let here = starts_on-ascending p n in
    let rest = starts_of-ascending p (n +ℤ pos 1) k in
    rw (starts_of-cons p n (days_from (n +ℤ pos 1) k)) (
      ascending-append (pos 86400 *ℤ (n +ℤ pos 1)) _ _ here.0 rest.0 here.2 rest.1,
      after-append _ _ _ here.1 (after-weaken (pos 86400 *ℤ (n +ℤ pos 1) -ℤ pos 1) (pos 86400 *ℤ n -ℤ pos 1) _
          (omega (arith, signed_arith)) rest.1),
    )

pub window-ascending : (p : StartParts) (a b : ℤ) → IsAscending (starts_of p (days_between a b))
unfolding days_between
window-ascending p a b = (starts_of-ascending p a _).0
