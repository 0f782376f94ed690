-- How much was counted when a start is handed out.
use Rattle.std.proofs.Common.{◌≡◌, ℕ, zero, suc, ◌+◌, ◌≤◌, Bool, true, false, not, ◌&&◌, List, [], ◌∷◌, ◌++◌, length, take}
use Rattle.std.proofs.Common.{cond, inl, inr, refl, ap, ◌∙◌, arith, ℤ, pos, ◌+ℤ◌, ◌<ℤ◌, ◌≤ℤ◌, int_lt}
use Rattle.std.specs.Prelude.{count_by}
use Rattle.std.proofs.lemmas.Bool.{cases_Bool, and_left}
use Rattle.std.proofs.lemmas.List.{take-append-drop, length-take-le}
use Rattle.std.proofs.lemmas.List.Sums.{count_by-le-length}
use Rattle.gtd_calendar.specs.facts.Signed.{signed_arith}
use Rattle.gtd_core.specs.Seconds.{day_of_second}
use Rattle.gtd_core.specs.declared.start.StartParts.{StartParts}
use Rattle.gtd_recur.specs.Begins.{month_and_year_fit}
use Rattle.gtd_recur.specs.Work.{days_from, days_between, starts_of, least_work}
use Rattle.gtd_recur.specs.Starts.{AreLeft, IsInWindow, IsLookedCount}
use Rattle.gtd_recur.specs.Ascending.{AllAfter, AllBefore, IsAscending}
use Rattle.gtd_recur.specs.facts.StartsLemmas.{count-append, count-is, days_between-append, days_between-is, later_by}
use Rattle.gtd_recur.proofs.AscendingLemmas.{window-ascending, ascending-before, ascending-after}
use Rattle.gtd_recur.proofs.CoverLemmas.{lt_from_test}

pub no_lt : (a b : ℤ) → b ≤ℤ a → int_lt a b ≡ false
no_lt a b le = elim (cases_Bool (int_lt a b)) [
  | inl on ↦ absurd
      (let lt = lt_from_test a b on in omega (arith, signed_arith))
  | inr off ↦ off
]

abbrev pub counted_as : Bool → ℕ
counted_as b = cond b 1 0

pub if-true : (b : Bool) → b ≡ true → counted_as b ≡ 1
if-true b e = rw e refl

pub if-false : (b : Bool) → b ≡ false → counted_as b ≡ 0
if-false b e = rw e refl

-- all of a list passes a test, or none
pub count-all : (f : ℤ → Bool) (b : ℤ) (xs : List ℤ) → ((x : ℤ) → x <ℤ b → f x ≡ true) → AllBefore b xs → count_by f xs
    ≡ length xs
count-all f b [] pass h = refl
count-all f b (x ∷ xs) pass h = count-is f x xs ∙ rw (pass x h.0, count-all f b xs pass h.1) (omega arith)

pub count-no : (f : ℤ → Bool) (b : ℤ) (xs : List ℤ) → ((x : ℤ) → b <ℤ x → f x ≡ false) → AllAfter b xs → count_by f xs ≡ 0
count-no f b [] pass h = refl
count-no f b (x ∷ xs) pass h = count-is f x xs ∙ rw (pass x h.0, count-no f b xs pass h.1) refl

-- a test that asks for more passes no more
pub count-both : (f g : ℤ → Bool) (xs : List ℤ) → count_by (λ x. f x && g x) xs ≤ count_by g xs
count-both f g [] = omega arith
count-both f g (x ∷ xs) =
    let p = count-is (λ x. f x && g x) x xs in
    let q = count-is g x xs in
    omega (arith, p, q, count-both f g xs, fewer (f x) (g x))
  where
    fewer : (a b : Bool) → cond (a && b) 1 0 ≤ cond b 1 0
    fewer true b = omega arith
    fewer false true = omega arith
    fewer false false = omega arith

days-after : (a : ℤ) (k : ℕ) (b : ℤ) → b <ℤ a → AllAfter b (days_from a k)
unfolding days_from
days-after a zero b lt = tt
days-after a (suc k) b lt = (lt, days-after (a +ℤ pos 1) k b (omega (arith, signed_arith)))

days-before : (a : ℤ) (k : ℕ) (b : ℤ) → (a +ℤ pos k) ≤ℤ b → AllBefore b (days_from a k)
unfolding days_from
days-before a zero b le = tt
days-before a (suc k) b le = (omega (arith, signed_arith), days-before (a +ℤ pos 1) k b (omega (arith, signed_arith)))

pub between-after : (a c b : ℤ) → b <ℤ a → AllAfter b (days_between a c)
unfolding days_between
between-after a c b lt = days-after a _ b lt

pub between-before : (a b : ℤ) → a ≤ℤ b → AllBefore b (days_between a b)
between-before a b le =
    let e = later_by a b le in
    rw (days_between-is a b _ e) (days-before a _ b (omega (arith, signed_arith, e)))

-- the starts up to one that is handed out next
pub handed-up_to : (k : ℕ) (all more : List ℤ) (b : ℤ) → IsAscending all → AreLeft k all (b ∷ more)
    → k + 1 ≤ count_by (λ c. not (int_lt b c)) all
handed-up_to k all more b asc h =
    let split : take k all ++ b ∷ more ≡ all = ap (λ (l : List ℤ). take k all ++ l) h.rest ∙ take-append-drop k all in
    let before = ascending-before (take k all) b more (rw split asc) in
    let count = h.count in
    let long = length-take-le k all (omega arith) in
    let counted = count-append (λ c. not (int_lt b c)) (take k all) (b ∷ more) in
    let here = count-is (λ c. not (int_lt b c)) b more in
    let self : not (int_lt b b) ≡ true = ap not (no_lt b b (omega (arith, signed_arith))) in
    let one = if-true (not (int_lt b b)) self in
    let first = count-all (λ c. not (int_lt b c)) b (take k all)
    (λ c lt. ap not (no_lt b c (omega (arith, signed_arith)))) before in
    let total = rw split at counted in
    omega (arith, total, here, one, first, long)

-- and those before it
handed-before : (k : ℕ) (all more : List ℤ) (b : ℤ) → IsAscending all → AreLeft k all (b ∷ more)
    → count_by (λ c. int_lt c b) all ≤ k
handed-before k all more b asc h =
    let split : take k all ++ b ∷ more ≡ all = ap (λ (l : List ℤ). take k all ++ l) h.rest ∙ take-append-drop k all in
    let after = ascending-after (take k all) (b ∷ more) (rw split asc) in
    let count = h.count in
    let long = length-take-le k all (omega arith) in
    let counted = count-append (λ c. int_lt c b) (take k all) (b ∷ more) in
    let here = count-is (λ c. int_lt c b) b more in
    let self : int_lt b b ≡ false = no_lt b b (omega (arith, signed_arith)) in
    let one = if-false (int_lt b b) self in
    let rest = count-no (λ c. int_lt c b) b more (λ c lt. no_lt c b (omega (arith, signed_arith))) after.0 in
    let most = count_by-le-length (λ c. int_lt c b) (take k all) in
    let total = rw split at counted in
    omega (arith, total, here, one, rest, most, long)

-- no less was counted than must be before the start that is handed out
pub at_least : (p : StartParts) (first seen day next end b : ℤ) (looked k : ℕ) (more : List ℤ) → day_of_second b ≡ day
    → IsInWindow first day next end → IsLookedCount p first seen day next looked
    → AreLeft k (starts_of p (days_between first end)) (b ∷ more) → least_work p (days_between first end) b + 1 ≤ looked + (k + 1)
unfolding least_work
at_least p first seen day next end b looked k more on w counted h =
    let split = days_between-append first next end (omega (arith, signed_arith, w.day_in, w.next_in)) w.end_in in
    let both = count-append (λ n. int_lt n day && month_and_year_fit p n) (days_between first next) (days_between next end) in
    let fewer = count-both (λ n. int_lt n day) (month_and_year_fit p) (days_between first next) in
    let none = count-no (λ n. int_lt n day && month_and_year_fit p n) day (days_between next end)
    (λ n lt. and_left _ _ (no_lt n day (omega (arith, signed_arith)))) (between-after next end day w.next_in) in
    let least = counted.all in
    let starts = handed-before k (starts_of p (days_between first end)) more b (window-ascending p first end) h in
    let days : count_by (λ n. int_lt n day && month_and_year_fit p n) (days_between first end) ≤ looked =
    rw split (omega (arith, both, fewer, none, least)) in
    rw on (omega (arith, days, starts))
