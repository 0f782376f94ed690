-- How much was counted when a start is handed out, exactly.
use Rattle.std.proofs.Common.{◌≡◌, ℕ, ◌+◌, ◌<◌, ◌≤◌, Bool, true, not, ◌&&◌, List, [], ◌∷◌, ◌++◌, length, take, inl, refl, ap}
use Rattle.std.proofs.Common.{◌∙◌, sym, arith, ℤ, pos, ◌+ℤ◌, ◌-ℤ◌, ◌*ℤ◌, ◌<ℤ◌, ◌≤ℤ◌, int_lt, unsigned_abs}
use Rattle.std.specs.Prelude.{count_by}
use Rattle.std.proofs.lemmas.Bool.{and_left}
use Rattle.std.proofs.lemmas.Int.{by_lt_z}
use Rattle.std.proofs.lemmas.List.Sums.{count_by-le-length}
use Rattle.std.proofs.lemmas.List.{take-append-drop, length-take-le}
use Rattle.gtd_calendar.specs.facts.Signed.{signed_arith}
use Rattle.gtd_calendar.specs.facts.ClockLemmas.{second-parts}
use Rattle.gtd_core.specs.Seconds.{day_of_second}
use Rattle.gtd_calendar.specs.Clock.{second_of_day}
use Rattle.gtd_core.specs.declared.start.StartParts.{StartParts}
use Rattle.gtd_recur.specs.Begins.{month_and_year_fit}
use Rattle.gtd_recur.specs.Work.{days_between, starts_of, work, least_work}
use Rattle.gtd_recur.specs.Starts.{AreLeft, IsInWindow, IsLookedCount}
use Rattle.gtd_recur.specs.Ascending.{AllBefore, IsAscending, Has}
use Rattle.gtd_recur.specs.facts.StartsLemmas.{count-append, count-is, days_between-append, days_between-next}
use Rattle.gtd_recur.proofs.AscendingLemmas.{window-ascending, ascending-before, ascending-after, starts_of-ascending}
use Rattle.gtd_recur.proofs.CoverLemmas.{begins-parts, test_from_lt}
use Rattle.gtd_recur.proofs.CountLemmas.{no_lt, if-false, count-all, count-no, between-after, between-before, handed-up_to}
use Rattle.gtd_recur.specs.facts.WorkLemmas.{begins_on-fits}
use Rattle.gtd_recur.proofs.HorizonLemmas.{has-right, starts_of-begins}
use Rattle.gtd_recur.proofs.GivenLemmas.{has-after, has-before, window-last, day-mono, not_lt, count-mono}

-- a start of a window is on one of its days
pub has-window : (p : StartParts) (first end b : ℤ) → first ≤ℤ end → Has (starts_of p (days_between first end)) b
    → (first ≤ℤ day_of_second b) × (day_of_second b <ℤ end)
unfolding days_between
has-window p first end b le has =
    let parts = second-parts b in
    let low = has-after (pos 86400 *ℤ first -ℤ pos 1) b (starts_of p (days_between first end))
    (starts_of-ascending p first (unsigned_abs (end -ℤ first))).1 has in
    let high = has-before (pos 86400 *ℤ end) b (starts_of p (days_between first end)) (window-last p first end le) has in
    within (day_of_second b) (second_of_day b) parts.0 parts.1 low high
  where
    within : (n : ℤ) (k : ℕ) → b ≡ pos 86400 *ℤ n +ℤ pos k → k < 86400 → (pos 86400 *ℤ first -ℤ pos 1) <ℤ b → b
        <ℤ (pos 86400 *ℤ end) → (first ≤ℤ n) × (n <ℤ end)
    within n k e lt low high = (omega (arith, signed_arith), omega (arith, signed_arith))

-- two tests that agree before a number
count-same : (f g : ℤ → Bool) (m : ℤ) (xs : List ℤ) → ((x : ℤ) → x <ℤ m → f x ≡ g x) → AllBefore m xs → count_by f xs
    ≡ count_by g xs
count-same f g m [] same h = refl
count-same f g m (x ∷ xs) same h = count-is f x xs ∙ rw (same x h.0, count-same f g m xs same h.1) (sym (count-is g x xs))

split-at : (k : ℕ) (all more : List ℤ) (b : ℤ) → AreLeft k all (b ∷ more) → take k all ++ b ∷ more ≡ all
split-at k all more b h = ap (λ (l : List ℤ). take k all ++ l) h.rest ∙ take-append-drop k all

-- the starts before one that is handed out next
handed-exact : (k : ℕ) (all more : List ℤ) (b : ℤ) → IsAscending all → AreLeft k all (b ∷ more) → count_by (λ c. int_lt c b) all
    ≡ k
handed-exact k all more b asc h =
    let split = split-at k all more b h in
    let before = ascending-before (take k all) b more (rw split asc) in
    let after = ascending-after (take k all) (b ∷ more) (rw split asc) in
    let count = h.count in
    let long = length-take-le k all (omega arith) in
    let counted = count-append (λ c. int_lt c b) (take k all) (b ∷ more) in
    let here = count-is (λ c. int_lt c b) b more in
    let one = if-false (int_lt b b) (no_lt b b (omega (arith, signed_arith))) in
    let rest = count-no (λ c. int_lt c b) b more (λ c lt. no_lt c b (omega (arith, signed_arith))) after.0 in
    let first = count-all (λ c. int_lt c b) b (take k all) (λ c lt. test_from_lt c b lt) before in
    let total = rw split at counted in
    omega (arith, total, here, one, rest, first, long)

-- the days before the open one that are not excluded
days-exact : (p : StartParts) (first day end : ℤ) → first ≤ℤ day → day ≤ℤ end
    → count_by (λ n. int_lt n day && month_and_year_fit p n) (days_between first end)
    ≡ count_by (month_and_year_fit p) (days_between first day) + 0
days-exact p first day end low high =
    let both = count-append (λ n. int_lt n day && month_and_year_fit p n) (days_between first day) (days_between day end) in
    let same = count-same (λ n. int_lt n day && month_and_year_fit p n) (month_and_year_fit p) day (days_between first day)
    (λ n lt. rw (test_from_lt n day lt) refl) (between-before first day low) in
    let none = count-no (λ n. int_lt n day && month_and_year_fit p n) (day -ℤ pos 1) (days_between day end)
    (λ n lt. and_left _ _ (no_lt n day (omega (arith, signed_arith))))
    (between-after day end (day -ℤ pos 1) (omega (arith, signed_arith))) in
    rw (days_between-append first day end low high) (omega (arith, both, same, none))

-- the days looked at are those, and the open one
looked-exact : (p : StartParts) (first day next : ℤ) (looked : ℕ) → first ≤ℤ day → day <ℤ next
    → month_and_year_fit p day ≡ true → IsLookedCount p first first day next looked
    → looked ≡ count_by (month_and_year_fit p) (days_between first day) + 1
looked-exact p first day next looked low lt fit h =
    let both = count-append (month_and_year_fit p) (days_between first day) (day ∷ days_between (day +ℤ pos 1) next) in
    let one : count_by (month_and_year_fit p) (day ∷ days_between (day +ℤ pos 1) next) ≡ 1 =
    count-is (month_and_year_fit p) day (days_between (day +ℤ pos 1) next)
    ∙ rw (fit, h.jumped (omega (arith, signed_arith, low))) refl in
    let all = rw (days_between-append first day next low (omega (arith, signed_arith, lt)), days_between-next day next lt)
    at h.all in
    omega (arith, both, one, all)

-- a start that is handed out counts for itself, its day for itself, and all before them were counted
pub exact : (p : StartParts) (first day next end b : ℤ) (looked k : ℕ) (more : List ℤ) → day_of_second b ≡ day
    → IsInWindow first day next end → IsLookedCount p first first day next looked
    → AreLeft k (starts_of p (days_between first end)) (b ∷ more) → looked + (k + 1) ≡ least_work p (days_between first end) b + 2
unfolding least_work
exact p first day next end b looked k more on w counted h =
    let order : first ≤ℤ end = omega (arith, signed_arith, w.day_in, w.next_in, w.end_in) in
    let has : Has (starts_of p (days_between first end)) b =
    rw (split-at k _ more b h) at (has-right (take k (starts_of p (days_between first end))) (b ∷ more) b (inl refl)) in
    let inside = rw on at (has-window p first end b order has) in
    let fit = begins_on-fits p day (rw on at (begins-parts p b (starts_of-begins p (days_between first end) b has)).0) in
    let days = days-exact p first day end inside.0 (omega (arith, signed_arith, inside.1)) in
    let looks = looked-exact p first day next looked inside.0 w.next_in fit counted in
    let starts = handed-exact k (starts_of p (days_between first end)) more b (window-ascending p first end) h in
    rw on (omega (arith, days, looks, starts))

-- at the end all days that are not excluded were looked at, and all starts were handed out
pub exact-end : (p : StartParts) (first seen day next end : ℤ) (looked k : ℕ) → next ≡ end
    → IsLookedCount p first seen day next looked → AreLeft k (starts_of p (days_between first end)) []
    → looked + k ≡ count_by (month_and_year_fit p) (days_between first end) + length (starts_of p (days_between first end))
exact-end p first seen day next end looked k last counted h =
    let count = h.count in
    let days = rw last at counted.all in
    omega (arith, days, count)

-- of days of which none passes a test, fewer do neither
count-rest : (f : ℤ → Bool) (a b c : ℤ) → a ≤ℤ b → b ≤ℤ c → count_by f (days_between a c) ≡ 0 → count_by f (days_between b c) ≡ 0
count-rest f a b c low high none =
    let both = count-append f (days_between a b) (days_between b c) in
    let all = rw (days_between-append a b c low high) at none in
    omega (arith, both, all)

-- the days that were looked at are up to a second's day, where that is not before those that were looked at first
looked-up_to : (p : StartParts) (first seen day next end m : ℤ) (looked : ℕ) → IsInWindow first day next end
    → IsLookedCount p first seen day next looked → day ≤ℤ m → seen ≤ℤ (m +ℤ pos 1)
    → looked ≤ count_by (λ n. not (int_lt m n)) (days_between first end)
looked-up_to p first seen day next end m looked w h le last =
    let low : first ≤ℤ next = omega (arith, signed_arith, h.low, h.high) in
    let all = count-append (λ n. not (int_lt m n)) (days_between first next) (days_between next end) in
    let here : looked ≤ count_by (λ n. not (int_lt m n)) (days_between first next) = by_lt_z (m +ℤ pos 1) next
    (λ lt. beyond (omega (arith, signed_arith, lt))) (λ ge. within next low ge (let a = h.all in omega (arith, a))) in
    rw (days_between-append first next end low w.end_in) (omega (arith, all, here))
  where
    -- all days before c are up to the second's
    within : (c : ℤ) → first ≤ℤ c → c ≤ℤ (m +ℤ pos 1) → looked ≤ count_by (month_and_year_fit p) (days_between first c)
        → looked ≤ count_by (λ n. not (int_lt m n)) (days_between first c)
    within c from ge most =
        let long = count_by-le-length (month_and_year_fit p) (days_between first c) in
        let pass = count-all (λ n. not (int_lt m n)) c (days_between first c)
        (λ n lt. ap not (no_lt m n (omega (arith, signed_arith, lt, ge)))) (between-before first c from) in
        omega (arith, long, pass, most)

    beyond : (m +ℤ pos 1) ≤ℤ next → looked ≤ count_by (λ n. not (int_lt m n)) (days_between first next)
    beyond lt =
        let from : first ≤ℤ (m +ℤ pos 1) = omega (arith, signed_arith, h.low, last) in
        let none : count_by (month_and_year_fit p) (days_between (m +ℤ pos 1) next) ≡ 0 = by_lt_z (day +ℤ pos 1) seen
        (λ less. count-rest (month_and_year_fit p) seen (m +ℤ pos 1) next last lt
        (h.unopened (omega (arith, signed_arith, less))))
        (λ more. count-rest (month_and_year_fit p) (day +ℤ pos 1) (m +ℤ pos 1) next (omega (arith, signed_arith, le)) lt
        (h.jumped more)) in
        let both = count-append (month_and_year_fit p) (days_between first (m +ℤ pos 1)) (days_between (m +ℤ pos 1) next) in
        let all = rw (days_between-append first (m +ℤ pos 1) next from lt) at h.all in
        let some = within (m +ℤ pos 1) from (omega (arith, signed_arith)) (omega (arith, both, all, none)) in
        let more = count-append (λ n. not (int_lt m n)) (days_between first (m +ℤ pos 1)) (days_between (m +ℤ pos 1) next) in
        rw (days_between-append first (m +ℤ pos 1) next from lt) (omega (arith, more, some))

-- no more was counted than there is up to the start that is handed out, or up to a later second
pub at_most : (p : StartParts) (first seen day next end b t : ℤ) (looked k : ℕ) (more : List ℤ) → day_of_second b ≡ day
    → IsInWindow first day next end → IsLookedCount p first seen day next looked
    → AreLeft k (starts_of p (days_between first end)) (b ∷ more) → b ≤ℤ t → seen ≤ℤ (day_of_second t +ℤ pos 1)
    → looked + (k + 1) ≤ work p (days_between first end) t
unfolding work
at_most p first seen day next end b t looked k more on w counted h le last =
    let days = looked-up_to p first seen day next end (day_of_second t) looked w counted (rw on at (day-mono b t le)) last in
    let starts = handed-up_to k (starts_of p (days_between first end)) more b (window-ascending p first end) h in
    let later = count-mono (λ c. not (int_lt b c)) (λ c. not (int_lt t c)) (starts_of p (days_between first end))
    (λ c up. ap not (no_lt t c (let q = not_lt b c up in omega (arith, signed_arith, q, le)))) in
    omega (arith, days, starts, later)
