-- Days, the starts on them, and what is left of them.
use Rattle.std.proofs.Common.{◌≡◌, ℕ, zero, suc, ◌+◌, ◌-◌, ◌*◌, ◌<◌, ◌≤◌, Bool, true, false, Some, None, inl, inr, List, []}
use Rattle.std.proofs.Common.{◌∷◌, ◌++◌, filter, length, drop, cond, refl, sym, ap, ◌∙◌, arith, ℤ, pos, neg_ℤ, ◌+ℤ◌, ◌-ℤ◌}
use Rattle.std.proofs.Common.{◌*ℤ◌, ◌<ℤ◌, ◌≤ℤ◌, unsigned_abs, to_z, of_z, w64}
use Rattle.std.specs.Prelude.{count_by}
use Rattle.std.proofs.lemmas.List.{drop-drop, length-append, length-map}
use Rattle.std.proofs.lemmas.List.Sums.{sum_by-append, length-filter, count_by-le-length}
use Rattle.std.proofs.lemmas.Int.{ints}
use Rattle.std.proofs.lemmas.Bool.{cases_Bool}
use Rattle.gtd_core.specs.Limits.{first_horizon_day, horizons_end, first_window_day}
use Rattle.gtd_calendar.specs.facts.Signed.{signed_arith}
use Rattle.gtd_calendar.specs.ComputedFields.{day_fields}
use Rattle.gtd_calendar.specs.Calendar.{IsCalendarDay}
use Rattle.gtd_core.specs.declared.start.StartParts.{StartParts}
use Rattle.gtd_core.specs.declared.domain.Basic.{Basic}
use Rattle.gtd_core.specs.declared.horizon.Horizon.{Horizon}
use Rattle.gtd_core.specs.Ranges.{lookback_of}
use Rattle.gtd_core.specs.Parts.{duration_parts}
use Rattle.gtd_core.specs.Whole.{from_day}
use Rattle.gtd_recur.specs.Begins.{begins_on, begins_at, month_and_year_fit}
use Rattle.gtd_recur.specs.ClockSearch.{IsNextPassing}
use Rattle.gtd_recur.specs.Jumps.{IsNextRun}
use Rattle.gtd_recur.specs.Work.{window_begin, days_from, days_between, numbers_from, starts_on, starts_of}
use Rattle.gtd_recur.specs.Starts.{clock_starts, starts_left, AreLeft, IsInWindow, IsLookedCount, IsOpened}
use Rattle.gtd_recur.specs.facts.WorkLemmas.{starts_of-skip}

-- a day at or after another is some days later
pub later_by : (a b : ℤ) → a ≤ℤ b → b ≡ a +ℤ pos (unsigned_abs (b -ℤ a))
later_by a b le = grind (arith, ints)

pub apart : (a b : ℤ) (k : ℕ) → b ≡ a +ℤ pos k → unsigned_abs (b -ℤ a) ≡ k
apart a b k e = grind (arith, ints)

pub days_between-is : (a b : ℤ) (k : ℕ) → b ≡ a +ℤ pos k → days_between a b ≡ days_from a k
unfolding days_between
days_between-is a b k e = rw (apart a b k e) refl

no_days : (a : ℤ) → days_from a 0 ≡ []
unfolding days_from
no_days a = refl

pub one_day : (a : ℤ) → days_from a 1 ≡ a ∷ []
unfolding days_from
one_day a = refl

pub days_between-nil : (a : ℤ) → days_between a a ≡ []
days_between-nil a = days_between-is a a 0 (omega (arith, signed_arith)) ∙ no_days a

pub days_from-append : (a : ℤ) (j k : ℕ) → days_from a (j + k) ≡ days_from a j ++ days_from (a +ℤ pos j) k
unfolding days_from
days_from-append a zero k = let same : a +ℤ pos 0 ≡ a = omega (arith, signed_arith) in let none : 0 + k ≡ k = omega arith in
    rw (same, none) refl
days_from-append a (suc j) k =
    let more : suc j + k ≡ suc (j + k) = omega arith in
    let far : a +ℤ pos (suc j) ≡ a +ℤ pos 1 +ℤ pos j = omega (arith, signed_arith) in
    rw (more, far) (ap (λ l. a ∷ l) (days_from-append (a +ℤ pos 1) j k))

-- days up to one of them, and from it on
pub days_between-append : (a m b : ℤ) → a ≤ℤ m → m ≤ℤ b → days_between a b ≡ days_between a m ++ days_between m b
days_between-append a m b low high = appended a m b (unsigned_abs (m -ℤ a)) (unsigned_abs (b -ℤ m)) (later_by a m low)
    (later_by m b high)
  where
    appended : (a m b : ℤ) (j k : ℕ) → m ≡ a +ℤ pos j → b ≡ m +ℤ pos k → days_between a b ≡ days_between a m ++ days_between m b
    appended a m b j k p q =
        let e : b ≡ a +ℤ pos (j + k) = omega (arith, signed_arith) in
        rw (days_between-is a b (j + k) e, days_between-is a m j p, days_between-is m b k q)
        (days_from-append a j k ∙ ap (λ n. days_from a j ++ days_from n k) (sym p))

pub days_between-next : (a b : ℤ) → a <ℤ b → days_between a b ≡ a ∷ days_between (a +ℤ pos 1) b
days_between-next a b lt =
    let one = days_between-append a (a +ℤ pos 1) b (omega (arith, signed_arith)) (omega (arith, signed_arith)) in
    one ∙ rw (days_between-is a (a +ℤ pos 1) 1 refl, one_day a) refl

pub starts_of-cons : (p : StartParts) (n : ℤ) (ns : List ℤ) → starts_of p (n ∷ ns) ≡ starts_on p n ++ starts_of p ns
unfolding starts_of
starts_of-cons p n ns = refl

pub starts_of-nil : (p : StartParts) → starts_of p [] ≡ []
unfolding starts_of
starts_of-nil p = refl

-- the days between one and a later one that fit are none: only the starts of the first count
pub starts_of-jump : (p : StartParts) (a r e : ℤ) → a <ℤ r → r ≤ℤ e → ((n : ℤ) → a <ℤ n → n <ℤ r → month_and_year_fit p n ≡ false)
    → starts_of p (days_between a e) ≡ starts_on p a ++ starts_of p (days_between r e)
starts_of-jump p a r e lt le none =
    let j = unsigned_abs (r -ℤ (a +ℤ pos 1)) in
    let k = unsigned_abs (e -ℤ r) in
    let up = later_by (a +ℤ pos 1) r (omega (arith, signed_arith)) in
    let on = later_by r e le in
    let skip = starts_of-skip p (a +ℤ pos 1) j k (λ i low. none (a +ℤ pos 1 +ℤ pos i) (omega (arith, signed_arith))
    (inside a r i j up low)) in
    rw (days_between-next a e (omega (arith, signed_arith))) (starts_of-cons p a (days_between (a +ℤ pos 1) e)
    ∙ ap (λ l. starts_on p a ++ l) (rw (days_between-is (a +ℤ pos 1) e (j + k) (sum a r e j k up on), days_between-is r e k on)
    (skip ∙ rw (← up) refl)))
  where
    inside : (a r : ℤ) (i j : ℕ) → r ≡ a +ℤ pos 1 +ℤ pos j → i < j → (a +ℤ pos 1 +ℤ pos i) <ℤ r
    inside a r i j e lt = omega (arith, signed_arith)

    sum : (a r e : ℤ) (j k : ℕ) → r ≡ a +ℤ pos 1 +ℤ pos j → e ≡ r +ℤ pos k → e ≡ a +ℤ pos 1 +ℤ pos (j + k)
    sum a r e j k p q = omega (arith, signed_arith)

-- the numbers from one on that pass a test, where the first that does is known
passing-some : (test : ℕ → Bool) (from d c : ℕ) → ((j : ℕ) → from ≤ j → j < from + d → test j ≡ false) → test (from + d) ≡ true
    → filter test (numbers_from from (d + suc c)) ≡ (from + d) ∷ filter test (numbers_from (from + d + 1) c)
unfolding numbers_from
passing-some test from zero c none on =
    let same : from + 0 ≡ from = omega arith in
    let less : 0 + suc c ≡ suc c = omega arith in
    let here : test from ≡ true = rw same at on in
    rw (same, less, here) refl
passing-some test from (suc d) c none on =
    let here : test from ≡ false = none from (omega arith) (omega arith) in
    let less : suc d + suc c ≡ suc (d + suc c) = omega arith in
    let next : from + suc d ≡ from + 1 + d = omega arith in
    rw (next, less, here) (passing-some test (from + 1) d c (λ j low high. none j (omega arith) (omega arith)) (rw next at on))

passing-none : (test : ℕ → Bool) (from c : ℕ) → ((j : ℕ) → from ≤ j → j < from + c → test j ≡ false)
    → filter test (numbers_from from c) ≡ []
unfolding numbers_from
passing-none test from zero none = refl
passing-none test from (suc c) none =
    let here : test from ≡ false = none from (omega arith) (omega arith) in
    rw here (passing-none test (from + 1) c (λ j low high. none j (omega arith) (omega arith)))

pub clock_starts-some : (p : StartParts) (n : ℤ) (from k : ℕ) → IsNextPassing (begins_at p) from (Some k)
    → clock_starts p n from ≡ (pos 86400 *ℤ n +ℤ pos k) ∷ clock_starts p n (k + 1)
unfolding clock_starts
clock_starts-some p n from k h =
    let is : from + (k - from) ≡ k = omega (arith, h.0) in
    let all : 86400 - from ≡ (k - from) + suc (86400 - (k + 1)) = omega (arith, h.0, h.1) in
    let on : begins_at p (from + (k - from)) ≡ true = rw is h.2 in
    let some = rw is at (passing-some (begins_at p) from (k - from) (86400 - (k + 1))
    (λ j low high. h.3 j low (omega arith)) on) in
    rw (all, some) refl

pub clock_starts-none : (p : StartParts) (n : ℤ) (from : ℕ) → from ≤ 86400 → IsNextPassing (begins_at p) from None
    → clock_starts p n from ≡ []
unfolding clock_starts
clock_starts-none p n from low h = rw (passing-none (begins_at p) from (86400 - from) (λ j le lt. h j le (omega arith))) refl

pub clock_starts-nil : (p : StartParts) (n : ℤ) → clock_starts p n 86400 ≡ []
clock_starts-nil p n = clock_starts-none p n 86400 (omega arith) (λ j le lt. absurd (omega arith))

pub starts_on-yes : (p : StartParts) (n : ℤ) → begins_on p (day_fields n) ≡ true → starts_on p n ≡ clock_starts p n 0
unfolding starts_on clock_starts
starts_on-yes p n on = rw on refl

pub starts_on-no : (p : StartParts) (n : ℤ) → begins_on p (day_fields n) ≡ false → starts_on p n ≡ []
unfolding starts_on
starts_on-no p n on = rw on refl

-- one more is handed out
pub handed-one : (k : ℕ) (all left more : List ℤ) (b : ℤ) → AreLeft k all left → left ≡ b ∷ more → AreLeft (k + 1) all more
handed-one k all left more b h e =
    let count = rw e at h.count in
    record { count = omega arith; rest = sym (sym (drop-drop 1 k all) ∙ ap (λ (l : List ℤ). drop 1 l) (sym h.rest ∙ e)) }

pub count-append : (f : ℤ → Bool) (xs ys : List ℤ) → count_by f (xs ++ ys) ≡ count_by f xs + count_by f ys
count-append f xs ys = sum_by-append (λ (x : ℤ). cond (f x) 1 0) xs ys

pub count-is : (f : ℤ → Bool) (x : ℤ) (xs : List ℤ) → count_by f (x ∷ xs) ≡ cond (f x) 1 0 + count_by f xs
count-is f x xs = let none : 0 + cond (f x) 1 0 ≡ cond (f x) 1 0 = omega arith in count-append f (x ∷ []) xs ∙ rw none refl

count-none : (f : ℤ → Bool) (a : ℤ) (k : ℕ) → ((i : ℕ) → i < k → f (a +ℤ pos i) ≡ false) → count_by f (days_from a k) ≡ 0
unfolding days_from
count-none f a zero none = refl
count-none f a (suc k) none =
    let here : f a ≡ false = let same : a +ℤ pos 0 ≡ a = omega (arith, signed_arith) in rw same at (none 0 (omega arith)) in
    let rest = count-none f (a +ℤ pos 1) k (λ i lt. let next : a +ℤ pos 1 +ℤ pos i ≡ a +ℤ pos (i + 1) =
    omega (arith, signed_arith) in rw next (none (i + 1) (omega arith))) in
    count-is f a (days_from (a +ℤ pos 1) k) ∙ rw (here, rest) refl

-- days that pass no test
pub count-between : (f : ℤ → Bool) (a b : ℤ) → a ≤ℤ b → ((n : ℤ) → a ≤ℤ n → n <ℤ b → f n ≡ false) → count_by f (days_between a b)
    ≡ 0
count-between f a b le none =
    let e = later_by a b le in
    rw (days_between-is a b (unsigned_abs (b -ℤ a)) e) (count-none f a (unsigned_abs (b -ℤ a))
    (λ i lt. none (a +ℤ pos i) (omega (arith, signed_arith)) (inside a b i (unsigned_abs (b -ℤ a)) e lt)))
  where
    inside : (a b : ℤ) (i j : ℕ) → b ≡ a +ℤ pos j → i < j → (a +ℤ pos i) <ℤ b
    inside a b i j e lt = omega (arith, signed_arith)

length-numbers : (n k : ℕ) → length (numbers_from n k) ≡ k
unfolding numbers_from
length-numbers n zero = refl
length-numbers n (suc k) = ap (λ j. suc j) (length-numbers (n + 1) k)

pub length-days : (n : ℤ) (k : ℕ) → length (days_from n k) ≡ k
unfolding days_from
length-days n zero = refl
length-days n (suc k) = ap (λ j. suc j) (length-days (n +ℤ pos 1) k)

pub length-clock : (p : StartParts) (n : ℤ) (from : ℕ) → length (clock_starts p n from) ≤ 86400
unfolding clock_starts
length-clock p n from =
    let mapped = length-map (filter (begins_at p) (numbers_from from (86400 - from))) (λ k. pos 86400 *ℤ n +ℤ pos k) in
    let kept = length-filter (begins_at p) (numbers_from from (86400 - from)) in
    let most = count_by-le-length (begins_at p) (numbers_from from (86400 - from)) in
    omega (arith, mapped, kept, most, length-numbers from (86400 - from))

-- no more starts than the days have seconds
pub length-starts : (p : StartParts) (days : List ℤ) → length (starts_of p days) ≤ 86400 * length days
length-starts p [] = rw (starts_of-nil p) (omega arith)
length-starts p (n ∷ ns) =
    rw (starts_of-cons p n ns) (let both = length-append (starts_on p n) (starts_of p ns) in
    omega (arith, both, length-on p n, length-starts p ns))
  where
    length-on : (p : StartParts) (n : ℤ) → length (starts_on p n) ≤ 86400
    length-on p n = elim (cases_Bool (begins_on p (day_fields n))) [
      | inl on ↦ rw (starts_on-yes p n on) (length-clock p n 0)
      | inr off ↦ rw (starts_on-no p n off) (omega arith)
    ]

pub length-between : (a b : ℤ) → a ≤ℤ b → a +ℤ pos (length (days_between a b)) ≡ b
length-between a b le = is a b (unsigned_abs (b -ℤ a)) (later_by a b le)
  where
    is : (a b : ℤ) (k : ℕ) → b ≡ a +ℤ pos k → a +ℤ pos (length (days_between a b)) ≡ b
    is a b k e = rw (days_between-is a b k e, length-days a k) (sym e)

-- days that are jumped over have no starts
pub starts_of-past : (p : StartParts) (a r e : ℤ) → a ≤ℤ r → r ≤ℤ e → ((n : ℤ) → a ≤ℤ n → n <ℤ r → month_and_year_fit p n ≡ false)
    → starts_of p (days_between a e) ≡ starts_of p (days_between r e)
starts_of-past p a r e le high none =
    let j = unsigned_abs (r -ℤ a) in
    let k = unsigned_abs (e -ℤ r) in
    let up = later_by a r le in
    let on = later_by r e high in
    let skip = starts_of-skip p a j k (λ i low. none (a +ℤ pos i) (omega (arith, signed_arith)) (inside a r i j up low)) in
    rw (days_between-is a e (j + k) (sum a r e j k up on), days_between-is r e k on) (skip ∙ rw (← up) refl)
  where
    inside : (a r : ℤ) (i j : ℕ) → r ≡ a +ℤ pos j → i < j → (a +ℤ pos i) <ℤ r
    inside a r i j e lt = omega (arith, signed_arith)

    sum : (a r e : ℤ) (j k : ℕ) → r ≡ a +ℤ pos j → e ≡ r +ℤ pos k → e ≡ a +ℤ pos (j + k)
    sum a r e j k p q = omega (arith, signed_arith)

-- before any day is looked at, the starts of all days are left
pub begun-left : (p : StartParts) (n first next end : ℤ) → first ≤ℤ next → next ≤ℤ end
    → ((i : ℤ) → first ≤ℤ i → i <ℤ next → month_and_year_fit p i ≡ false)
    → starts_left p n 86400 next end ≡ starts_of p (days_between first end)
unfolding starts_left
begun-left p n first next end le high none = rw (clock_starts-nil p n) (sym (starts_of-past p first next end le high none))

pub begun-are : (p : StartParts) (n first next end : ℤ) → first ≤ℤ next → next ≤ℤ end
    → ((i : ℤ) → first ≤ℤ i → i <ℤ next → month_and_year_fit p i ≡ false)
    → AreLeft 0 (starts_of p (days_between first end)) (starts_left p n 86400 next end)
begun-are p n first next end le high none =
    let is = begun-left p n first next end le high none in
    record { count = rw is (omega arith); rest = is }

opened : (p : StartParts) (n : ℤ) (clock : ℕ) → IsOpened p n clock → clock_starts p n clock ≡ starts_on p n
opened p n clock h = elim h [
  | inl on ↦ rw (on.1) (sym (starts_on-yes p n on.0))
  | inr off ↦ rw (off.1) (clock_starts-nil p n ∙ sym (starts_on-no p n off.0))
]

pub opened-low : (p : StartParts) (n : ℤ) (clock : ℕ) → IsOpened p n clock → clock ≤ 86400
opened-low p n clock h = elim h [ inl on ↦ omega (arith, on.1) | inr off ↦ omega (arith, off.1) ]

-- a look at the next day leaves the same starts
pub looked-left : (p : StartParts) (day n r e : ℤ) (before clock : ℕ) → clock_starts p day before ≡ [] → IsOpened p n clock → n
    <ℤ r → r ≤ℤ e
    → ((i : ℤ) → n <ℤ i → i <ℤ r → month_and_year_fit p i ≡ false) → starts_left p n clock r e ≡ starts_left p day before n e
unfolding starts_left
looked-left p day n r e before clock done is lt le skipped =
    rw (done, opened p n clock is) (sym (starts_of-jump p n r e lt le skipped))

-- the first of the open day's starts is taken off
pub taken-left : (p : StartParts) (n next end : ℤ) (from k : ℕ) → IsNextPassing (begins_at p) from (Some k)
    → starts_left p n from next end ≡ (pos 86400 *ℤ n +ℤ pos k) ∷ starts_left p n (k + 1) next end
unfolding starts_left
taken-left p n next end from k h = rw (clock_starts-some p n from k h) refl

-- if the open day has no more, it is closed
pub closed-left : (p : StartParts) (n next end : ℤ) (from : ℕ) → from ≤ 86400 → IsNextPassing (begins_at p) from None
    → starts_left p n 86400 next end ≡ starts_left p n from next end
unfolding starts_left
closed-left p n next end from low h = rw (clock_starts-none p n from low h, clock_starts-nil p n) refl

-- after the last day none are left
pub none-left : (p : StartParts) (n end : ℤ) (from : ℕ) → clock_starts p n from ≡ [] → starts_left p n from end end ≡ []
unfolding starts_left
none-left p n end from done = rw (done, days_between-nil end) (starts_of-nil p)

-- the window begins the lookback before the horizon
pub window_begin-is : (d : Basic) (h : Horizon) → window_begin d h ≡ from_day h -ℤ pos (lookback_of (duration_parts d.duration))
unfolding window_begin
window_begin-is d h = refl

-- a number of the calendar fits a word
pub small-z : (a : ℤ) → neg_ℤ (pos 62100) ≤ℤ a → a ≤ℤ pos 303_160 → to_z w64 (of_z w64 a) ≡ a
small-z a low high = omega (arith, signed_arith)

-- no more days were looked at than there are before the next one
pub looked-most : (p : StartParts) (first seen day next : ℤ) (looked : ℕ) → IsLookedCount p first seen day next looked
    → (first +ℤ pos looked) ≤ℤ next
looked-most p first seen day next looked h =
    let long = length-between first next (omega (arith, signed_arith, h.low, h.high)) in
    let most = count_by-le-length (month_and_year_fit p) (days_between first next) in
    most_of first next looked _ _ h.all most long
  where
    most_of : (a b : ℤ) (looked count long : ℕ) → count ≡ looked → count ≤ long → a +ℤ pos long ≡ b → (a +ℤ pos looked) ≤ℤ b
    most_of a b looked count long p q r = omega (arith, signed_arith)

-- so do the counts
pub small-counts : (p : StartParts) (first seen day next end : ℤ) (looked handed : ℕ) (left : List ℤ)
    → IsInWindow first day next end → IsLookedCount p first seen day next looked
    → AreLeft handed (starts_of p (days_between first end)) left
    → (looked ≤ length (days_between first end)) × (handed + length left ≤ length (starts_of p (days_between first end)))
    × (looked < 400_000) × (handed + length left < 40_000_000_000)
small-counts p first seen day next end looked handed left window counted are =
    let long = length-between first end (omega (arith, signed_arith)) in
    let many = length-starts p (days_between first end) in
    let most = looked-most p first seen day next looked counted in
    let count = are.count in (
      fits first next end looked (length (days_between first end)) window.end_in long most,
      omega arith,
      short first next end looked window.first_in window.end_in window.last_in most,
      few first end (length (days_between first end)) (length (starts_of p (days_between first end)))
          (handed + length left) window.first_in window.last_in long many count,
    )
  where
    fits : (first next end : ℤ) (looked long : ℕ) → next ≤ℤ end → first +ℤ pos long ≡ end → (first +ℤ pos looked) ≤ℤ next
        → looked ≤ long
    fits first next end looked long a b c = omega (arith, signed_arith)

    short : (first next end : ℤ) (looked : ℕ) → first_window_day ≤ℤ first → next ≤ℤ end → end ≤ℤ horizons_end
        → (first +ℤ pos looked) ≤ℤ next → looked < 400_000
    short first next end looked a b c d = omega (arith, signed_arith)

    few : (first end : ℤ) (long all k : ℕ) → first_window_day ≤ℤ first → end ≤ℤ horizons_end → first +ℤ pos long ≡ end
        → all ≤ 86400 * long → k ≡ all → k < 40_000_000_000
    few first end long all k a b c d e = omega (arith, signed_arith)

-- a day that was looked at is followed by days that are jumped over
pub looked-count : (p : StartParts) (first seen day n r end : ℤ) (looked : ℕ) → IsInWindow first day n end → n <ℤ r
    → month_and_year_fit p n ≡ true
    → ((i : ℤ) → n <ℤ i → i <ℤ r → month_and_year_fit p i ≡ false) → IsLookedCount p first seen day n looked
    → IsLookedCount p first seen n r (looked + 1)
looked-count p first seen day n r end looked window lt on skipped h =
    let gap = count-between (month_and_year_fit p) (n +ℤ pos 1) r (omega (arith, signed_arith, lt))
    (λ i low high. skipped i (omega (arith, signed_arith, low)) high) in
    let low : first ≤ℤ n = omega (arith, signed_arith, h.low, h.high) in
    let here = rw on at (count-is (month_and_year_fit p) n (days_between (n +ℤ pos 1) r)) in
    let both = count-append (month_and_year_fit p) (days_between first n) (n ∷ days_between (n +ℤ pos 1) r) in
    let all = h.all in
    record {
      low = h.low;
      high = (let a = h.high in omega (arith, signed_arith, a, lt));
      all = rw (days_between-append first n r low (omega (arith, signed_arith, lt)), days_between-next n r lt)
          (omega (arith, both, here, all, gap));
      jumped = λ le. gap;
      unopened = λ le. absurd (let a = h.high in omega (arith, signed_arith, a, le));
    }

pub looked-window : (first day n r end : ℤ) → IsInWindow first day n end → n <ℤ r → r ≤ℤ end → IsInWindow first n r end
looked-window first day n r end window lt le = record {
  first_in = window.first_in;
  day_in = low first day n window.day_in window.next_in;
  next_in = lt;
  end_in = le;
  last_in = window.last_in;
}
  where
    low : (first day n : ℤ) → first ≤ℤ (day +ℤ pos 1) → day <ℤ n → first ≤ℤ (n +ℤ pos 1)
    low first day n le lt = omega (arith, signed_arith)

pub window-calendar : (first day next end : ℤ) → IsInWindow first day next end → next <ℤ end → IsCalendarDay next
window-calendar first day next end w lt = (
  omega (arith, signed_arith, w.first_in, w.day_in, w.next_in),
  omega (arith, signed_arith, w.last_in),
)

pub begun-window : (first from to next : ℤ) (back : ℕ) → first ≡ from -ℤ pos back → back ≤ 36600 → first_horizon_day ≤ℤ from → to
    ≤ℤ horizons_end
    → first ≤ℤ next → next ≤ℤ to → IsInWindow first (first -ℤ pos 1) next to
begun-window first from to next back e bound low high begins within = record {
  first_in = omega (arith, signed_arith);
  day_in = omega (arith, signed_arith);
  next_in = omega (arith, signed_arith);
  end_in = within;
  last_in = high;
}

pub ended-left : (p : StartParts) (day next end : ℤ) (from : ℕ) → end ≤ℤ next → next ≤ℤ end → clock_starts p day from ≡ []
    → starts_left p day from next end ≡ []
ended-left p day next end from past within done =
    let same : next ≡ end = omega (arith, signed_arith) in
    rw same (none-left p day end from done)

-- the rest of a run of days
pub run-on : (has : ℤ → Type 0) (next until end : ℤ) → until ≤ℤ end → (next +ℤ pos 1) <ℤ until
    → ((n : ℤ) → next ≤ℤ n → n <ℤ until → has n)
    → IsNextRun has (next +ℤ pos 1) end (next +ℤ pos 1) until
run-on has next until end within lt fit = record {
  low = omega (arith, signed_arith);
  order = omega (arith, signed_arith);
  within = within;
  some = λ more. lt;
  skipped = λ n ge less. absurd (omega (arith, signed_arith));
  run = λ n ge less. fit n (omega (arith, signed_arith)) less;
}

-- the days of a run are in the calendar
pub run-small : (has : ℤ → Type 0) (day end from until : ℤ) → neg_ℤ (pos 62100) ≤ℤ day → end ≤ℤ horizons_end
    → IsNextRun has day end from until
    → (to_z w64 (of_z w64 from) ≡ from) × (to_z w64 (of_z w64 until) ≡ until)
run-small has day end from until low high run =
    let a = run.low in let b = run.order in let c = run.within in (
      small-z from (omega (arith, signed_arith)) (omega (arith, signed_arith)),
      small-z until (omega (arith, signed_arith)) (omega (arith, signed_arith)),
    )
