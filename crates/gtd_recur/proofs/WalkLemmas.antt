-- A walk that passes over days on which its start does not begin.
use Rattle.std.proofs.Common.{◌≡◌, ℕ, zero, suc, ◌+◌, ◌<◌, true, false, Bool, [], ◌++◌, ◌∙◌, refl, sym, arith, ℤ, pos, ◌+ℤ◌}
use Rattle.std.proofs.Common.{◌<ℤ◌, ◌≤ℤ◌}
use Rattle.std.specs.Prelude.{count_by}
use Rattle.std.proofs.lemmas.Int.{by_lt_z}
use Rattle.gtd_calendar.specs.facts.Signed.{signed_arith}
use Rattle.gtd_calendar.specs.ComputedFields.{day_fields}
use Rattle.gtd_core.specs.declared.start.StartParts.{StartParts}
use Rattle.gtd_recur.specs.Begins.{begins_on, month_and_year_fit}
use Rattle.gtd_recur.specs.Starts.{clock_starts, starts_left, IsInWindow, IsLookedCount, IsOpened}
use Rattle.gtd_recur.specs.Work.{days_between, days_from, starts_of}
use Rattle.gtd_recur.specs.facts.StartsLemmas.{count-append, count-between, count-is, days_between-append, days_between-is}
use Rattle.gtd_recur.specs.facts.StartsLemmas.{looked-left}
use Rattle.gtd_recur.proofs.GivenLemmas.{starts_of-append}
use Rattle.gtd_recur.proofs.OpenLemmas.{each-next, each-between, no-starts}

-- days that all pass a test
count-each : (f : ℤ → Bool) (a : ℤ) (k : ℕ) → ((i : ℕ) → i < k → f (a +ℤ pos i) ≡ true) → count_by f (days_from a k) ≡ k
unfolding days_from
count-each f a zero all = refl
count-each f a (suc k) all =
    let each = each-next (λ n. f n ≡ true) a k all in
    let rest = count-each f (a +ℤ pos 1) k each.1 in
    count-is f a (days_from (a +ℤ pos 1) k) ∙ rw (each.0, rest) (omega arith)

pub count-full : (f : ℤ → Bool) (a b : ℤ) (k : ℕ) → b ≡ a +ℤ pos k → ((n : ℤ) → a ≤ℤ n → n <ℤ b → f n ≡ true)
    → count_by f (days_between a b) ≡ k
count-full f a b k e all = rw (days_between-is a b k e) (count-each f a k (each-between (λ n. f n ≡ true) a b k e all))

left-from : (p : StartParts) (day next n e : ℤ) (before : ℕ) → starts_of p (days_between next e) ≡ starts_of p (days_between n e)
    → starts_left p day before next e ≡ starts_left p day before n e
unfolding starts_left
left-from p day next n e before same = rw same refl

-- the same starts are left where a day is opened before which the start does not begin
pub opened-left : (p : StartParts) (day next n r e : ℤ) (before clock : ℕ) → clock_starts p day before ≡ [] → IsOpened p n clock
    → next ≤ℤ n → n <ℤ r → r ≤ℤ e → ((i : ℤ) → next ≤ℤ i → i <ℤ n → begins_on p (day_fields i) ≡ false)
    → ((i : ℤ) → n <ℤ i → i <ℤ r → month_and_year_fit p i ≡ false)
    → starts_left p n clock r e ≡ starts_left p day before next e
opened-left p day next n r e before clock done is low lt le none skipped =
    looked-left p day n r e before clock done is lt le skipped
    ∙ sym (passed p day next n e before low (omega (arith, signed_arith, lt, le)) none)
  where
    passed : (p : StartParts) (day next n e : ℤ) (before : ℕ) → next ≤ℤ n → n ≤ℤ e
        → ((i : ℤ) → next ≤ℤ i → i <ℤ n → begins_on p (day_fields i) ≡ false)
        → starts_left p day before next e ≡ starts_left p day before n e
    passed p day next n e before low high none = left-from p day next n e before (rw (
      days_between-append next n e low high,
      starts_of-append p (days_between next n) (days_between n e),
      no-starts p next n low none,
    ) refl)

-- what was counted where days were passed over and one was opened
pub opened-count : (p : StartParts) (first seen day next n r end : ℤ) (looked k : ℕ) → IsInWindow first day next end
    → n +ℤ pos 1 ≡ next +ℤ pos k → next ≤ℤ n → n <ℤ r
    → ((i : ℤ) → next ≤ℤ i → i ≤ℤ n → month_and_year_fit p i ≡ true)
    → ((i : ℤ) → n <ℤ i → i <ℤ r → month_and_year_fit p i ≡ false) → IsLookedCount p first seen day next looked
    → IsLookedCount p first seen n r (looked + k)
opened-count p first seen day next n r end looked k window e le lt on skipped h =
    let gap = count-between (month_and_year_fit p) (n +ℤ pos 1) r (omega (arith, signed_arith, lt))
    (λ i low high. skipped i (omega (arith, signed_arith, low)) high) in
    let low : first ≤ℤ next = omega (arith, signed_arith, h.low, h.high) in
    let here = count-full (month_and_year_fit p) next (n +ℤ pos 1) k e
    (λ i ge less. on i ge (omega (arith, signed_arith, less))) in
    let both = count-append (month_and_year_fit p) (days_between next (n +ℤ pos 1)) (days_between (n +ℤ pos 1) r) in
    let whole = count-append (month_and_year_fit p) (days_between first next)
    (days_between next (n +ℤ pos 1) ++ days_between (n +ℤ pos 1) r) in
    let all = h.all in
    record {
      low = h.low;
      high = (let a = h.high in omega (arith, signed_arith, a, lt, le));
      all = rw (
        days_between-append first next r low (omega (arith, signed_arith, lt, le)),
        days_between-append next (n +ℤ pos 1) r (omega (arith, signed_arith, le)) (omega (arith, signed_arith, lt)),
      ) (omega (arith, both, whole, here, all, gap));
      jumped = λ from. gap;
      unopened = λ from. absurd (let a = h.high in omega (arith, signed_arith, a, from, le));
    }

-- backwards, days that are not excluded are counted
pub back-many : (p : StartParts) (day until n : ℤ) (looked k : ℕ) → until ≡ day +ℤ pos k → until ≤ℤ n
    → ((m : ℤ) → day ≤ℤ m → m <ℤ until → month_and_year_fit p m ≡ true)
    → count_by (month_and_year_fit p) (days_between until n) ≡ looked
    → count_by (month_and_year_fit p) (days_between day n) ≡ looked + k
back-many p day until n looked k e le fit count =
    let both = count-append (month_and_year_fit p) (days_between day until) (days_between until n) in
    let full = count-full (month_and_year_fit p) day until k e fit in
    rw (days_between-append day until n (omega (arith, signed_arith, e)) le) (omega (arith, both, full, count))

-- on none of the days from one on and up to a later one the start begins, nor behind
pub back-rest : (p : StartParts) (from until n : ℤ)
    → ((m : ℤ) → from ≤ℤ m → m <ℤ until → begins_on p (day_fields m) ≡ false)
    → ((m : ℤ) → until ≤ℤ m → m <ℤ n → begins_on p (day_fields m) ≡ false) → (m : ℤ) → from ≤ℤ m → m <ℤ n
    → begins_on p (day_fields m) ≡ false
back-rest p from until n here behind m ge lt = by_lt_z m until (λ less. here m ge less) (λ more. behind m more lt)
