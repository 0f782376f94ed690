-- A walk that begins on a day that was found by looking backwards.
use Rattle.std.proofs.Common.{◌≡◌, ℕ, zero, suc, ◌+◌, ◌<◌, ◌≤◌, false, [], ◌∷◌, ◌++◌, List, refl, sym, ap, ◌∙◌}
use Rattle.std.proofs.Common.{inl, inr, arith, ℤ, pos, ◌+ℤ◌, ◌-ℤ◌, ◌<ℤ◌, ◌≤ℤ◌, unsigned_abs, length}
use Rattle.std.specs.Prelude.{count_by, IsTrue, Option, Some, None, IfSome, IfNone}
use Rattle.gtd_core.specs.declared.second.Sec.{Sec}
use Rattle.std.proofs.lemmas.Bool.{false_from_ne_true}
use Rattle.std.proofs.lemmas.Int.{by_lt_z, ints}
use Rattle.std.proofs.lemmas.List.Sums.{count_by-le-length}
use Rattle.gtd_calendar.specs.facts.Signed.{signed_arith}
use Rattle.gtd_calendar.specs.ComputedFields.{day_fields}
use Rattle.gtd_core.specs.declared.start.StartParts.{StartParts}
use Rattle.gtd_core.specs.Limits.{horizons_end, first_window_day}
use Rattle.gtd_recur.specs.Begins.{begins_on, month_and_year_fit}
use Rattle.gtd_recur.specs.Jumps.{IsLastRun}
use Rattle.gtd_recur.specs.Look.{IsLookBack}
use Rattle.gtd_recur.specs.Work.{days_from, days_between, starts_on, starts_of}
use Rattle.gtd_recur.specs.Starts.{starts_left, AreLeft, IsInWindow, IsLookedCount, clock_starts}
use Rattle.gtd_recur.specs.facts.StartsLemmas.{starts_of-cons, starts_of-nil, starts_of-past, starts_on-no, starts_on-yes}
use Rattle.gtd_recur.specs.facts.StartsLemmas.{days_between-append, days_between-next, days_between-is, later_by}
use Rattle.gtd_recur.specs.facts.StartsLemmas.{count-between, count-append, length-between, clock_starts-nil}
use Rattle.gtd_recur.specs.facts.WorkLemmas.{begins_on-fits}
use Rattle.gtd_recur.proofs.GivenLemmas.{starts_of-append}

-- what holds of each of some days holds of the first and of those after it
pub each-next : (has : ℤ → Type 0) (a : ℤ) (k : ℕ) → ((i : ℕ) → i < suc k → has (a +ℤ pos i))
    → has a × ((i : ℕ) → i < k → has (a +ℤ pos 1 +ℤ pos i))
each-next has a k all =
    let here : a +ℤ pos 0 ≡ a = omega (arith, signed_arith) in (
      rw here at (all 0 (omega arith)),
      λ i lt. let next : a +ℤ pos 1 +ℤ pos i ≡ a +ℤ pos (i + 1) = omega (arith, signed_arith) in
          rw next (all (i + 1) (omega arith)),
    )

-- what holds of each day between two holds of so many from the first on
pub each-between : (has : ℤ → Type 0) (a b : ℤ) (k : ℕ) → b ≡ a +ℤ pos k → ((n : ℤ) → a ≤ℤ n → n <ℤ b → has n)
    → (i : ℕ) → i < k → has (a +ℤ pos i)
each-between has a b k e all i lt = all (a +ℤ pos i) (omega (arith, signed_arith)) (omega (arith, signed_arith, e, lt))

-- days on which the start does not begin have no starts
starts_of-none : (p : StartParts) (n : ℤ) (k : ℕ) → ((i : ℕ) → i < k → begins_on p (day_fields (n +ℤ pos i)) ≡ false)
    → starts_of p (days_from n k) ≡ []
unfolding days_from
starts_of-none p n zero none = starts_of-nil p
starts_of-none p n (suc k) none =
    let each = each-next (λ m. begins_on p (day_fields m) ≡ false) n k none in
    let rest = starts_of-none p (n +ℤ pos 1) k each.1 in
    starts_of-cons p n (days_from (n +ℤ pos 1) k) ∙ rw (starts_on-no p n each.0, rest) refl

pub no-starts : (p : StartParts) (a b : ℤ) → a ≤ℤ b → ((n : ℤ) → a ≤ℤ n → n <ℤ b → begins_on p (day_fields n) ≡ false)
    → starts_of p (days_between a b) ≡ []
no-starts p a b le none =
    let e = later_by a b le in
    rw (days_between-is a b _ e) (starts_of-none p a _ (each-between (λ m. begins_on p (day_fields m) ≡ false) a b _ e none))

-- the starts from the day found on are those of that day and of the days that are still to be looked at
pub found-left : (p : StartParts) (low seen first day next end : ℤ) (clock looked : ℕ)
    → IsLookBack p low seen first day clock looked
    → seen ≤ℤ next → next ≤ℤ end → ((i : ℤ) → seen ≤ℤ i → i <ℤ next → month_and_year_fit p i ≡ false)
    → starts_left p day clock next end ≡ starts_of p (days_between first end)
unfolding starts_left
found-left p low seen first day next end clock looked h le high none =
    let within = h.at.within in
    let last : seen ≤ℤ end = omega (arith, signed_arith, le, high) in
    let rest = starts_of-past p seen next end le high none in
    let split = starts_of-append p (days_between first seen) (days_between seen end) in
    let clocks : clock_starts p day clock ≡ starts_of p (days_between first seen) = elim (h.opened) [
      | inl on ↦
          let begun = on.0 in
          let after = no-starts p (first +ℤ pos 1) seen (omega (arith, signed_arith, begun))
          (λ n ge lt. h.at.none n (omega (arith, signed_arith, ge)) lt) in
          rw (on.2, on.3, days_between-next first seen begun) (sym (starts_on-yes p first on.1)
          ∙ sym (starts_of-cons p first (days_between (first +ℤ pos 1) seen) ∙ rw after (nothing (starts_on p first))))
      | inr off ↦ rw (off.1) (clock_starts-nil p day ∙ sym (no-starts p first seen within off.2))
    ] in
    rw (days_between-append first seen end within last, clocks) (sym (split ∙ rw rest refl))
  where
    nothing : (xs : List ℤ) → xs ++ [] ≡ xs
    nothing [] = refl
    nothing (x ∷ xs) = ap (λ l. x ∷ l) (nothing xs)

pub found-are : (p : StartParts) (low seen first day next end : ℤ) (clock looked : ℕ)
    → IsLookBack p low seen first day clock looked
    → seen ≤ℤ next → next ≤ℤ end → ((i : ℤ) → seen ≤ℤ i → i <ℤ next → month_and_year_fit p i ≡ false)
    → AreLeft 0 (starts_of p (days_between first end)) (starts_left p day clock next end)
found-are p low seen first day next end clock looked h le high none =
    let is = found-left p low seen first day next end clock looked h le high none in
    record { count = rw is (omega arith); rest = is }

-- what was counted when the walk begins
pub found-count : (p : StartParts) (first seen day next : ℤ) (looked : ℕ) → first ≤ℤ seen → seen ≤ℤ next
    → (day +ℤ pos 1) ≤ℤ seen → count_by (month_and_year_fit p) (days_between first seen) ≡ looked
    → ((i : ℤ) → seen ≤ℤ i → i <ℤ next → month_and_year_fit p i ≡ false)
    → IsLookedCount p first seen day next looked
found-count p first seen day next looked low high before count skipped =
    let none = count-between (month_and_year_fit p) seen next high skipped in
    record {
      low = low;
      high = high;
      all = rw (days_between-append first seen next low high)
          (count-append (month_and_year_fit p) (days_between first seen) (days_between seen next)
          ∙ rw (count, none) (omega arith));
      jumped = λ le. let same : day +ℤ pos 1 ≡ seen = omega (arith, signed_arith, le, before) in rw same none;
      unopened = λ le. none;
    }

pub found-open : (p : StartParts) (low seen first day : ℤ) (clock looked : ℕ)
    → IsLookBack p low seen first day clock looked
    → ((day +ℤ pos 1) ≤ℤ seen) × (first ≤ℤ (day +ℤ pos 1)) × (day ≤ℤ first) × (clock ≤ 86400)
found-open p low seen first day clock looked h = elim (h.opened) [
  | inl on ↦ (let a = on.0 in let b = on.2 in let c = on.3 in (
    omega (arith, signed_arith, a, b),
    omega (arith, signed_arith, b),
    omega (arith, signed_arith, b),
    omega (arith, c),
  ))
  | inr off ↦ (let a = h.at.within in let b = off.0 in let c = off.1 in (
    omega (arith, signed_arith, a, b),
    omega (arith, signed_arith, b),
    omega (arith, signed_arith, b),
    omega (arith, c),
  ))
]

pub found-window : (p : StartParts) (low seen first day next end : ℤ) (clock looked : ℕ)
    → IsLookBack p low seen first day clock looked → first_window_day ≤ℤ low → seen ≤ℤ next → next ≤ℤ end → end ≤ℤ horizons_end
    → IsInWindow first day next end
found-window p low seen first day next end clock looked h begin ahead within last =
    let o = found-open p low seen first day clock looked h in
    let a = o.0 in let b = h.at.begin in
    record {
      first_in = omega (arith, signed_arith, begin, b);
      day_in = o.1;
      next_in = omega (arith, signed_arith, a, ahead);
      end_in = within;
      last_in = last;
    }

-- backwards, on no day from `until` on the start begins, and those that fit were counted
pub record IsLookingBack (p : StartParts) (low n from until : ℤ) (looked : ℕ) : Type 0 where
  pub begin : low ≤ℤ from
  pub order : from ≤ℤ until
  pub within : until ≤ℤ n
  pub some : low <ℤ until → from <ℤ until
  pub run : (m : ℤ) → from ≤ℤ m → m <ℤ until → IsTrue (month_and_year_fit p m)
  pub counted : count_by (month_and_year_fit p) (days_between until n) ≡ looked
  pub none : (m : ℤ) → until ≤ℤ m → m <ℤ n → begins_on p (day_fields m) ≡ false

unfit : (p : StartParts) (m : ℤ) → ¬ (IsTrue (month_and_year_fit p m)) → begins_on p (day_fields m) ≡ false
unfit p m none = false_from_ne_true _ (λ on. none (begins_on-fits p m on))

-- the next run of days backwards, behind which none fits
pub back-run : (p : StartParts) (low n day from until : ℤ) (looked : ℕ) → day ≤ℤ n
    → IsLastRun (λ m. IsTrue (month_and_year_fit p m)) low day from until
    → count_by (month_and_year_fit p) (days_between day n) ≡ looked
    → ((m : ℤ) → day ≤ℤ m → m <ℤ n → begins_on p (day_fields m) ≡ false)
    → IsLookingBack p low n from until looked
back-run p low n day from until looked le h count none =
    let within = h.within in
    let gap = count-between (month_and_year_fit p) until day within (λ m ge lt. false_from_ne_true _ (h.skipped m ge lt)) in
    record {
      begin = h.begin;
      order = h.order;
      within = omega (arith, signed_arith, within, le);
      some = h.some;
      run = h.run;
      counted = rw (days_between-append until day n within le)
          (count-append (month_and_year_fit p) (days_between until day) (days_between day n) ∙ rw (gap, count) (omega arith));
      none = λ m ge lt. by_lt_z m day (λ less. unfit p m (h.skipped m ge less)) (λ more. none m more lt);
    }

-- the days counted are few
pub back-small : (p : StartParts) (low n from until : ℤ) (looked : ℕ) → IsLookingBack p low n from until looked
    → first_window_day ≤ℤ low → n ≤ℤ horizons_end → looked < 400_000
back-small p low n from until looked h a b =
    let long = length-between until n h.within in
    let most = count_by-le-length (month_and_year_fit p) (days_between until n) in
    few low n from until looked (length (days_between until n)) (let c = h.counted in omega (arith, c, most)) long
    h.begin h.order a b
  where
    few : (low n from until : ℤ) (looked long : ℕ) → looked ≤ long → until +ℤ pos long ≡ n → low ≤ℤ from → from ≤ℤ until
        → first_window_day ≤ℤ low → n ≤ℤ horizons_end → looked < 400_000
    few low n from until looked long a b c d e f = omega (arith, signed_arith)

pub back-less : (low until next : ℤ) → low ≤ℤ next → next <ℤ until → unsigned_abs (next -ℤ low) < unsigned_abs (until -ℤ low)
back-less low until next le lt = grind (arith, ints)

-- the start begins on none
pub back-end : (p : StartParts) (low n from until : ℤ) (looked : ℕ) → until ≡ low → IsLookingBack p low n from until looked
    → low ≤ℤ n → IsLookBack p low n low (low -ℤ pos 1) 86400 looked
back-end p low n from until looked e h le = record {
  at = record {
    begin = omega (arith, signed_arith);
    within = le;
    counted = rw e at h.counted;
    none = λ m gt lt. h.none m (omega (arith, signed_arith, e, gt)) lt;
    reason = inr refl;
  };
  opened = inr (refl, refl, λ m ge lt. h.none m (omega (arith, signed_arith, e, ge)) lt);
}

-- what holds of an option's value, where two others do
pub if-both : (o : Option Sec) (p q r : Sec → Type 0) → ((b : Sec) → p b → q b → r b) → IfSome o p → IfSome o q → IfSome o r
if-both None p q r f x y = tt
if-both (Some b) p q r f x y = f b x y

-- and where there is none
pub if-none : (o : Option Sec) (p q : Type 0) → (p → q) → IfNone o p → IfNone o q
if-none None p q f x = f x
if-none (Some b) p q f x = tt
