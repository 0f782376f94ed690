-- The end that is found for a basic domain is that of each stretch.
use Rattle.std.proofs.Common.{◌≡◌, ℕ, zero, suc, ◌+◌, ◌-◌, ◌*◌, ◌/◌, ◌%◌, ◌^◌, ◌<◌, ◌≤◌, Bool, true, false, cond, List}
use Rattle.std.proofs.Common.{◌++◌, Option}
use Rattle.std.proofs.Common.{Some, None, inl, inr, ◌⊎◌, refl, sym, ap, subst, ◌∙◌, arith, ℤ, pos, ◌+ℤ◌, ◌-ℤ◌, ◌*ℤ◌}
use Rattle.std.specs.Prelude.{◌==◌, ◌&&◌, ◌||◌, not, IfSome, is_some, nat_lt}
use Rattle.std.specs.Int.{int_rem_euclid}
use Rattle.std.proofs.lemmas.Bool.{false≢true, eqb-true, eqb-false, eq-eqb, ne_eqb, and_parts}
use Rattle.gtd_calendar.specs.facts.Signed.{signed_arith, one_part}
use Rattle.gtd_core.specs.Ranges.{IsStart, IsDuration, IsWithin, clock_seconds}
use Rattle.gtd_core.specs.Seconds.{day_of_second}
use Rattle.gtd_core.specs.declared.start.StartParts.{StartParts}
use Rattle.gtd_core.specs.declared.duration.DurationParts.{DurationParts}
use Rattle.gtd_calendar.specs.Calendar.{IsDateOf, month_length, weekday_of}
use Rattle.gtd_calendar.specs.Clock.{IsMonthsLater, IsStop, IsTimeOf}
use Rattle.gtd_calendar.specs.facts.ClockLemmas.{stop-without_months}
use Rattle.gtd_calendar.specs.facts.StopLemmas.{stop-only}
use Rattle.gtd_calendar.specs.facts.TimeLemmas.{time_of-only}
use Rattle.gtd_recur.specs.Membership.{HasNumber, Matches, gives_clock, gives_day}
use Rattle.gtd_ends.specs.declared.anchor.Anchor.{Anchor}
use Rattle.gtd_ends.specs.declared.anchor.Anchor.TheVariants.{Day, Place, PlaceBack, Weekdays, EveryDay, TheMonday, Beginning}
use Rattle.gtd_ends.specs.declared.end.End.{End}
use Rattle.gtd_ends.specs.declared.end.End.TheVariants.{Clock, Weekday, Date, WithWeekday, WithDate, WithFebruary}
use Rattle.gtd_ends.specs.Anchors.{anchor_from, anchor_of, has_clock, is_given}
use Rattle.gtd_ends.specs.Dates.{date_at, days_on, sure_length, years_until}
use Rattle.gtd_ends.specs.Endings.{at_date, before_date, before_first, date_end, date_from, day_sum, end_after, end_from}
use Rattle.gtd_ends.specs.Endings.{ending, first_second, from_date, if_first, is_all_day, is_beginning, is_empty, is_written}
use Rattle.gtd_ends.specs.Endings.{month_sum, named_from, one_weekday, or_else, weekday_after, weekday_end, weekday_from}
use Rattle.gtd_ends.specs.Endings.{with_date, without_months}
use Rattle.gtd_ends.specs.Ends.{AllEndAt, AllLastTheDay, EndsAt, IsEnd}
use Rattle.gtd_ends.proofs.Dates.{Arrives, InYear, day_before, days_arrive, month_before, months_reach, sure_short, year_before}
use Rattle.gtd_ends.proofs.Bounded.{all_below, one_below}

-- ---- where stretches begin

some_is : (a b : ℕ) → Some a ≡ Some b → a ≡ b
some_is a b e = cc

-- the second of the day at which a start begins
begin_is : (x y z : Option ℕ) (h m s second : ℕ) → first_second x y z ≡ Some second → HasNumber x (is_some y || is_some z) 0 h
    → HasNumber y (is_some z) 0 m → HasNumber z false 0 s → 3600 * h + 60 * m + s ≡ second
begin_is (Some a) (Some b) (Some c) h m s second e x y z =
    let is = some_is (3600 * a + 60 * b + c) second e in omega (arith, x, y, z, is)
begin_is (Some a) (Some b) None h m s second e x y z =
    let none = z refl in let is = some_is (3600 * a + 60 * b) second e in omega (arith, x, y, none, is)
begin_is (Some a) None None h m s second e x y z =
    let none = z refl in let less = y refl in let is = some_is (3600 * a) second e in omega (arith, x, none, less, is)
begin_is (Some a) None (Some c) h m s second e x y z = absurd cc
begin_is None (Some b) z h m s second e x p q = absurd cc
begin_is None None (Some c) h m s second e x p q = absurd cc
begin_is None None None h m s second e x y z =
    let none = z refl in let less = y refl in let first = x refl in let is = some_is 0 second e in
    omega (arith, none, less, first, is)

pub first_small : (x y z : Option ℕ) (second : ℕ) → first_second x y z ≡ Some second → IsWithin 0 23 x → IsWithin 0 59 y
    → IsWithin 0 59 z → second < 86400
first_small (Some a) (Some b) (Some c) second e x y z =
    let is = some_is (3600 * a + 60 * b + c) second e in omega (arith, x.1, y.1, z.1, is)
first_small (Some a) (Some b) None second e x y z =
    let is = some_is (3600 * a + 60 * b) second e in omega (arith, x.1, y.1, is)
first_small (Some a) None None second e x y z = let is = some_is (3600 * a) second e in omega (arith, x.1, is)
first_small (Some a) None (Some c) second e x y z = absurd cc
first_small None (Some b) z second e p q r = absurd cc
first_small None None (Some c) second e p q r = absurd cc
first_small None None None second e p q r = let is = some_is 0 second e in omega (arith, is)

-- without a clock it is the first
first_none : (x y z : Option ℕ) (second : ℕ) → first_second x y z ≡ Some second
    → (is_given x || (is_given y || is_given z)) ≡ false
    → second ≡ 0
first_none None None None second e h = sym (some_is 0 second e)
first_none (Some a) y z second e h = absurd (false≢true (sym h))
first_none None (Some b) z second e h = absurd (false≢true (sym h))
first_none None None (Some c) second e h = absurd (false≢true (sym h))

begins_at : (start : StartParts) (b : ℤ) (second : ℕ) → first_second start.hour start.minute start.second ≡ Some second
    → Matches start b → b ≡ pos 86400 *ℤ day_of_second b +ℤ pos second
begins_at start b second e (n, h, m, s, time, holds, hour, minute, last) =
    let day = (time_of-only b n h m s time).0 in
    let at = begin_is start.hour start.minute start.second h m s second e hour minute last in
    rw (← at, ← day) time.is

-- ---- weekdays

weekday_range : (n : ℤ) → (1 ≤ weekday_of n) × (weekday_of n ≤ 7)
unfolding weekday_of
weekday_range n =
    let part = one_part (int_rem_euclid (n +ℤ pos 4) (pos 7)) in (omega arith, omega (arith, signed_arith))

weekday_later : (n : ℤ) (k : ℕ) → weekday_of (n +ℤ pos k) ≡ weekday_after (weekday_of n) k
unfolding weekday_of
weekday_later n k =
    let a = one_part (int_rem_euclid (n +ℤ pos 4) (pos 7)) in
    let b = one_part (int_rem_euclid (n +ℤ pos k +ℤ pos 4) (pos 7)) in
    omega (arith, signed_arith)

bit_table : all_below 7 (λ k. all_below 7 (λ j. cond (2 ^ k / 2 ^ j % 2 == 1) (k == j) true)) ≡ true
bit_table = refl

bit_only : (k j : ℕ) → k < 7 → j < 7 → 2 ^ k / 2 ^ j % 2 ≡ 1 → k ≡ j
bit_only k j lk lj e =
    let row = one_below 7 (λ k. all_below 7 (λ j. cond (2 ^ k / 2 ^ j % 2 == 1) (k == j) true)) k bit_table lk in
    let here = one_below 7 (λ j. cond (2 ^ k / 2 ^ j % 2 == 1) (k == j) true) j row lj in
    eqb-true k j (chosen (2 ^ k / 2 ^ j % 2 == 1) (k == j) (eq-eqb (2 ^ k / 2 ^ j % 2) 1 e) here)
  where
    chosen : (t b : Bool) → t ≡ true → cond t b true ≡ true → b ≡ true
    chosen true b t h = h
    chosen false b t h = absurd (false≢true t)

one_test : (t : Bool) (w k wd : ℕ) (o : Option ℕ) → (w == 2 ^ k) ≡ t → k < 7 → 1 ≤ wd → wd ≤ 7 → w / 2 ^ (wd - 1) % 2 ≡ 1
    → IfSome o (λ x. x ≡ wd) → IfSome (cond t (Some (suc k)) o) (λ x. x ≡ wd)
one_test true w k wd o t less low high bit more =
    let is = eqb-true w (2 ^ k) t in
    let same = bit_only k (wd - 1) less (omega (arith, low, high)) (ap (λ (n : ℕ). n / 2 ^ (wd - 1) % 2) (sym is) ∙ bit) in
    one_more k wd low same
  where
    one_more : (k wd : ℕ) → 1 ≤ wd → k ≡ wd - 1 → suc k ≡ wd
    one_more k wd low e = omega (arith, low, e)
one_test false w k wd o t less low high bit more = more

one_known : (w wd : ℕ) → 1 ≤ wd → wd ≤ 7 → w / 2 ^ (wd - 1) % 2 ≡ 1 → IfSome (one_weekday w) (λ x. x ≡ wd)
one_known w wd low high bit =
    one_test (w == 1) w 0 wd _ refl (omega arith) low high bit (one_test (w == 2) w 1 wd _ refl (omega arith) low high bit
    (one_test (w == 4) w 2 wd _ refl (omega arith) low high bit (one_test (w == 8) w 3 wd _ refl (omega arith) low high bit
    (one_test (w == 16) w 4 wd _ refl (omega arith) low high bit (one_test (w == 32) w 5 wd _ refl (omega arith) low high bit
    (one_test (w == 64) w 6 wd None refl (omega arith) low high bit tt))))))

-- no field names the day
abbrev NoDay : Option ℕ → Option (ℕ × ℕ) → Option (ℕ × ℕ) → Type 0
NoDay None None None = Unit {0}
NoDay d f l = ⊥

-- what the fields say of the weekday
weekday_is : (d : Option ℕ) (f l : Option (ℕ × ℕ)) (w : ℕ) (c k : Bool) (wd : ℕ) → 1 ≤ wd → wd ≤ 7 → IfSome f (λ x. x.1 ≡ wd)
    → IfSome l (λ x. x.1 ≡ wd) → (w ≡ 0) ⊎ (w / 2 ^ (wd - 1) % 2 ≡ 1)
    → (NoDay d f l → (w == 0) ≡ true → c ≡ false → k ≡ true → wd ≡ 2)
    → IfSome (weekday_from (anchor_from d f l w c k)) (λ x. x ≡ wd)
weekday_is (Some d) f l w c k wd low high nth back days monday = tt
weekday_is None (Some f) l w c k wd low high nth back days monday = nth
weekday_is None None (Some l) w c k wd low high nth back days monday = back
weekday_is None None None w c k wd low high nth back days monday = by_days (w == 0) c k refl days (monday tt)
  where
    by_days : (t c k : Bool) → (w == 0) ≡ t → (w ≡ 0) ⊎ (w / 2 ^ (wd - 1) % 2 ≡ 1)
        → ((w == 0) ≡ true → c ≡ false → k ≡ true → wd ≡ 2)
        → IfSome (weekday_from (cond t (cond c EveryDay (cond k TheMonday Beginning)) (Weekdays w))) (λ x. x ≡ wd)
    by_days true true k t days monday = tt
    by_days true false true t days monday = sym (monday t refl refl)
    by_days true false false t days monday = tt
    by_days false c k t (inl none) monday = absurd (eqb-false w 0 t none)
    by_days false c k t (inr bit) monday = one_known w wd low high bit

given_is : {A : Type 0} (o : Option A) → is_given o ≡ is_some o
given_is None = refl
given_is (Some x) = refl

-- no field of the day, and none of the clock
no_day : (d : Option ℕ) (f l : Option (ℕ × ℕ)) (t : Bool) → NoDay d f l → t ≡ true
    → (is_some d || (is_some f || (is_some l || not t))) ≡ false
no_day None None None t none et = ap (λ (b : Bool). not b) et
no_day (Some d) f l t none et = absurd none
no_day None (Some f) l t none et = absurd none
no_day None None (Some l) t none et = absurd none

no_clock : (x y z : Option ℕ) → (is_given x || (is_given y || is_given z)) ≡ false
    → (is_some x || (is_some y || is_some z)) ≡ false
no_clock x y z h = rw (← given_is x, ← given_is y, ← given_is z) h

two_of : (t : Bool) (a b : Bool) → t ≡ true → cond t a b ≡ true → a ≡ true
two_of true a b t h = h
two_of false a b t h = absurd (false≢true t)

other_of : (t : Bool) (a b : Bool) → t ≡ false → cond t a b ≡ true → b ≡ true
other_of false a b t h = h
other_of true a b t h = absurd (false≢true (sym t))

weekday_known : (start : StartParts) (b : ℤ) → Matches start b
    → IfSome (weekday_from (anchor_of start)) (λ x. x ≡ weekday_of (day_of_second b))
unfolding anchor_of
weekday_known start b (n, h, m, s, time, holds, hour, minute, last) =
    let day = (time_of-only b n h m s time).0 in
    let range = weekday_range n in
    let here : IfSome (weekday_from (anchor_of start)) (λ x. x ≡ weekday_of n) =
    weekday_is start.day start.nth start.nth_back start.weekdays (has_clock start) (is_given start.week) (weekday_of n)
    range.0 range.1 (place_of start.nth (λ x. x.0 ≡ (holds.day - 1) / 7 + 1) (weekday_of n) holds.nth)
    (place_of start.nth_back (λ x. x.0 ≡ (month_length holds.year holds.month - holds.day) / 7 + 1) (weekday_of n) holds.nth_back)
    holds.weekdays
    (λ none w c k. eqb-true (weekday_of n) 2 (two_of (is_some start.week) (weekday_of n == 2) (holds.day == 1)
    (sym (given_is start.week) ∙ k)
    (holds.least (no_day start.day start.nth start.nth_back (start.weekdays == 0) none w)
    (no_clock start.hour start.minute start.second c)))) in
    subst (λ (z : ℤ). IfSome (weekday_from (anchor_of start)) (λ x. x ≡ weekday_of z)) day here
  where
    place_of : (o : Option (ℕ × ℕ)) (P : ℕ × ℕ → Type 0) (wd : ℕ) → IfSome o (λ x. P x × (x.1 ≡ wd)) → IfSome o (λ x. x.1 ≡ wd)
    place_of None P wd h = tt
    place_of (Some x) P wd h = h.1

-- ---- dates

abbrev FromDate : ℤ → ℕ × ℕ → Type 0
FromDate n from = (year : ℤ) × IsDateOf n year from.0 from.1

date_is : (d : Option ℕ) (f l : Option (ℕ × ℕ)) (w : ℕ) (c k : Bool) (mo : Option ℕ) (finer : Bool) (n y : ℤ) (month day : ℕ)
    → IsDateOf n y month day → HasNumber mo finer 1 month → IfSome d (λ x. x ≡ day)
    → (NoDay d f l → (w == 0) ≡ true → c ≡ false → k ≡ false → (day ≡ 1) × (finer ≡ false))
    → IfSome (date_from (anchor_from d f l w c k) mo) (FromDate n)
date_is (Some d) f l w c k (Some mo) finer n y month day h number on first =
    (y, subst (λ (x : ℕ). IsDateOf n y mo x) (sym on) (subst (λ (x : ℕ). IsDateOf n y x day) number h))
date_is (Some d) f l w c k None finer n y month day h number on first = tt
date_is None (Some f) l w c k (Some mo) finer n y month day h number on first = tt
date_is None (Some f) l w c k None finer n y month day h number on first = tt
date_is None None (Some l) w c k (Some mo) finer n y month day h number on first = tt
date_is None None (Some l) w c k None finer n y month day h number on first = tt
date_is None None None w c k mo finer n y month day h number on first = by_days (w == 0) c k mo refl number (first tt)
  where
    by_days : (t c k : Bool) (mo : Option ℕ) → (w == 0) ≡ t → HasNumber mo finer 1 month
        → ((w == 0) ≡ true → c ≡ false → k ≡ false → (day ≡ 1) × (finer ≡ false))
        → IfSome (date_from (cond t (cond c EveryDay (cond k TheMonday Beginning)) (Weekdays w)) mo) (FromDate n)
    by_days true true k None t number first = tt
    by_days true true k (Some mo) t number first = tt
    by_days true false true None t number first = tt
    by_days true false true (Some mo) t number first = tt
    by_days false c k None t number first = tt
    by_days false c k (Some mo) t number first = tt
    by_days true false false (Some mo) t number first =
        let one = first t refl refl in
        (y, subst (λ (x : ℕ). IsDateOf n y mo x) one.0 (subst (λ (x : ℕ). IsDateOf n y x day) number h))
    by_days true false false None t number first =
        let one = first t refl refl in
        (y, subst (λ (x : ℕ). IsDateOf n y 1 x) one.0 (subst (λ (x : ℕ). IsDateOf n y x day) (number one.1) h))

no_finer : (k : Bool) (d e : Bool) → k ≡ false → d ≡ false → e ≡ false → (k || (d || e)) ≡ false
no_finer k d e ek ed ee = rw (ek, ed, ee) refl

date_known : (start : StartParts) (b : ℤ) → Matches start b
    → IfSome (date_from (anchor_of start) start.month) (FromDate (day_of_second b))
unfolding anchor_of
date_known start b (n, h, m, s, time, holds, hour, minute, last) =
    let day = (time_of-only b n h m s time).0 in
    let here : IfSome (date_from (anchor_of start) start.month) (FromDate n) =
    date_is start.day start.nth start.nth_back start.weekdays (has_clock start) (is_given start.week) start.month
    (is_some start.week || (gives_day start || gives_clock start)) n holds.year holds.month holds.day holds.date holds.in_month
    holds.on_day
    (λ unnamed w c k.
    let none = no_day start.day start.nth start.nth_back (start.weekdays == 0) unnamed w in
    let clock = no_clock start.hour start.minute start.second c in
    let week = sym (given_is start.week) ∙ k in (
      eqb-true holds.day 1 (other_of (is_some start.week) (weekday_of n == 2) (holds.day == 1) week (holds.least none clock)),
      no_finer (is_some start.week) (gives_day start) (gives_clock start) week none clock,
    )) in
    subst (λ (z : ℤ). IfSome (date_from (anchor_of start) start.month) (FromDate z)) day here

-- ---- where stretches end

-- An end is in its ranges, and right.
pub record Good (start : StartParts) (duration : DurationParts) (end : End) : Type 0 where
  pub is_end : IsEnd end
  pub all : AllEndAt start duration end

-- so many days and seconds after the beginning of the day moved by months
abbrev StopsAt : StartParts → DurationParts → ℕ → ℕ → ℕ → Type 0
StopsAt start duration months days second =
    (b e : ℤ) → Matches start b → IsStop duration b e
    → (reached : ℤ) × IsMonthsLater (day_of_second b) months reached × (e ≡ pos 86400 *ℤ (reached +ℤ pos days) +ℤ pos second)

day_parts : (r : ℤ) (d k q l : ℕ) → k ≡ 86400 * q + l
    → pos 86400 *ℤ (r +ℤ pos d) +ℤ pos k ≡ pos 86400 *ℤ (r +ℤ pos (d + q)) +ℤ pos l
day_parts r d k q l e = omega (arith, signed_arith, e)

end_sum : (r : ℤ) (day_part first clock h m s hs ms ss : ℕ) → 3600 * h + 60 * m + s ≡ first → clock ≡ 3600 * hs + 60 * ms + ss
    → pos 86400 *ℤ (r +ℤ pos day_part) +ℤ pos (3600 * (h + hs) + 60 * (m + ms) + (s + ss))
    ≡ pos 86400 *ℤ (r +ℤ pos (day_part + (first + clock) / 86400)) +ℤ pos ((first + clock) % 86400)
end_sum r day_part first clock h m s hs ms ss e f =
    let sum : 3600 * (h + hs) + 60 * (m + ms) + (s + ss) ≡ first + clock = omega (arith, e, f) in
    ap (λ (k : ℕ). pos 86400 *ℤ (r +ℤ pos day_part) +ℤ pos k) sum
    ∙ day_parts r day_part (first + clock) ((first + clock) / 86400) ((first + clock) % 86400) (omega arith)

stops_at : (start : StartParts) (duration : DurationParts) (first : ℕ)
    → first_second start.hour start.minute start.second ≡ Some first
    → StopsAt start duration (month_sum duration) (day_sum duration + (first + clock_seconds duration) / 86400)
    ((first + clock_seconds duration) % 86400)
stops_at start duration first e b end matches (day, reached, h, m, s, time, months, is) =
    let at = (time_of-only b day h m s time).0 in
    let begin = begin_clock start b first e matches day h m s time in (
      reached,
      subst (λ (z : ℤ). IsMonthsLater z (month_sum duration) reached) at months,
      is ∙ end_sum reached (day_sum duration) first
          (clock_seconds duration) h m s duration.hours duration.minutes duration.seconds
          begin refl,
    )
  where
    begin_clock : (start : StartParts) (b : ℤ) (first : ℕ) → first_second start.hour start.minute start.second ≡ Some first
        → Matches start b → (day : ℤ) (h m s : ℕ) → IsTimeOf b day h m s → 3600 * h + 60 * m + s ≡ first
    begin_clock start b first e (n, x, y, z, at, holds, hour, minute, last) day h m s time =
        let one = time_of-only b n x y z at in
        let two = time_of-only b day h m s time in
        let sum = begin_is start.hour start.minute start.second x y z first e hour minute last in
        ap (λ (k : ℕ). 3600 * k + 60 * m + s) (two.1 ∙ sym one.1) ∙ ap (λ (k : ℕ). 3600 * x + 60 * k + s) (two.2 ∙ sym one.2)
        ∙ ap (λ (k : ℕ). 3600 * x + 60 * y + k) (two.3 ∙ sym one.3) ∙ sum

-- without months: so many days after the day of the start
abbrev StopsOn : StartParts → DurationParts → ℕ → ℕ → Type 0
StopsOn start duration days second =
    (b e : ℤ) → Matches start b → IsStop duration b e → e ≡ pos 86400 *ℤ (day_of_second b +ℤ pos days) +ℤ pos second

stops_on : (start : StartParts) (duration : DurationParts) (first : ℕ)
    → first_second start.hour start.minute start.second ≡ Some first → month_sum duration ≡ 0
    → StopsOn start duration (day_sum duration + (first + clock_seconds duration) / 86400)
    ((first + clock_seconds duration) % 86400)
stops_on start duration first e none b end matches is =
    on (day_of_second b) b end (day_sum duration) (clock_seconds duration) first
    ((first + clock_seconds duration) / 86400) ((first + clock_seconds duration) % 86400) (begins_at start b first e matches)
    (stop-only duration b end is ∙ stop-without_months duration b none) (omega arith)
  where
    on : (day b end : ℤ) (days clock first q l : ℕ) → b ≡ pos 86400 *ℤ day +ℤ pos first → end ≡ b +ℤ pos (86400 * days + clock)
        → first + clock ≡ 86400 * q + l → end ≡ pos 86400 *ℤ (day +ℤ pos (days + q)) +ℤ pos l
    on day b end days clock first q l begin long sum = omega (arith, signed_arith, begin, long, sum)

positive : (n : ℕ) → (n ≡ 0 → ⊥) → 1 ≤ n
positive n some = omega (arith, some)

-- ---- by the clock and by weekdays

clock_good : (start : StartParts) (duration : DurationParts) (days second : ℕ) → StopsOn start duration days second
    → days < 2 ^ 64
    → second < 86400 → Good start duration (Clock (days, second))
clock_good start duration days second stops few small = record { is_end = (few, small); all = stops }

weekday_after_range : (w k : ℕ) → (1 ≤ weekday_after w k) × (weekday_after w k ≤ 7)
weekday_after_range w k = (omega arith, omega arith)

-- the weekday of each first day
abbrev Known : StartParts → ℕ → Type 0
Known start w = (b : ℤ) → Matches start b → w ≡ weekday_of (day_of_second b)

later_is : (n : ℤ) (w k : ℕ) → w ≡ weekday_of n → weekday_of (n +ℤ pos k) ≡ weekday_after w k
later_is n w k e = weekday_later n k ∙ ap (λ (x : ℕ). weekday_after x k) (sym e)

weekday_good : (start : StartParts) (duration : DurationParts) (w days second : ℕ) → Known start w
    → StopsOn start duration days second → days < 7 → second < 86400
    → Good start duration (Weekday (weekday_after w days, second))
weekday_good start duration w days second known stops few small =
    let range = weekday_after_range w days in
    record {
      is_end = (range.0, range.1, small);
      all = λ b e matches is. (
        day_of_second b +ℤ pos days,
        (days, few, refl, later_is (day_of_second b) w days (known b matches)),
        stops b e matches is,
      );
    }

with_weekday_good : (start : StartParts) (duration : DurationParts) (w days : ℕ) → Known start w
    → StopsOn start duration days 0 → 1 ≤ days → days ≤ 7 → Good start duration (WithWeekday (weekday_after w (days - 1)))
with_weekday_good start duration w days known stops some few =
    let range = weekday_after_range w (days - 1) in
    record {
      is_end = (range.0, range.1);
      all = λ b e matches is. (
        day_of_second b +ℤ pos (days - 1),
        (days - 1, omega (arith, few), refl, later_is (day_of_second b) w (days - 1) (known b matches)),
        stops b e matches is ∙ last (day_of_second b) days some,
      );
    }
  where
    last : (n : ℤ) (days : ℕ) → 1 ≤ days → pos 86400 *ℤ (n +ℤ pos days) +ℤ pos 0
        ≡ pos 86400 *ℤ (n +ℤ pos (days - 1) +ℤ pos 1) +ℤ pos 0
    last n days some = omega (arith, signed_arith, some)

at_most : (a b : ℕ) → nat_lt a b ≡ false → b ≤ a
at_most a b e = grind (arith, e)

AllGood : StartParts → DurationParts → Option End → Type 0
AllGood start duration o = IfSome o (Good start duration)

module _ (start : StartParts) (duration : DurationParts) where
  -- whole days have no second
  abbrev Whole : Bool → ℕ → ℕ → Type 0
  Whole whole days second = whole ≡ true → (1 ≤ days) × (second ≡ 0)

  weekdays_good : (whole : Bool) (o : Option ℕ) (days second : ℕ) → IfSome o (Known start) → StopsOn start duration days second
      → second < 86400 → Whole whole days second → IfSome (weekday_end whole o days second) (Good start duration)
  weekdays_good whole None days second known stops small is_whole = tt
  weekdays_good true (Some w) days second known stops small is_whole =
      by_few (nat_lt 7 days) refl
    where
      by_few : (t : Bool) → nat_lt 7 days ≡ t
          → IfSome (cond t None (Some (WithWeekday (weekday_after w (days - 1))))) (Good start duration)
      by_few true e = tt
      by_few false e =
          let midnight = (is_whole refl).1 in
          with_weekday_good start duration w days known (subst (λ (k : ℕ). StopsOn start duration days k) midnight stops)
          (is_whole refl).0 (at_most 7 days e)
  weekdays_good false (Some w) days second known stops small is_whole = by_few (nat_lt 6 days) refl
    where
      by_few : (t : Bool) → nat_lt 6 days ≡ t
          → IfSome (cond t None (Some (Weekday (weekday_after w days, second)))) (Good start duration)
      by_few true e = tt
      by_few false e =
          let most = at_most 6 days e in
          weekday_good start duration w days second known stops (omega (arith, most)) small

  or_good : (o other : Option End) → IfSome o (Good start duration) → IfSome other (Good start duration)
      → IfSome (or_else o other) (Good start duration)
  or_good (Some end) other h k = h
  or_good None other h k = k

  -- ---- by dates

  -- each stretch begins on this date, and ends so many days and seconds after that date
  abbrev Dated : ℕ × ℕ → ℕ × ℕ × ℕ → ℕ → ℕ → Type 0
  Dated from date days second =
      (b e : ℤ) → Matches start b → IsStop duration b e
      → (year reached : ℤ) × IsDateOf (day_of_second b) year from.0 from.1 × IsDateOf reached (year +ℤ pos date.0) date.1 date.2
      × (e ≡ pos 86400 *ℤ (reached +ℤ pos days) +ℤ pos second)

  first_good : (t : Bool) (from : ℕ × ℕ) (year month day : ℕ) (end : End) → (year == years_until from month day) ≡ t
      → (year ≡ years_until from month day → Good start duration end) → IfSome (cond t (Some end) None) (Good start duration)
  first_good true from year month day end t good = good (eqb-true year (years_until from month day) t)
  first_good false from year month day end t good = tt

  at_good : (from : ℕ × ℕ) (date : ℕ × ℕ × ℕ) (second : ℕ) → InYear date → second < 86400 → Dated from date 0 second
      → date.0 ≡ years_until from date.1 date.2 → Good start duration (Date (date.1, date.2, second))
  at_good from date second range small dated first = record {
    is_end = (range.0, range.1, omega (arith, range.2), small);
    all = λ b e matches is.
        let at = dated b e matches is in (
          at.1,
          (
            at.0,
            from.0,
            from.1,
            at.2,
            subst (λ (k : ℕ). IsDateOf at.1 (at.0 +ℤ pos k) date.1 date.2) first at.3,
          ),
          at.4 ∙ none at.1 second,
        );
  }
    where
      none : (n : ℤ) (k : ℕ) → pos 86400 *ℤ (n +ℤ pos 0) +ℤ pos k ≡ pos 86400 *ℤ n +ℤ pos k
      none n k = omega (arith, signed_arith)

  -- with a date: the stretch ends a day after it
  with_good : (from : ℕ × ℕ) (date : ℕ × ℕ × ℕ) → InYear date → Dated from date 1 0
      → date.0 ≡ years_until from date.1 date.2 → Good start duration (WithDate (date.1, date.2))
  with_good from date range dated first = record {
    is_end = (range.0, range.1, omega (arith, range.2));
    all = λ b e matches is.
        let at = dated b e matches is in (
          at.1,
          (
            at.0,
            from.0,
            from.1,
            at.2,
            subst (λ (k : ℕ). IsDateOf at.1 (at.0 +ℤ pos k) date.1 date.2) first at.3,
          ),
          at.4,
        );
  }

  february_good : (from : ℕ × ℕ) (year : ℕ) → Dated from (year, 3, 1) 0 0 → year ≡ years_until from 2 29
      → Good start duration WithFebruary
  february_good from year dated first = record {
    is_end = tt;
    all = λ b e matches is.
        let at = dated b e matches is in (
          at.1,
          (at.0, from.0, from.1, at.2, subst (λ (k : ℕ). IsDateOf at.1 (at.0 +ℤ pos k) 3 1) first at.3),
          at.4 ∙ none at.1,
        );
  }
    where
      none : (n : ℤ) → pos 86400 *ℤ (n +ℤ pos 0) +ℤ pos 0 ≡ pos 86400 *ℤ n +ℤ pos 0
      none n = omega (arith, signed_arith)

  -- moved on by days
  moved_on : (from : ℕ × ℕ) (date to : ℕ × ℕ × ℕ) (days more second : ℕ) → Dated from date (days + more) second
      → Arrives date.0 date.1 date.2 days to → Dated from to more second
  moved_on from date to days more second dated arrives b e matches is =
      let at = dated b e matches is in
      (at.0, at.1 +ℤ pos days, at.2, arrives.on at.1 at.0 at.3, at.4 ∙ apart_days at.1 days more second)
    where
      apart_days : (n : ℤ) (a b k : ℕ) → pos 86400 *ℤ (n +ℤ pos (a + b)) +ℤ pos k ≡ pos 86400 *ℤ (n +ℤ pos a +ℤ pos b) +ℤ pos k
      apart_days n a b k = omega (arith, signed_arith)

  -- the day before
  moved_back : (from : ℕ × ℕ) (date to : ℕ × ℕ × ℕ) → Dated from date 0 0
      → ((n year : ℤ) → IsDateOf n (year +ℤ pos date.0) date.1 date.2 → IsDateOf (n -ℤ pos 1) (year +ℤ pos to.0) to.1 to.2)
      → Dated from to 1 0
  moved_back from date to dated back b e matches is =
      let at = dated b e matches is in
      (at.0, at.1 -ℤ pos 1, at.2, back at.1 at.0 at.3, at.4 ∙ one at.1)
    where
      one : (n : ℤ) → pos 86400 *ℤ (n +ℤ pos 0) +ℤ pos 0 ≡ pos 86400 *ℤ (n -ℤ pos 1 +ℤ pos 1) +ℤ pos 0
      one n = omega (arith, signed_arith)

  dated_at : (from : ℕ × ℕ) (date : ℕ × ℕ × ℕ) (days second : ℕ) (o : Option (ℕ × ℕ × ℕ)) → 1 ≤ date.1 → date.1 ≤ 12
      → days_on 13 date.0 date.1 date.2 days ≡ o → second < 86400 → Dated from date days second
      → IfSome (at_date from second o) (Good start duration)
  dated_at from date days second None low high e small dated = tt
  dated_at from date days second (Some to) low high e small dated =
      let arrives = days_arrive 13 date.0 date.1 date.2 days to low high e in
      let none : days ≡ days + 0 = omega arith in
      first_good (to.0 == years_until from to.1 to.2) from to.0 to.1 to.2 (Date (to.1, to.2, second)) refl
      (at_good from to second arrives.in_year small
      (moved_on from date to days 0 second (subst (λ (k : ℕ). Dated from date k second) none dated) arrives))

  dated_with : (from : ℕ × ℕ) (date : ℕ × ℕ × ℕ) (days : ℕ) (o : Option (ℕ × ℕ × ℕ)) → 1 ≤ date.1 → date.1 ≤ 12 → 1 ≤ days
      → days_on 13 date.0 date.1 date.2 (days - 1) ≡ o → Dated from date days 0
      → IfSome (with_date from o) (Good start duration)
  dated_with from date days None low high some e dated = tt
  dated_with from date days (Some to) low high some e dated =
      let arrives = days_arrive 13 date.0 date.1 date.2 (days - 1) to low high e in
      let last : days ≡ days - 1 + 1 = omega (arith, some) in
      first_good (to.0 == years_until from to.1 to.2) from to.0 to.1 to.2 (WithDate (to.1, to.2)) refl
      (with_good from to arrives.in_year
      (moved_on from date to (days - 1) 1 0 (subst (λ (k : ℕ). Dated from date k 0) last dated) arrives))

  february_or_month : (t u v : Bool) (from : ℕ × ℕ) (year month : ℕ) → (month == 3) ≡ t → (month == 1) ≡ u → (year == 0) ≡ v
      → 1 ≤ month → month ≤ 12 → Dated from (year, month, 1) 0 0
      → IfSome (cond t (if_first from year 2 29 WithFebruary)
      (cond u (cond v None (if_first from (year - 1) 12 31 (WithDate (12, 31))))
      (if_first from year (month - 1) (sure_length (month - 1)) (WithDate (month - 1, sure_length (month - 1))))))
      (Good start duration)
  february_or_month true u v from year month t0 u0 v0 low high dated =
      first_good (year == years_until from 2 29) from year 2 29 WithFebruary refl
      (february_good from year (subst (λ (m : ℕ). Dated from (year, m, 1) 0 0) (eqb-true month 3 t0) dated))
  february_or_month false true true from year month t0 u0 v0 low high dated = tt
  february_or_month false true false from year month t0 u0 v0 low high dated =
      let one = subst (λ (m : ℕ). Dated from (year, m, 1) 0 0) (eqb-true month 1 u0) dated in
      let some = eqb-false year 0 v0 in
      first_good (year - 1 == years_until from 12 31) from (year - 1) 12 31 (WithDate (12, 31)) refl
      (with_good from (year - 1, 12, 31) (omega arith, omega arith, omega arith)
      (moved_back from (year, 1, 1) (year - 1, 12, 31) one
      (λ n base h. year_before n (base +ℤ pos (year - 1))
      (subst (λ (z : ℤ). IsDateOf n z 1 1) (later base year some) h))))
    where
      later : (base : ℤ) (year : ℕ) → (year ≡ 0 → ⊥) → base +ℤ pos year ≡ base +ℤ pos (year - 1) +ℤ pos 1
      later base year some = omega (arith, signed_arith, some)
  february_or_month false false v from year month t0 u0 v0 low high dated =
      let other = eqb-false month 3 t0 in
      let second = eqb-false month 1 u0 in
      let two : 2 ≤ month = least_two month low second in
      let short = sure_short (month - 1) in
      first_good (year == years_until from (month - 1) (sure_length (month - 1))) from year (month - 1) (sure_length (month - 1))
      (WithDate (month - 1, sure_length (month - 1))) refl
      (with_good from (year, month - 1, sure_length (month - 1)) (omega (arith, two), omega (arith, high), short)
      (moved_back from (year, month, 1) (year, month - 1, sure_length (month - 1)) dated
      (λ n base h. month_before n (base +ℤ pos year) month h two (ne_eqb (month - 1) 2 (not_three month two other)))))
    where
      least_two : (m : ℕ) → 1 ≤ m → (m ≡ 1 → ⊥) → 2 ≤ m
      least_two m low other = omega (arith, low, other)

      not_three : (m : ℕ) → 2 ≤ m → (m ≡ 3 → ⊥) → m - 1 ≡ 2 → ⊥
      not_three m two other e = other (omega (arith, two, e))

  before_good : (t : Bool) (from : ℕ × ℕ) (date : ℕ × ℕ × ℕ) → (date.2 == 1) ≡ t → InYear date → Dated from date 0 0
      → IfSome (cond t (before_first from date.0 date.1)
      (if_first from date.0 date.1 (date.2 - 1) (WithDate (date.1, date.2 - 1)))) (Good start duration)
  before_good true from date t range dated =
      february_or_month (date.1 == 3) (date.1 == 1) (date.0 == 0) from date.0 date.1 refl refl refl range.0 range.1
      (λ b e matches is.
      let at = dated b e matches is in
      (at.0, at.1, at.2, subst (λ (k : ℕ). IsDateOf at.1 (at.0 +ℤ pos date.0) date.1 k) (eqb-true date.2 1 t) at.3, at.4))
  before_good false from date t range dated =
      let other = eqb-false date.2 1 t in
      first_good (date.0 == years_until from date.1 (date.2 - 1)) from date.0 date.1 (date.2 - 1) (WithDate (date.1, date.2 - 1))
      refl
      (with_good from (date.0, date.1, date.2 - 1) (range.0, range.1, omega (arith, range.2))
      (moved_back from date (date.0, date.1, date.2 - 1) dated
      (λ n base h. day_before n (base +ℤ pos date.0) date.1 date.2 h (at_least date.2 h.0.1.0 other))))
    where
      at_least : (d : ℕ) → 1 ≤ d → (d ≡ 1 → ⊥) → 2 ≤ d
      at_least d low other = omega (arith, low, other)

  from_good : (whole : Bool) (from : ℕ × ℕ) (days second : ℕ) (o : Option (ℕ × ℕ × ℕ)) → second < 86400
      → (whole ≡ true → second ≡ 0) → ((date : ℕ × ℕ × ℕ) → o ≡ Some date → InYear date × Dated from date days second)
      → IfSome (from_date whole from days second o) (Good start duration)
  from_good whole from days second None small midnight dated = tt
  from_good false from days second (Some date) small midnight dated =
      let at = dated date refl in
      dated_at from date days second (days_on 13 date.0 date.1 date.2 days) at.0.0 at.0.1 refl small at.1
  from_good true from days second (Some date) small midnight dated = by_days (days == 0) refl
    where
      at_zero : Dated from date days 0
      at_zero = subst (λ (k : ℕ). Dated from date days k) (midnight refl) (dated date refl).1

      by_days : (t : Bool) → (days == 0) ≡ t
          → IfSome (cond t (before_date from date) (with_date from (days_on 13 date.0 date.1 date.2 (days - 1))))
          (Good start duration)
      by_days true t =
          before_good (date.2 == 1) from date refl (dated date refl).0
          (subst (λ (k : ℕ). Dated from date k 0) (eqb-true days 0 t) at_zero)
      by_days false t =
          let some = eqb-false days 0 t in
          let range = (dated date refl).0 in
          dated_with from date days (days_on 13 date.0 date.1 date.2 (days - 1)) range.0 range.1 (positive days some) refl at_zero

  dates_good : (whole : Bool) (o : Option (ℕ × ℕ)) (months days second : ℕ) → StopsAt start duration months days second
      → second < 86400 → (whole ≡ true → second ≡ 0) → IfSome o (λ from. (b : ℤ) → Matches start b
      → FromDate (day_of_second b) from)
      → IfSome (date_end whole o months days second) (Good start duration)
  dates_good whole None months days second stops small midnight known = tt
  dates_good whole (Some from) months days second stops small midnight known =
      from_good whole from days second (date_at (from.0 - 1 + months) from.1) small midnight
      (λ date e.
      let reaches = months_reach from.0 from.1 months date e in (
        reaches.in_year,
        λ b end matches is.
            let stop = stops b end matches is in
            let begin = known b matches in
            (begin.0, stop.0, begin.1, reaches.on (day_of_second b) stop.0 begin.0 begin.1 stop.1, stop.2),
      ))

  -- ---- the whole

  days_good : (whole : Bool) (w : Option ℕ) (d : Option (ℕ × ℕ)) (days second : ℕ) → IfSome w (Known start)
      → IfSome d (λ from. (b : ℤ) → Matches start b → FromDate (day_of_second b) from) → StopsOn start duration days second
      → StopsAt start duration 0 days second → days < 2 ^ 64 → second < 86400 → Whole whole days second
      → IfSome (without_months whole (w, d) days second) (Good start duration)
  days_good true w d days second known dated stops stops' few small whole =
      or_good (weekday_end true w days second) (date_end true d 0 days second)
      (weekdays_good true w days second known stops small whole)
      (dates_good true d 0 days second stops' small (λ t. (whole t).1) dated)
  days_good false w d days second known dated stops stops' few small whole = by_few (nat_lt days 2)
    where
      clock : Good start duration (Clock (days, second))
      clock = clock_good start duration days second stops few small

      by_few : (t : Bool) → IfSome (cond t (Some (Clock (days, second)))
          (or_else (weekday_end false w days second)
          (or_else (date_end false d 0 days second) (Some (Clock (days, second)))))) (Good start duration)
      by_few true = clock
      by_few false =
          or_good (weekday_end false w days second) _ (weekdays_good false w days second known stops small whole)
          (or_good (date_end false d 0 days second) (Some (Clock (days, second)))
          (dates_good false d 0 days second stops' small (λ t. absurd (false≢true t)) dated) clock)

known_all : (start : StartParts) (o : Option ℕ) → weekday_from (anchor_of start) ≡ o → IfSome o (Known start)
known_all start None e = tt
known_all start (Some w) e = λ b matches.
    subst (λ (o : Option ℕ). IfSome o (λ x. x ≡ weekday_of (day_of_second b))) e (weekday_known start b matches)

dated_all : (start : StartParts) (o : Option (ℕ × ℕ)) → date_from (anchor_of start) start.month ≡ o
    → IfSome o (λ from. (b : ℤ) → Matches start b → FromDate (day_of_second b) from)
dated_all start None e = tt
dated_all start (Some from) e = λ b matches.
    subst (λ (o : Option (ℕ × ℕ)). IfSome o (FromDate (day_of_second b))) e (date_known start b matches)

whole_is : (clock rem : Bool) → (not clock && rem) ≡ true → (clock ≡ false) × (rem ≡ true)
whole_is false rem h = (refl, h)
whole_is true rem h = absurd (false≢true h)

some_days : (months days clock first : ℕ) → (months + days + clock ≡ 0 → ⊥) → months ≡ 0 → first ≡ 0 → (first + clock) % 86400 ≡ 0
    → 1 ≤ days + (first + clock) / 86400
some_days months days clock first some none start rem = omega (arith, some, none, start, rem)

few_days : (weeks days clock first : ℕ) → weeks ≤ 999999 → days ≤ 999999 → clock ≤ 3700000000 → first < 86400
    → 7 * weeks + days + (first + clock) / 86400 < 2 ^ 64
few_days weeks days clock first a b c d = omega (arith, a, b, c, d)

clock_most : (h m s : ℕ) → h ≤ 999999 → m ≤ 999999 → s ≤ 999999 → 3600 * h + 60 * m + s ≤ 3700000000
clock_most h m s a b c = omega (arith, a, b, c)

from_first : (start : StartParts) (duration : DurationParts) (o : Option ℕ) → IsStart start → IsDuration duration
    → (month_sum duration + day_sum duration + clock_seconds duration ≡ 0 → ⊥)
    → first_second start.hour start.minute start.second ≡ o → IfSome (end_from start duration o) (Good start duration)
from_first start duration None p q some e = tt
from_first start duration (Some first) p q some e = by_months (month_sum duration == 0) refl
  where
    days : ℕ
    days = day_sum duration + (first + clock_seconds duration) / 86400

    second : ℕ
    second = (first + clock_seconds duration) % 86400

    whole : Bool
    whole = not (has_clock start) && (second == 0)

    at_midnight : whole ≡ true → second ≡ 0
    at_midnight h = eqb-true second 0 (whole_is (has_clock start) (second == 0) h).1

    small : second < 86400
    small = omega arith

    stops : StopsAt start duration (month_sum duration) days second
    stops = stops_at start duration first e

    by_months : (t : Bool) → (month_sum duration == 0) ≡ t
        → IfSome (cond t (without_months whole (named_from start) days second)
        (date_end whole (named_from start).1 (month_sum duration) days second)) (Good start duration)
    by_months false t =
        dates_good start duration whole (date_from (anchor_of start) start.month) (month_sum duration) days second stops small
        at_midnight (dated_all start _ refl)
    by_months true t =
        let none = eqb-true (month_sum duration) 0 t in
        let first_low = first_small start.hour start.minute start.second first e p.hour p.minute p.second in
        days_good start duration whole (weekday_from (anchor_of start)) (date_from (anchor_of start) start.month) days second
        (known_all start _ refl) (dated_all start _ refl) (stops_on start duration first e none)
        (subst (λ (k : ℕ). StopsAt start duration k days second) none stops)
        (few_days duration.weeks duration.days (clock_seconds duration) first q.0.weeks q.0.days
        (clock_most duration.hours duration.minutes duration.seconds q.0.hours q.0.minutes q.0.seconds) first_low) small
        (λ h.
        let is = whole_is (has_clock start) (second == 0) h in (
          some_days (month_sum duration) (day_sum duration) (clock_seconds duration) first some none
              (first_none start.hour start.minute start.second first e is.0) (at_midnight h),
          at_midnight h,
        ))

pub ending_good : (start : StartParts) (duration : DurationParts) → IsStart start → IsDuration duration
    → IfSome (ending start duration) (Good start duration)
unfolding ending
ending_good start duration p q = by_empty (is_empty duration) refl
  where
    by_empty : (t : Bool) → is_empty duration ≡ t
        → IfSome (cond t None (end_from start duration (first_second start.hour start.minute start.second))) (Good start duration)
    by_empty true t = tt
    by_empty false t =
        from_first start duration (first_second start.hour start.minute start.second) p q
        (eqb-false (month_sum duration + day_sum duration + clock_seconds duration) 0 t) refl

-- ---- one whole day

pub all_day : (start : StartParts) (duration : DurationParts) → is_all_day start duration ≡ true → AllLastTheDay start duration
unfolding is_all_day
all_day start duration h b e matches is =
    let clock = whole_is (has_clock start) (not (is_beginning (anchor_of start)) && is_written duration (0, 0, 1, 0)) h in
    let written = (and_parts (not (is_beginning (anchor_of start))) (is_written duration (0, 0, 1, 0)) clock.1).1 in
    let years = and_parts (duration.years == 0) _ written in
    let months = and_parts (duration.months == 0) _ years.1 in
    let weeks = and_parts (duration.weeks == 0) _ months.1 in
    let days = and_parts (duration.days == 1) _ weeks.1 in
    let hours = and_parts (duration.hours == 0) _ days.1 in
    let minutes = and_parts (duration.minutes == 0) _ hours.1 in
    let first = none_given start.hour start.minute start.second clock.0 in
    let begin = begins_at start b 0 first matches in
    let stop = stop-only duration b e is ∙ stop-without_months duration b
    (no_months duration.years duration.months (eqb-true duration.years 0 years.0) (eqb-true duration.months 0 months.0)) in (
      begin,
      day_on (day_of_second b) b e duration.weeks duration.days duration.hours duration.minutes duration.seconds
          (eqb-true duration.weeks 0 weeks.0) (eqb-true duration.days 1 days.0) (eqb-true duration.hours 0 hours.0)
          (eqb-true duration.minutes 0 minutes.0) (eqb-true duration.seconds 0 minutes.1) begin stop,
    )
  where
    none_given : (x y z : Option ℕ) → (is_given x || (is_given y || is_given z)) ≡ false → first_second x y z ≡ Some 0
    none_given None None None h = refl
    none_given (Some a) y z h = absurd (false≢true (sym h))
    none_given None (Some b) z h = absurd (false≢true (sym h))
    none_given None None (Some c) h = absurd (false≢true (sym h))

    no_months : (years months : ℕ) → years ≡ 0 → months ≡ 0 → 12 * years + months ≡ 0
    no_months years months a b = omega (arith, a, b)

    day_on : (day b e : ℤ) (weeks days hours minutes seconds : ℕ) → weeks ≡ 0 → days ≡ 1 → hours ≡ 0 → minutes ≡ 0 → seconds ≡ 0
        → b ≡ pos 86400 *ℤ day +ℤ pos 0
        → e ≡ b +ℤ pos (86400 * (7 * weeks + days) + (3600 * hours + 60 * minutes + seconds))
        → e ≡ pos 86400 *ℤ (day +ℤ pos 1) +ℤ pos 0
    day_on day b e weeks days hours minutes seconds w d h m s begin long = omega (arith, signed_arith, w, d, h, m, s, begin, long)
