-- The starts of the window hold what the basic domain holds in the horizon.
use Rattle.std.proofs.Common.{◌≡◌, ◌⊎◌, ℕ, zero, suc, ◌+◌, ◌<◌, ◌≤◌, Bool, true, List, [], ◌∷◌, ◌++◌, map, filter, refl, sym}
use Rattle.std.proofs.Common.{ap, inl, inr, arith, ℤ, pos, ◌+ℤ◌, ◌*ℤ◌, ◌<ℤ◌, ◌≤ℤ◌}
use Rattle.std.proofs.lemmas.Bool.{cases_Bool, cases_lt}
use Rattle.gtd_calendar.specs.facts.Signed.{signed_arith}
use Rattle.gtd_calendar.specs.facts.ClockLemmas.{second-parts}
use Rattle.gtd_core.specs.declared.start.StartParts.{StartParts}
use Rattle.gtd_core.specs.declared.duration.DurationParts.{DurationParts}
use Rattle.gtd_calendar.specs.ComputedFields.{day_fields}
use Rattle.gtd_core.specs.Seconds.{day_of_second}
use Rattle.gtd_calendar.specs.Clock.{second_of_day}
use Rattle.gtd_calendar.specs.ComputedEnds.{stop}
use Rattle.gtd_recur.specs.Begins.{begins, begins_on, begins_at}
use Rattle.gtd_recur.specs.Work.{days_between, numbers_from, starts_on, starts_of}
use Rattle.gtd_recur.specs.Starts.{clock_starts, TakesSecond}
use Rattle.std.specs.Prelude.{Option, Some, None, IfSome}
use Rattle.gtd_core.specs.declared.second.Sec.{Sec}
use Rattle.gtd_calendar.specs.Calendar.{IsCalendarDay}
use Rattle.gtd_recur.specs.Ascending.{Has}
use Rattle.gtd_recur.specs.Stretches.{HeldBy, starts_ahead, IsAheadIn}
use Rattle.gtd_recur.proofs.CoverLemmas.{begins-parts, begins-from}
use Rattle.gtd_recur.specs.facts.StartsLemmas.{starts_on-yes, starts_on-no, starts_of-cons, starts_of-nil}
use Rattle.gtd_recur.specs.facts.StartsLemmas.{days_between-append, days_between-next}

pub has-left : (xs ys : List ℤ) (b : ℤ) → Has xs b → Has (xs ++ ys) b
has-left [] ys b h = absurd h
has-left (x ∷ xs) ys b h = elim h [ inl e ↦ inl e | inr r ↦ inr (has-left xs ys b r) ]

pub has-right : (xs ys : List ℤ) (b : ℤ) → Has ys b → Has (xs ++ ys) b
has-right [] ys b h = h
has-right (x ∷ xs) ys b h = inr (has-right xs ys b h)

pub has-either : (xs ys : List ℤ) (b : ℤ) → Has (xs ++ ys) b → Has xs b ⊎ Has ys b
has-either [] ys b h = inr h
has-either (x ∷ xs) ys b h = elim h [
  | inl e ↦ inl (inl e)
  | inr r ↦
      elim (has-either xs ys b r) [ inl p ↦ inl (inr p) | inr q ↦ inr q ]
]

-- a second is held by the stretch of one of the starts
pub held-from : (p : DurationParts) (bs : List ℤ) (b t : ℤ) → Has bs b → b ≤ℤ t → t <ℤ stop p b → HeldBy p bs t
held-from p [] b t h le lt = absurd h
held-from p (x ∷ xs) b t h le lt = elim h [ inl e ↦ inl (rw (← e) le, rw (← e) lt) | inr r ↦ inr (held-from p xs b t r le lt) ]

pub held-to : (p : DurationParts) (bs : List ℤ) (t : ℤ) → HeldBy p bs t → (b : ℤ) × Has bs b × (b ≤ℤ t) × (t <ℤ stop p b)
held-to p [] t h = absurd h
held-to p (x ∷ xs) t h = elim h [ inl w ↦ (x, inl refl, w.0, w.1) | inr r ↦ let k = held-to p xs t r in (k.0, inr k.1, k.2, k.3) ]

has-passing : (d : ℤ) (test : ℕ → Bool) (n c k : ℕ) → n ≤ k → k < n + c → test k ≡ true
    → Has (map (λ j. d +ℤ pos j) (filter test (numbers_from n c))) (d +ℤ pos k)
unfolding numbers_from
has-passing d test n zero k low high on = absurd (omega arith)
has-passing d test n (suc c) k low high on = elim (cases_lt n k) [
  | inl lt ↦ let rest = has-passing d test (n + 1) c k (omega arith) (omega arith) on in
      elim (cases_Bool (test n)) [ inl here ↦ rw here (inr rest) | inr off ↦ rw off rest ]
  | inr ge ↦ let same : k ≡ n = omega arith in let here : test n ≡ true = rw same at on in
      rw here (inl (ap (λ (j : ℕ). d +ℤ pos j) same))
]

passing-has : (d b : ℤ) (test : ℕ → Bool) (n c : ℕ) → Has (map (λ j. d +ℤ pos j) (filter test (numbers_from n c))) b → (k : ℕ)
    × (k < n + c) × (test k ≡ true) × (b ≡ d +ℤ pos k)
unfolding numbers_from
passing-has d b test n zero h = absurd h
passing-has d b test n (suc c) h = elim (cases_Bool (test n)) [
  | inl here ↦ elim (rw here at h) [
    | inl e ↦ (n, omega arith, here, e)
    | inr r ↦ let k = passing-has d b test (n + 1) c r in
        (k.0, omega (arith, k.1), k.2, k.3)
  ]
  | inr off ↦ let k = passing-has d b test (n + 1) c (rw off at h) in (k.0, omega (arith, k.1), k.2, k.3)
]

-- a start of a day is one at which the start begins
pub starts_on-begins : (p : StartParts) (n b : ℤ) → Has (starts_on p n) b → begins p b ≡ true
unfolding clock_starts
starts_on-begins p n b h = elim (cases_Bool (begins_on p (day_fields n))) [
  | inl on ↦ let k = passing-has (pos 86400 *ℤ n) b (begins_at p) 0 86400 (rw (starts_on-yes p n on) at h) in
      rw (k.3) (begins-from p n k.0 (omega (arith, k.1)) on k.2)
  | inr off ↦ absurd (rw (starts_on-no p n off) at h)
]

pub starts_of-begins : (p : StartParts) (days : List ℤ) (b : ℤ) → Has (starts_of p days) b → begins p b ≡ true
starts_of-begins p [] b h = absurd (rw (starts_of-nil p) at h)
starts_of-begins p (n ∷ ns) b h = elim (has-either (starts_on p n) (starts_of p ns) b (rw (starts_of-cons p n ns) at h)) [
  | inl on ↦ starts_on-begins p n b on
  | inr rest ↦ starts_of-begins p ns b rest
]

-- each second of a day at which the start begins is a start of the day
pub begins-starts_on : (p : StartParts) (b : ℤ) → begins p b ≡ true → Has (starts_on p (day_of_second b)) b
unfolding clock_starts
begins-starts_on p b h =
    let fit = begins-parts p b h in
    let parts = second-parts b in
    let has = has-passing (pos 86400 *ℤ day_of_second b) (begins_at p) 0 86400 (second_of_day b) (omega arith)
    (omega (arith, parts.1)) fit.1 in
    rw (starts_on-yes p (day_of_second b) fit.0) (rw (← parts.0) at has)

has-starts_of : (p : StartParts) (days : List ℤ) (n b : ℤ) → Has days n → Has (starts_on p n) b → Has (starts_of p days) b
has-starts_of p [] n b h on = absurd h
has-starts_of p (m ∷ ms) n b h on = rw (starts_of-cons p m ms) (elim h [
  | inl e ↦ has-left (starts_on p m) (starts_of p ms) b (rw e at on)
  | inr r ↦ has-right (starts_on p m) (starts_of p ms) b (has-starts_of p ms n b r on)
])

has-day : (a b n : ℤ) → a ≤ℤ n → n <ℤ b → Has (days_between a b) n
has-day a b n low high = rw (days_between-append a n b low (omega (arith, signed_arith)), days_between-next n b high)
    (has-right (days_between a n) (n ∷ days_between (n +ℤ pos 1) b) n (inl refl))

-- the starts of a window are those that begin on its days
pub begins-window : (p : StartParts) (first end b : ℤ) → begins p b ≡ true → first ≤ℤ day_of_second b → day_of_second b <ℤ end
    → Has (starts_of p (days_between first end)) b
begins-window p first end b h low high = has-starts_of p (days_between first end) (day_of_second b) b
    (has-day first end (day_of_second b) low high) (begins-starts_on p b h)

-- the start that is taken ahead and those that are left are all
pub starts_ahead-is : (all left : List ℤ) (o : Option Sec) → TakesSecond all o left → starts_ahead o left ≡ all
starts_ahead-is all left None h = sym h.0
starts_ahead-is all left (Some b) h = sym h

pub ahead-in : (o : Option Sec) → IfSome o (λ b. IsCalendarDay (day_of_second b.0)) → IsAheadIn o
ahead-in None h = tt
ahead-in (Some b) h = h
