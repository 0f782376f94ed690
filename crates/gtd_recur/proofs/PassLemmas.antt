-- A run that goes on over the starts of a day that are passed over.
use Rattle.std.proofs.Common.{◌≡◌, neg_ℤ, ℕ, ◌<◌, ◌≤◌, List, [], ◌∷◌, ◌++◌, length, take, refl, sym, ap, ◌∙◌}
use Rattle.std.proofs.Common.{arith, ◌⊎◌, inl, inr, ℤ, pos, ◌+ℤ◌, ◌-ℤ◌, ◌*ℤ◌, ◌≤ℤ◌}
use Rattle.std.proofs.lemmas.List.{take_at, length-append, append_assoc}
use Rattle.std.proofs.lemmas.Int.{by_lt_z}
use Rattle.gtd_core.specs.Limits.{first_calendar_day, last_calendar_day}
use Rattle.gtd_core.specs.Parts.{duration_parts}
use Rattle.gtd_core.specs.Ranges.{bound_of}
use Rattle.gtd_core.specs.declared.duration.Duration.{Duration}
use Rattle.gtd_calendar.specs.facts.Signed.{signed_arith}
use Rattle.gtd_calendar.specs.Calendar.{IsCalendarDay}
use Rattle.gtd_calendar.specs.facts.ClockLemmas.{second-parts, stop-same_day}
use Rattle.gtd_calendar.specs.Clock.{second_of_day}
use Rattle.gtd_calendar.specs.ComputedEnds.{stop}
use Rattle.gtd_core.specs.Seconds.{day_of_second}
use Rattle.gtd_core.specs.declared.duration.DurationParts.{DurationParts}
use Rattle.gtd_recur.specs.declared.walk.Walk.{Walk}
use Rattle.gtd_recur.specs.Ascending.{AllAfter, AllBefore}
use Rattle.gtd_recur.specs.Stepping.{Stepped}
use Rattle.gtd_recur.specs.Stretches.{IsRun, IsLater}
use Rattle.gtd_recur.specs.Walking.{IsPassed, IsSameWindow, walk_all, walk_given, walk_to_come}
use Rattle.gtd_recur.proofs.GivenLemmas.{all-split, same-all}
use Rattle.gtd_recur.proofs.SmallLemmas.{word}
use Rattle.gtd_recur.proofs.StretchLemmas.{run-longer}

pub stepped-low : (step : ℕ) (b : ℤ) (xs : List ℤ) (last : ℤ) → Stepped step b xs last → b ≤ℤ last
stepped-low step b [] last h = omega (arith, signed_arith)
stepped-low step b (x ∷ xs) last h = let i = stepped-low step x xs last h.1 in let e = h.0 in omega (arith, signed_arith, i, e)

pub stepped-before : (step : ℕ) (b : ℤ) (xs : List ℤ) (last : ℤ) → Stepped step b xs last → AllBefore (last +ℤ pos 1) xs
stepped-before step b [] last h = tt
stepped-before step b (x ∷ xs) last h = (
  let i = stepped-low step x xs last h.1 in
      omega (arith, signed_arith, i),
  stepped-before step x xs last h.1,
)

-- a second between two of a day is of that day
between-day : (a b c : ℤ) → a ≤ℤ b → b ≤ℤ c → day_of_second c ≡ day_of_second a → day_of_second b ≡ day_of_second a
between-day a b c low high same =
    let p = second-parts a in
    let q = second-parts b in
    let r = rw same at (second-parts c) in
    is a b c (day_of_second a) (day_of_second b) (second_of_day a) (second_of_day b)
    (second_of_day c) low high p.0 p.1 q.0 q.1 r.0 r.1
  where
    is : (a b c n m : ℤ) (i j k : ℕ) → a ≤ℤ b → b ≤ℤ c → a ≡ pos 86400 *ℤ n +ℤ pos i → i < 86400 → b ≡ pos 86400 *ℤ m +ℤ pos j
        → j < 86400 → c ≡ pos 86400 *ℤ n +ℤ pos k → k < 86400 → m ≡ n
    is a b c n m i j k low high p p1 q q1 r r1 = omega (arith, signed_arith)

-- the stretches of starts of one day are of one length
pub one-length : (p : DurationParts) (b c : ℤ) → day_of_second b ≡ day_of_second c → stop p b -ℤ b ≡ stop p c -ℤ c
one-length p b c same =
    let x = second-parts b in
    let y = rw (sym same) at (second-parts c) in
    moved (stop p b) (stop p c) b c (day_of_second b) (second_of_day b) (second_of_day c) x.0 y.0 (stop-same_day p b c same)
  where
    moved : (e f b c n : ℤ) (i j : ℕ) → b ≡ pos 86400 *ℤ n +ℤ pos i → c ≡ pos 86400 *ℤ n +ℤ pos j → e +ℤ pos j ≡ f +ℤ pos i
        → e -ℤ b ≡ f -ℤ c
    moved e f b c n i j p q r = omega (arith, signed_arith)

-- the later of two seconds, the first moved on
later-grown : (end next e mid last : ℤ) → end ≤ℤ next → (next ≡ end) ⊎ (next ≡ mid) → mid ≤ℤ last → IsLater end last e
    → IsLater next last e
later-grown end next e mid last up o le l = elim o [
  | inl x ↦ rw x l
  | inr x ↦ (let a = l.0 in let b = l.1 in (
    omega (arith, signed_arith, x, le, b),
    b,
    elim (l.2) [ inl y ↦ inl (omega (arith, signed_arith, x, y, le, b, up)) | inr y ↦ inr y ],
  ))
]

-- a run goes on over starts each of which is reached by the stretch of the one before
pub run-passed : (p : DurationParts) (before left : List ℤ) (first end b last e : ℤ) (step : ℕ) (xs : List ℤ)
    → IsRun p before (xs ++ left) first end → first ≤ℤ b
    → stop p b ≤ℤ end → (b +ℤ pos step) ≤ℤ stop p b → Stepped step b xs last → day_of_second last ≡ day_of_second b
    → IsLater end (stop p last) e → IsRun p before left first e
run-passed p before left first end b last e step [] run low has near h day later =
    let is : last ≡ b = h in
    let l = rw is at later in
    let same : e ≡ end = elim (l.2) [ inl x ↦ x | inr x ↦ (let a = l.0 in omega (arith, signed_arith, x, has, a)) ] in
    rw same run
run-passed p before left first end b last e step (x ∷ xs) run low has near h day later =
    let is : x ≡ b +ℤ pos step = h.0 in
    let high = stepped-low step x xs last h.1 in
    let on : day_of_second x ≡ day_of_second b = between-day b x last (omega (arith, signed_arith)) high day in
    let long = one-length p x b on in
    let far = one-length p last b day in
    let pass = λ (next : ℤ) (a : end ≤ℤ next) (c : stop p x ≤ℤ next) (o : (next ≡ end) ⊎ (next ≡ stop p x)).
    run-passed p before left first next x last e step xs (run-longer p before (xs ++ left) first end x next run
    (omega (arith, signed_arith)) (omega (arith, signed_arith)) a c o) (omega (arith, signed_arith)) c
    (omega (arith, signed_arith)) h.1 (day ∙ sym on)
    (later-grown end next e (stop p x) (stop p last) a o (omega (arith, signed_arith)) later) in
    by_lt_z end (stop p x) (λ lt. pass (stop p x) (omega (arith, signed_arith)) (omega (arith, signed_arith)) (inr refl))
    (λ ge. pass end (omega (arith, signed_arith)) ge (inl refl))

-- and over the start that they follow, which it reaches
pub run-day : (p : DurationParts) (before left : List ℤ) (first end b last e : ℤ) (step : ℕ) (xs : List ℤ)
    → IsRun p before (b ∷ (xs ++ left)) first end → first ≤ℤ b → b ≤ℤ end
    → pos step ≤ℤ (stop p b -ℤ b) → Stepped step b xs last → day_of_second last ≡ day_of_second b → IsLater end (stop p last) e
    → IsRun p before left first e
run-day p before left first end b last e step xs run low reached near h day later =
    let high = stepped-low step b xs last h in
    let far = one-length p last b day in
    let pass = λ (next : ℤ) (a : end ≤ℤ next) (c : stop p b ≤ℤ next) (o : (next ≡ end) ⊎ (next ≡ stop p b)).
    run-passed p before left first next b last e step xs (run-longer p before (xs ++ left) first end b next run low reached a c o)
    low c (omega (arith, signed_arith, near)) h day
    (later-grown end next e (stop p b) (stop p last) a o (omega (arith, signed_arith, far, high)) later) in
    by_lt_z end (stop p b) (λ lt. pass (stop p b) (omega (arith, signed_arith)) (omega (arith, signed_arith)) (inr refl))
    (λ ge. pass end (omega (arith, signed_arith)) ge (inl refl))

-- what was handed out, with several more
pub given-many : (s t : Walk) (xs : List ℤ) → IsSameWindow s t → walk_to_come s ≡ xs ++ walk_to_come t → walk_given t
    ≡ walk_given s ++ xs
given-many s t xs h e =
    let all = same-all s t h in
    let split : walk_all t ≡ (walk_given s ++ xs) ++ walk_to_come t =
    sym all ∙ all-split s ∙ ap (λ (l : List ℤ). walk_given s ++ l) e
    ∙ sym (append_assoc (walk_given s) xs (walk_to_come t)) in
    let long : length (walk_given s ++ xs) ≡ t.handed = (let q = t.left.count in
    let r = length-append (walk_given s ++ xs) (walk_to_come t) in let total = ap (λ (l : List ℤ). length l) split in
    omega (arith, q, r, total)) in
    ap (λ (l : List ℤ). take t.handed l) split ∙ take_at (walk_given s ++ xs) (walk_to_come t) t.handed long

pub after-rest : (b : ℤ) (xs ys : List ℤ) → AllAfter b (xs ++ ys) → AllAfter b ys
after-rest b [] ys h = h
after-rest b (x ∷ xs) ys h = after-rest b xs ys h.1

-- the seconds of the calendar are small
pub near-epoch : (b : ℤ) → IsCalendarDay (day_of_second b) → (neg_ℤ (pos 5364662400) ≤ℤ b) × (b ≤ℤ pos 26192246400)
near-epoch b day =
    let p = second-parts b in
    within b (day_of_second b) (second_of_day b) p.0 p.1 day.0 day.1
  where
    within : (b n : ℤ) (k : ℕ) → b ≡ pos 86400 *ℤ n +ℤ pos k → k < 86400 → first_calendar_day ≤ℤ n → n ≤ℤ last_calendar_day
        → (neg_ℤ (pos 5364662400) ≤ℤ b) × (b ≤ℤ pos 26192246400)
    within b n k e lt low high = (omega (arith, signed_arith), omega (arith, signed_arith))

-- and so are the ends of their stretches
pub record AreNear (b r : ℤ) : Type 0 where
  pub calendar : IsCalendarDay (day_of_second b)
  pub low : neg_ℤ (pos 5364662400) ≤ℤ b
  pub high : b ≤ℤ pos 26192246400
  pub order : b ≤ℤ r
  pub long : r ≤ℤ (b +ℤ pos 3162240000)
  pub start_is : word b ≡ b
  pub end_is : word r ≡ r
  pub length_is : word (r -ℤ b) ≡ r -ℤ b

pub are-near : (d : Duration) (b r : ℤ) → IsCalendarDay (day_of_second b) → b ≤ℤ r
    → r ≤ℤ (b +ℤ pos (bound_of (duration_parts d))) → AreNear b r
are-near d b r day order long =
    let n = near-epoch b day in
    near b r (bound_of (duration_parts d)) day n.0 n.1 order long d.bounded.1
  where
    near : (b r : ℤ) (k : ℕ) → IsCalendarDay (day_of_second b) → neg_ℤ (pos 5364662400) ≤ℤ b → b ≤ℤ pos 26192246400 → b ≤ℤ r
        → r ≤ℤ (b +ℤ pos k) → k ≤ 3162240000 → AreNear b r
    near b r k day low high order long small = record {
      calendar = day;
      low = low;
      high = high;
      order = order;
      long = omega (arith, signed_arith, long, small);
      start_is = omega (arith, signed_arith);
      end_is = omega (arith, signed_arith);
      length_is = omega (arith, signed_arith);
    }

-- and the last start of the day, with the end of its stretch as it is computed
pub record IsLastNear (p : DurationParts) (b r last : ℤ) : Type 0 where
  pub near : AreNear b r
  pub up : b ≤ℤ last
  pub high : last ≤ℤ pos 26192246400
  pub last_is : word last ≡ last
  pub far_is : word (last -ℤ b) ≡ last -ℤ b
  pub after : last ≤ℤ stop p last
  pub stop_is : word (word r +ℤ word (word last -ℤ word b)) ≡ stop p last

pub last-near : (p : DurationParts) (b r last length : ℤ) (v w : Walk) → AreNear b r → r ≡ stop p b → IsPassed v w b length last
    → IsLastNear p b r last
last-near p b r last length v w near is passed =
    let up = stepped-low passed.step b passed.list last passed.stepped in
    let one = one-length p last b passed.day in
    let high = (near-epoch last (rw (passed.day) near.calendar)).1 in
    let low = near.low in let order = near.order in let long = near.long in
    let last_is : word last ≡ last = plain-z last (omega (arith, signed_arith, low, up)) (omega (arith, signed_arith, high)) in
    let far_is : word (last -ℤ b) ≡ last -ℤ b = plain-z _ (omega (arith, signed_arith, up))
    (omega (arith, signed_arith, high, low)) in
    record {
      near = near;
      up = up;
      high = high;
      last_is = last_is;
      far_is = far_is;
      after = omega (arith, signed_arith, one, is, order);
      stop_is = rw (near.start_is, last_is, far_is, near.end_is) (computed r b last (stop p last) (stop p b) is one low up high
          order long);
    }
  where
    plain-z : (a : ℤ) → neg_ℤ (pos 40000000000) ≤ℤ a → a ≤ℤ pos 40000000000 → word a ≡ a
    plain-z a low high = omega (arith, signed_arith)

    computed : (r b last end first : ℤ) → r ≡ first → end -ℤ last ≡ first -ℤ b → neg_ℤ (pos 5364662400) ≤ℤ b → b ≤ℤ last
        → last ≤ℤ pos 26192246400 → b ≤ℤ r → r ≤ℤ (b +ℤ pos 3162240000) → word (r +ℤ (last -ℤ b)) ≡ end
    computed r b last end first is one low up high order long = omega (arith, signed_arith)
