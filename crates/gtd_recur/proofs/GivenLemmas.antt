-- What a walk has handed out, and how much it counted for it.
use Rattle.std.proofs.Common.{◌≡◌, ◌⊎◌, ℕ, zero, suc, ◌+◌, ◌<◌, ◌≤◌, Bool, true, false, not, cond, List, [], ◌∷◌, ◌++◌}
use Rattle.std.proofs.Common.{length, take, drop, Option, Some, None, refl, sym, ap, ◌∙◌, inl, inr, arith, append_assoc, ℤ}
use Rattle.std.proofs.Common.{pos, ◌+ℤ◌, ◌-ℤ◌, ◌*ℤ◌, ◌<ℤ◌, ◌≤ℤ◌, int_lt, unsigned_abs, ◌&&◌}
use Rattle.std.specs.Prelude.{count_by, IfSome}
use Rattle.gtd_core.specs.declared.second.Sec.{Sec}
use Rattle.std.proofs.lemmas.Bool.{cases_Bool, and_left}
use Rattle.std.proofs.lemmas.List.{take-append-drop, take_all, take_at, length-drop, length-append, length-take-le}
use Rattle.std.proofs.lemmas.Int.{by_lt_z}
use Rattle.std.proofs.lemmas.Grind.{flat_map-append}
use Rattle.gtd_calendar.specs.facts.Signed.{signed_arith}
use Rattle.gtd_calendar.specs.facts.ClockLemmas.{second-parts, second-only}
use Rattle.gtd_core.specs.Seconds.{day_of_second}
use Rattle.gtd_calendar.specs.Clock.{second_of_day}
use Rattle.gtd_core.specs.declared.start.StartParts.{StartParts}
use Rattle.gtd_core.specs.Parts.{start_parts, duration_parts}
use Rattle.gtd_core.specs.Whole.{from_day, to_day, whole}
use Rattle.gtd_core.specs.Ranges.{lookback_of}
use Rattle.gtd_core.specs.declared.domain.Basic.{Basic}
use Rattle.gtd_core.specs.declared.horizon.Horizon.{Horizon}
use Rattle.gtd_recur.specs.declared.walk.Walk.{Walk}
use Rattle.gtd_recur.specs.Begins.{month_and_year_fit}
use Rattle.gtd_recur.specs.Ascending.{AllAfter, AllBefore, Has}
use Rattle.gtd_recur.specs.Work.{days_from, days_between, starts_on, starts_of, window_begin, work, least_work}
use Rattle.gtd_recur.specs.Work.{least_of_horizon}
use Rattle.gtd_recur.specs.Starts.{TakesSecond}
use Rattle.gtd_recur.specs.Walking.{IsSameWindow, IsCountedTo, walk_given, walk_to_come, walk_ticks, walk_all, walk_days}
use Rattle.gtd_recur.proofs.AscendingLemmas.{window-ascending, ascending-after, before-weaken, starts_of-ascending}
use Rattle.gtd_recur.proofs.AscendingLemmas.{starts_on-ascending}
use Rattle.gtd_recur.proofs.CountLemmas.{count-no, no_lt, between-after}
use Rattle.gtd_recur.proofs.CoverLemmas.{test_from_lt}
use Rattle.gtd_recur.specs.facts.StartsLemmas.{window_begin-is, count-append, count-is, days_between-append, days_between-is}
use Rattle.gtd_recur.specs.facts.StartsLemmas.{later_by, starts_of-cons, starts_of-nil}
use Rattle.gtd_recur.proofs.HorizonLemmas.{has-either}

-- the start and the days of a walk, and its first day and the day at its end
abbrev pub parts_of : Walk → StartParts
parts_of s = start_parts s.basic.start

abbrev pub begin_of : Walk → ℤ
begin_of s = s.first

abbrev pub end_of : Walk → ℤ
end_of s = to_day s.horizon

pub has-before : (m b : ℤ) (xs : List ℤ) → AllBefore m xs → Has xs b → b <ℤ m
has-before m b [] a h = absurd h
has-before m b (x ∷ xs) a h = elim h [ inl e ↦ omega (arith, signed_arith, e, a.0) | inr r ↦ has-before m b xs a.1 r ]

pub has-after : (m b : ℤ) (xs : List ℤ) → AllAfter m xs → Has xs b → m <ℤ b
has-after m b [] a h = absurd h
has-after m b (x ∷ xs) a h = elim h [ inl e ↦ omega (arith, signed_arith, e, a.0) | inr r ↦ has-after m b xs a.1 r ]

pub before-append : (m : ℤ) (xs ys : List ℤ) → AllBefore m xs → AllBefore m ys → AllBefore m (xs ++ ys)
before-append m [] ys p q = q
before-append m (x ∷ xs) ys p q = (p.0, before-append m xs ys p.1 q)

take-next : (k : ℕ) (all : List ℤ) (b : ℤ) (more : List ℤ) → drop k all ≡ b ∷ more → take (k + 1) all ≡ take k all ++ b ∷ []
take-next k all b more e =
    let low : k ≤ length all = (let a = length-drop k all in let l = ap (λ (l : List ℤ). length l) e in omega (arith, a, l)) in
    let split : all ≡ (take k all ++ b ∷ []) ++ more = sym (take-append-drop k all) ∙ ap (λ (l : List ℤ). take k all ++ l) e
    ∙ sym (append_assoc (take k all) (b ∷ []) more) in
    let long : length (take k all ++ b ∷ []) ≡ k + 1 = (let p = length-append (take k all) (b ∷ []) in
    let q = length-take-le k all low in omega (arith, p, q)) in
    ap (λ (l : List ℤ). take (k + 1) l) split ∙ take_at (take k all ++ b ∷ []) more (k + 1) long

-- the walks go over the same starts
pub same-all : (s t : Walk) → IsSameWindow s t → walk_all s ≡ walk_all t
same-all s t h = rw (h.basic, h.horizon, h.first) refl

-- one more is handed out
pub given-next : (s t : Walk) (b : ℤ) → IsSameWindow s t → walk_to_come s ≡ b ∷ walk_to_come t → walk_given t
    ≡ walk_given s ++ b ∷ []
given-next s t b h e =
    let all = same-all s t h in
    let long = ap (λ (l : List ℤ). length l) e in
    let total = ap (λ (l : List ℤ). length l) all in
    let p = s.left.count in
    let q = t.left.count in
    let one : t.handed ≡ s.handed + 1 = omega (arith, long, total, p, q) in
    rw (one, ← all) (take-next s.handed (walk_all s) b (walk_to_come t) (sym (s.left.rest) ∙ e))

-- all are handed out
pub given-all : (s : Walk) → walk_to_come s ≡ [] → walk_given s ≡ walk_all s
given-all s e = take_all s.handed (walk_all s) (let count = rw e at s.left.count in omega arith)

pub all-split : (s : Walk) → walk_all s ≡ walk_given s ++ walk_to_come s
all-split s = sym (take-append-drop s.handed (walk_all s)) ∙ ap (λ (l : List ℤ). walk_given s ++ l) (sym s.left.rest)

fewer : (a b : Bool) → (a ≡ true → b ≡ true) → cond a 1 0 ≤ cond b 1 0
fewer false b h = omega arith
fewer true b h = rw (h refl) (omega arith)

pub count-mono : (f g : ℤ → Bool) (xs : List ℤ) → ((x : ℤ) → f x ≡ true → g x ≡ true) → count_by f xs ≤ count_by g xs
count-mono f g [] h = omega arith
count-mono f g (x ∷ xs) h = omega (arith, count-is f x xs, count-is g x xs, count-mono f g xs h, fewer (f x) (g x) (h x))

pub day-mono : (a b : ℤ) → a ≤ℤ b → day_of_second a ≤ℤ day_of_second b
day-mono a b le =
    let p = second-parts a in
    let q = second-parts b in
    mono a b (day_of_second a) (day_of_second b) (second_of_day a) (second_of_day b) p.0 p.1 q.0 q.1 le
  where
    mono : (a b n m : ℤ) (i j : ℕ) → a ≡ pos 86400 *ℤ n +ℤ pos i → i < 86400 → b ≡ pos 86400 *ℤ m +ℤ pos j → j < 86400 → a ≤ℤ b
        → n ≤ℤ m
    mono a b n m i j p q r s le = omega (arith, signed_arith)

pub not_lt : (a b : ℤ) → not (int_lt a b) ≡ true → b ≤ℤ a
not_lt a b h = elim (cases_Bool (int_lt a b)) [ inl on ↦ absurd (let f : false ≡ true = rw on at h in cc) | inr off ↦ le a b off ]
  where
    le : (a b : ℤ) → int_lt a b ≡ false → b ≤ℤ a
    le a b off = by_lt_z a b (λ lt. absurd (let f : false ≡ true = sym off ∙ test_from_lt a b lt in cc)) (λ ge. ge)

-- once the start after an end is handed out, no more was counted than may be up to any start after the end
pub at_most-some : (s t : Walk) (end c : ℤ) → IsSameWindow s t → walk_to_come s ≡ c ∷ walk_to_come t
    → AllBefore (end +ℤ pos 1) (walk_given s)
    → ((u : ℤ) → c ≤ℤ u → s.seen ≤ℤ (day_of_second u +ℤ pos 1) → walk_ticks t ≤ work (parts_of s) (walk_days s) u)
    → (b : ℤ) → Has (walk_all s) b → end <ℤ b → s.seen ≤ℤ (day_of_second b +ℤ pos 1)
    → walk_ticks t ≤ work (parts_of s) (walk_days s) b
at_most-some s t end c same e given at b has late seen =
    let split : walk_all s ≡ walk_given s ++ c ∷ walk_to_come t = all-split s ∙ ap (λ (l : List ℤ). walk_given s ++ l) e in
    let asc = rw split at (window-ascending (parts_of s) (begin_of s) (end_of s)) in
    let after = ascending-after (walk_given s) (c ∷ walk_to_come t) asc in
    let reached : c ≤ℤ b = elim (has-either (walk_given s) (c ∷ walk_to_come t) b (rw split at has)) [
      | inl before ↦ absurd (let lt = has-before (end +ℤ pos 1) b (walk_given s) given before in
          omega (arith, signed_arith, lt, late))
      | inr here ↦ elim here [
        | inl is ↦ omega (arith, signed_arith, is)
        | inr rest ↦
            (let lt = has-after c b (walk_to_come t) after.0 rest in omega (arith, signed_arith, lt))
      ]
    ] in
    at b reached seen

-- where all were handed out up to an end, no start is after it
pub at_most-none : (s : Walk) (end : ℤ) → walk_to_come s ≡ [] → AllBefore (end +ℤ pos 1) (walk_given s) → (b : ℤ)
    → Has (walk_all s) b → end <ℤ b → ⊥
at_most-none s end none given b has late =
    let lt = has-before (end +ℤ pos 1) b (walk_all s) (rw (given-all s none) at given) has in
    omega (arith, signed_arith, lt, late)

-- what was handed out with one start more
pub given-up_to : (s t : Walk) (end c : ℤ) → IsSameWindow s t → walk_to_come s ≡ c ∷ walk_to_come t
    → AllBefore (end +ℤ pos 1) (walk_given s) → (m : ℤ) → end ≤ℤ m → c ≤ℤ m → AllBefore (m +ℤ pos 1) (walk_given t)
given-up_to s t end c same e given m low high =
    rw (given-next s t c same e) (before-append (m +ℤ pos 1) (walk_given s) (c ∷ [])
    (before-weaken (end +ℤ pos 1) (m +ℤ pos 1) (walk_given s) (omega (arith, signed_arith)) given)
    (omega (arith, signed_arith), tt))

pub starts_of-append : (p : StartParts) (xs ys : List ℤ) → starts_of p (xs ++ ys) ≡ starts_of p xs ++ starts_of p ys
unfolding starts_of
starts_of-append p xs ys = flat_map-append (starts_on p) xs ys

-- fewer days ask for less
pub least-fewer : (p : StartParts) (first n end b : ℤ) → first ≤ℤ n → n ≤ℤ end
    → least_work p (days_between n end) b ≤ least_work p (days_between first end) b
unfolding least_work
least-fewer p first n end b low high =
    let split = days_between-append first n end low high in
    let days = count-append (λ m. int_lt m (day_of_second b) && month_and_year_fit p m) (days_between first n)
    (days_between n end) in
    let starts = count-append (λ c. int_lt c b) (starts_of p (days_between first n)) (starts_of p (days_between n end)) in
    rw (split, starts_of-append p (days_between first n) (days_between n end)) (omega (arith, days, starts))

-- before the first second of the days nothing must be counted
pub least-first : (p : StartParts) (n end from : ℤ) → from ≡ pos 86400 *ℤ n → least_work p (days_between n end) from ≡ 0
unfolding least_work days_between
least-first p n end from e =
    let day : day_of_second from ≡ n = (second-only from n 0 (omega arith) (omega (arith, signed_arith))).0 in
    let on = count-no (λ m. int_lt m n && month_and_year_fit p m) (n -ℤ pos 1) (days_between n end)
    (λ m lt. and_left _ _ (no_lt m n (omega (arith, signed_arith))))
    (between-after n end (n -ℤ pos 1) (omega (arith, signed_arith))) in
    let at = count-no (λ c. int_lt c from) (pos 86400 *ℤ n -ℤ pos 1) (starts_of p (days_between n end))
    (λ c lt. no_lt c from (omega (arith, signed_arith))) (starts_of-ascending p n (unsigned_abs (end -ℤ n))).1 in
    rw day (omega (arith, on, at))

days-last : (p : StartParts) (n : ℤ) (k : ℕ) → AllBefore (pos 86400 *ℤ (n +ℤ pos k)) (starts_of p (days_from n k))
unfolding days_from
days-last p n zero = rw (starts_of-nil p) tt
days-last p n (suc k) =
    let here = before-weaken (pos 86400 *ℤ (n +ℤ pos 1)) (pos 86400 *ℤ (n +ℤ pos (suc k))) (starts_on p n)
    (omega (arith, signed_arith)) (starts_on-ascending p n).2 in
    let same : n +ℤ pos 1 +ℤ pos k ≡ n +ℤ pos (suc k) = omega (arith, signed_arith) in
    rw (starts_of-cons p n (days_from (n +ℤ pos 1) k)) (before-append _ (starts_on p n) _ here
    (rw same at (days-last p (n +ℤ pos 1) k)))

-- the starts of a window are before the day at its end
pub window-last : (p : StartParts) (first end : ℤ) → first ≤ℤ end
    → AllBefore (pos 86400 *ℤ end) (starts_of p (days_between first end))
window-last p first end le =
    let e = later_by first end le in
    rw (days_between-is first end (unsigned_abs (end -ℤ first)) e) (rw (← e) at (days-last p first (unsigned_abs (end -ℤ first))))

pub begin-low : (d : Basic) (h : Horizon) → window_begin d h ≤ℤ from_day h
begin-low d h = less (window_begin d h) (from_day h) (lookback_of (duration_parts d.duration)) (window_begin-is d h)
  where
    less : (a b : ℤ) (k : ℕ) → a ≡ b -ℤ pos k → a ≤ℤ b
    less a b k e = omega (arith, signed_arith)

pub horizon-order : (h : Horizon) → from_day h ≤ℤ to_day h
horizon-order h = less (from_day h) (to_day h) h.not_empty
  where
    less : (a b : ℤ) → a <ℤ b → a ≤ℤ b
    less a b lt = omega (arith, signed_arith)

-- and ends with it
pub window-order : (d : Basic) (h : Horizon) → window_begin d h ≤ℤ to_day h
window-order d h = chain (window_begin d h) (from_day h) (to_day h) (begin-low d h) (horizon-order h)
  where
    chain : (a b c : ℤ) → a ≤ℤ b → b ≤ℤ c → a ≤ℤ c
    chain a b c p q = omega (arith, signed_arith)

-- a walk begins before its horizon does
pub walk-low : (s : Walk) → s.first ≤ℤ from_day s.horizon
walk-low s = let a = s.counted.low in let b = s.seen_in in omega (arith, signed_arith, a, b)

pub walk-order : (s : Walk) → s.first ≤ℤ to_day s.horizon
walk-order s = let a = walk-low s in let b = horizon-order s.horizon in omega (arith, signed_arith, a, b)

pub whole-order : (h : Horizon) → (whole h).from ≤ℤ (whole h).until
whole-order h = more (from_day h) (to_day h) (horizon-order h)
  where
    more : (a b : ℤ) → a ≤ℤ b → (a *ℤ pos 86400) ≤ℤ (b *ℤ pos 86400)
    more a b le = omega (arith, signed_arith)

-- right after a run is handed out
pub run-at_most : (s t : Walk) (end u : ℤ) → ((b : ℤ) → Has (walk_all s) b → end <ℤ b → s.seen ≤ℤ (day_of_second b +ℤ pos 1)
    → walk_ticks t ≤ work (parts_of s) (walk_days s) b)
    → ((u ≡ end) ⊎ (u ≡ (whole s.horizon).until)) → (b : ℤ) → Has (walk_all s) b → u <ℤ b
    → s.seen ≤ℤ (day_of_second b +ℤ pos 1) → walk_ticks t ≤ work (parts_of s) (walk_days s) b
run-at_most s t end u at one b has late seen = elim one [
  | inl e ↦ at b has (omega (arith, signed_arith, e, late)) seen
  | inr e ↦ absurd (apart u b (end_of s) e late (has-before (pos 86400 *ℤ end_of s) b (walk_all s)
      (window-last (parts_of s) (begin_of s) (end_of s) (walk-order s)) has))
]
  where
    apart : (u b n : ℤ) → u ≡ n *ℤ pos 86400 → u <ℤ b → b <ℤ (pos 86400 *ℤ n) → ⊥
    apart u b n p q r = omega (arith, signed_arith)

pub run-at_least : (s t : Walk) (first f : ℤ) → least_work (parts_of s) (walk_days s) first ≤ walk_ticks s
    → walk_ticks s ≤ walk_ticks t
    → ((f ≡ first) ⊎ (f ≡ (whole s.horizon).from)) → least_of_horizon s.basic s.horizon f ≤ walk_ticks t
run-at_least s t first f least grows one = elim one [
  | inl e ↦ let less = least-fewer (parts_of s) (begin_of s) (from_day s.horizon) (end_of s) first (walk-low s)
      (horizon-order s.horizon) in rw e (omega (arith, less, least, grows))
  | inr e ↦ let zero = least-first (parts_of s) (from_day s.horizon) (end_of s) (from_day s.horizon *ℤ pos 86400)
      (flip (from_day s.horizon)) in rw e (omega (arith, zero))
]
  where
    flip : (n : ℤ) → n *ℤ pos 86400 ≡ pos 86400 *ℤ n
    flip n = omega (arith, signed_arith)

-- the first start of all, taken ahead
pub counted-first : (s t : Walk) (o : Option Sec) → IsSameWindow s t → walk_given s ≡ []
    → TakesSecond (walk_to_come s) o (walk_to_come t)
    → IfSome o (λ b. least_work (parts_of s) (walk_days s) b.0 + 1 ≤ walk_ticks t) → IsCountedTo t o
counted-first s t None same nothing takes least = tt
counted-first s t (Some b) same nothing takes least =
    let begun : AllBefore (b.0 +ℤ pos 1) (walk_given s) = rw nothing tt in (
      rw (given-next s t b.0 same takes) (before-append (b.0 +ℤ pos 1) (walk_given s) (b.0 ∷ []) begun
          (omega (arith, signed_arith), tt)),
      rw (same.basic, same.horizon, same.first) (omega (arith, least)),
    )
