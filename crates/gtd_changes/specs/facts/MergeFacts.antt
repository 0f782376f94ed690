-- The changes that are made of two lists of intervals: those lists, by the first seconds of their intervals; and the only such.
use Rattle.std.proofs.Common.{◌≡◌, sym, ap, refl, arith, ◌+◌, inl, inr, Bool, true, false, List, [], ◌∷◌, length, map}
use Rattle.std.specs.Prelude.{ℤ, ◌<ℤ◌, ◌≤ℤ◌, int_lt, if◌then◌else◌}
use Rattle.std.proofs.lemmas.Int.{ints, by_lt_z}
use Rattle.gtd_core.specs.Seconds.{Interval}
use Rattle.gtd_spans.specs.Normal.{AllBeginAfter, Holds, IsNormal}
use Rattle.gtd_changes.specs.Changes.{AllChangeAfter, BeginInTurn, closed_in, opened_in}
use Rattle.gtd_changes.specs.Merging.{at_place, by_from}
use Rattle.gtd_changes.specs.declared.change.Change.{Change}
use Rattle.gtd_changes.specs.declared.change.Change.TheVariants.{Opened, Closed}

-- ---- the two lists are those that were merged

closed_alone : (closed : List Interval) → (opened_in (map Closed closed) ≡ []) × (closed_in (map Closed closed) ≡ closed)
closed_alone [] = (refl, refl)
closed_alone (y ∷ closed) = let more = closed_alone closed in (more.0, ap (λ (ys : List Interval). y ∷ ys) more.1)

-- both lists of the merged one
abbrev pub AreOf : List Interval → List Interval → List Change → Type 0
AreOf opened closed changes = (opened_in changes ≡ opened) × (closed_in changes ≡ closed)

of_one : (x y : Interval) (opened closed : List Interval) (rest all : List Change) (test : Bool)
    → AreOf (x ∷ opened) closed rest → AreOf opened (y ∷ closed) all
    → AreOf (x ∷ opened) (y ∷ closed) (if test then Closed y ∷ rest else Opened x ∷ all)
of_one x y opened closed rest all true a b = (a.0, ap (λ (ys : List Interval). y ∷ ys) a.1)
of_one x y opened closed rest all false a b = (ap (λ (xs : List Interval). x ∷ xs) b.0, b.1)

of_place : (x : Interval) (opened closed : List Interval) → ((ys : List Interval) → AreOf opened ys (by_from opened ys))
    → AreOf (x ∷ opened) closed (at_place x (by_from opened) closed)
of_place x opened [] more = (ap (λ (xs : List Interval). x ∷ xs) (more []).0, (more []).1)
of_place x opened (y ∷ closed) more =
    of_one x y opened closed (at_place x (by_from opened) closed) (by_from opened (y ∷ closed)) (int_lt y.from x.from)
    (of_place x opened closed more) (more (y ∷ closed))

pub of_both : (opened closed : List Interval) → AreOf opened closed (by_from opened closed)
of_both [] closed = closed_alone closed
of_both (x ∷ opened) closed = of_place x opened closed (of_both opened)

-- ---- there are as many

pub long_lists : (changes : List Change) → length changes ≡ length (opened_in changes) + length (closed_in changes)
long_lists [] = refl
long_lists (Opened x ∷ changes) = let more = long_lists changes in omega arith
long_lists (Closed x ∷ changes) = let more = long_lists changes in omega arith

-- ---- they begin in turn

after_closed : (b : ℤ) (closed : List Interval) → AllBeginAfter b closed → AllChangeAfter b (map Closed closed)
after_closed b [] a = tt
after_closed b (y ∷ closed) a = (a.0, after_closed b closed a.1)

after_one : (b : ℤ) (x y : Interval) (rest all : List Change) (test : Bool) → b <ℤ x.from → b <ℤ y.from
    → AllChangeAfter b rest → AllChangeAfter b all
    → AllChangeAfter b (if test then Closed y ∷ rest else Opened x ∷ all)
after_one b x y rest all true lx ly r a = (ly, r)
after_one b x y rest all false lx ly r a = (lx, a)

after_place : (b : ℤ) (x : Interval) (opened closed : List Interval)
    → ((ys : List Interval) → AllBeginAfter b ys → AllChangeAfter b (by_from opened ys))
    → b <ℤ x.from → AllBeginAfter b closed → AllChangeAfter b (at_place x (by_from opened) closed)
after_place b x opened [] more lx c = (lx, more [] tt)
after_place b x opened (y ∷ closed) more lx c =
    after_one b x y (at_place x (by_from opened) closed) (by_from opened (y ∷ closed)) (int_lt y.from x.from) lx c.0
    (after_place b x opened closed more lx c.1) (more (y ∷ closed) c)

after_both : (b : ℤ) (opened closed : List Interval) → AllBeginAfter b opened → AllBeginAfter b closed
    → AllChangeAfter b (by_from opened closed)
after_both b [] closed o c = after_closed b closed c
after_both b (x ∷ opened) closed o c = after_place b x opened closed (λ ys a. after_both b opened ys o.1 a) o.0 c

after_weaker : (a b : ℤ) (xs : List Interval) → a ≤ℤ b → AllBeginAfter b xs → AllBeginAfter a xs
after_weaker a b [] le h = tt
after_weaker a b (x ∷ xs) le h = (omega (arith, ints, le, h.0), after_weaker a b xs le h.1)

turn_closed : (closed : List Interval) → IsNormal closed → BeginInTurn (map Closed closed)
turn_closed [] n = tt
turn_closed (y ∷ closed) n =
    (after_closed y.from closed (after_weaker y.from y.until closed (omega (arith, ints, n.0)) n.1), turn_closed closed n.2)

-- no second is in both lists
abbrev pub AreApart : List Interval → List Interval → Type 0
AreApart xs ys = (t : ℤ) → Holds xs t → Holds ys t → ⊥

begins : (x : Interval) → x.from <ℤ x.until → (x.from ≤ℤ x.from) × (x.from <ℤ x.until)
begins x some = (omega (arith, ints), some)

turn_one : (x y : Interval) (rest all : List Change) (test : Bool)
    → (test ≡ true → AllChangeAfter y.from rest) → (test ≡ false → AllChangeAfter x.from all) → BeginInTurn rest → BeginInTurn all
    → BeginInTurn (if test then Closed y ∷ rest else Opened x ∷ all)
turn_one x y rest all true high low r a = (high refl, r)
turn_one x y rest all false high low r a = (low refl, a)

less : (a b : ℤ) → int_lt a b ≡ true → a <ℤ b
less a b e = grind (arith, ints)

not_less : (a b : ℤ) → int_lt a b ≡ false → b ≤ℤ a
not_less a b e = grind (arith, ints)

turn_place : (x : Interval) (opened closed : List Interval) → IsNormal (x ∷ opened) → IsNormal closed
    → AreApart (x ∷ opened) closed
    → ((ys : List Interval) → IsNormal ys → AreApart opened ys → BeginInTurn (by_from opened ys))
    → BeginInTurn (at_place x (by_from opened) closed)
turn_place x opened [] n m apart more = (
  after_both x.from opened [] (after_weaker x.from x.until opened (omega (arith, ints, n.0)) n.1) tt,
  more [] tt (λ t h k. k),
)
turn_place x opened (y ∷ closed) n m apart more =
    turn_one x y (at_place x (by_from opened) closed) (by_from opened (y ∷ closed)) (int_lt y.from x.from)
    (λ e. let lt = less y.from x.from e in
    after_both y.from (x ∷ opened) closed
    (lt, after_weaker y.from x.until opened (omega (arith, ints, n.0, lt)) n.1)
    (after_weaker y.from y.until closed (omega (arith, ints, m.0)) m.1))
    (λ e. let le = not_less y.from x.from e in
    let lt : x.from <ℤ y.from =
    by_lt_z x.from y.from (λ h. h)
    (λ ge. absurd (apart x.from (inl (begins x n.0)) (inl (omega (arith, ints, ge), omega (arith, ints, le, ge, m.0))))) in
    after_both x.from opened (y ∷ closed) (after_weaker x.from x.until opened (omega (arith, ints, n.0)) n.1)
    (lt, after_weaker x.from y.until closed (omega (arith, ints, m.0, lt)) m.1))
    (turn_place x opened closed n m.2 (λ t h k. apart t h (inr k)) more)
    (more (y ∷ closed) m (λ t h k. apart t (inr h) k))

pub turn_both : (opened closed : List Interval) → IsNormal opened → IsNormal closed → AreApart opened closed
    → BeginInTurn (by_from opened closed)
turn_both [] closed n m apart = turn_closed closed m
turn_both (x ∷ opened) closed n m apart =
    turn_place x opened closed n m apart (λ ys k a. turn_both opened ys n.2 k a)

-- ---- there is one list

first_opened : (b : ℤ) (changes : List Change) (x : Interval) (xs : List Interval) → AllChangeAfter b changes
    → opened_in changes ≡ x ∷ xs → b <ℤ x.from
first_opened b [] x xs after is = absurd cc
first_opened b (Opened y ∷ changes) x xs after is = let e : y ≡ x = cc in rw (← e) after.0
first_opened b (Closed y ∷ changes) x xs after is = first_opened b changes x xs after.1 is

first_closed : (b : ℤ) (changes : List Change) (x : Interval) (xs : List Interval) → AllChangeAfter b changes
    → closed_in changes ≡ x ∷ xs → b <ℤ x.from
first_closed b [] x xs after is = absurd cc
first_closed b (Closed y ∷ changes) x xs after is = let e : y ≡ x = cc in rw (← e) after.0
first_closed b (Opened y ∷ changes) x xs after is = first_closed b changes x xs after.1 is

tail_same : (x y : Interval) (xs ys : List Interval) → x ∷ xs ≡ y ∷ ys → (x ≡ y) × (xs ≡ ys)
tail_same x y xs ys e = (cc, cc)

pub one_order : (a b : List Change) → BeginInTurn a → BeginInTurn b → opened_in a ≡ opened_in b
    → closed_in a ≡ closed_in b → a ≡ b
one_order [] [] p q o c = refl
one_order [] (Opened y ∷ b) p q o c = absurd cc
one_order [] (Closed y ∷ b) p q o c = absurd cc
one_order (Opened x ∷ a) [] p q o c = absurd cc
one_order (Closed x ∷ a) [] p q o c = absurd cc
one_order (Opened x ∷ a) (Opened y ∷ b) p q o c =
    let e = tail_same x y (opened_in a) (opened_in b) o in rw (e.0, one_order a b p.1 q.1 e.1 c) refl
one_order (Closed x ∷ a) (Closed y ∷ b) p q o c =
    let e = tail_same x y (closed_in a) (closed_in b) c in rw (e.0, one_order a b p.1 q.1 o e.1) refl
one_order (Opened x ∷ a) (Closed y ∷ b) p q o c =
    let l = first_closed x.from a y (closed_in b) p.0 c in
    let r = first_opened y.from b x (opened_in a) q.0 (sym o) in
    absurd (omega (arith, ints, l, r))
one_order (Closed x ∷ a) (Opened y ∷ b) p q o c =
    let l = first_opened x.from a y (opened_in b) p.0 o in
    let r = first_closed y.from b x (closed_in a) q.0 (sym c) in
    absurd (omega (arith, ints, l, r))
