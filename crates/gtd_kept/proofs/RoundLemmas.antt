-- Kept spans that are left out for whole periods at once: after some periods all of them are as many periods later.
use Rattle.std.proofs.Common.{◌≡◌, ◌∙◌, List, [], ◌∷◌, ◌++◌, refl, sym, ap, subst, arith, ℕ, zero, suc, ◌+◌, ◌*◌, ◌/◌, ◌%◌, ◌<◌}
use Rattle.std.proofs.Common.{length, take, drop, map, get_or, set}
use Rattle.std.proofs.lemmas.List.{drop-map, drop-set-lt, drop_more, length-set, map-append, map_more, take-map, take_more}
use Rattle.std.proofs.lemmas.List.{take_more_set}
use Rattle.std.proofs.lemmas.Int.{ints, by_lt_z}
use Rattle.std.proofs.Math.IntN.{pos-*ℤ-pos, suc_ℤ-*ℤ, zero-*ℤ}
use Rattle.std.proofs.Math.Nat.{div-add-mod}
use Rattle.std.specs.Int.{int_rem_euclid}
use Rattle.std.specs.Prelude.{ℤ, pos, negsuc, ◌+ℤ◌, ◌-ℤ◌, ◌*ℤ◌, ◌≤ℤ◌, ◌<ℤ◌}
use Rattle.gtd_core.specs.Seconds.{Interval}
use Rattle.gtd_spans.specs.Normal.{AllBeginAfter, IsNormal}
use Rattle.gtd_spans.specs.Skipping.{AllEndBy, LeavesOut}
use Rattle.gtd_spans.specs.facts.OneList.{same-interval}
use Rattle.gtd_kept.specs.Repeating.{AllDoneBy, AreKept, IsWhole, all_later, begun_after, moved, to_come}
use Rattle.gtd_kept.specs.declared.repeat.Stage.{Stage}
use Rattle.gtd_kept.specs.declared.repeat.Stage.TheVariants.{Repeating}
use Rattle.gtd_kept.proofs.RepeatLemmas.{begun-all, later-after, later-some, lt-false, lt-true}
use Rattle.gtd_kept.proofs.SkipFacts.{leaves-more}

-- ---- whole periods

-- no seconds are left out before the first period is over
whole-some : (n : ℕ) (w : ℤ) → pos 0 <ℤ w → pos 0 ≤ℤ (pos n *ℤ w)
whole-some n (pos m) some = rw (pos-*ℤ-pos n m) (omega (arith, ints))
whole-some n (negsuc m) some = absurd (omega (arith, ints, some))

-- one more period
whole-more : (n : ℕ) (w : ℤ) → pos (suc n) *ℤ w ≡ (pos n *ℤ w) +ℤ w
whole-more n w = suc_ℤ-*ℤ (pos n) w

-- what a division leaves, and the whole periods before it
pub whole-part : (a w : ℤ) → pos 0 ≤ℤ a → pos 0 <ℤ w
    → IsWhole w (a -ℤ int_rem_euclid a w) × (pos 0 ≤ℤ (a -ℤ int_rem_euclid a w)) × (pos 0 ≤ℤ int_rem_euclid a w)
whole-part (pos a) (pos w) le some =
    let parts : w * (a / w) + a % w ≡ a = div-add-mod a w in
    let is : pos a -ℤ pos (a % w) ≡ pos ((a / w) * w) = omega (arith, ints, parts) in
    ((a / w, is ∙ sym (pos-*ℤ-pos (a / w) w)), rw is (omega (arith, ints)), omega (arith, ints))
whole-part (pos a) (negsuc w) le some = absurd (omega (arith, ints, some))
whole-part (negsuc a) w le some = absurd (omega (arith, ints, le))

-- the same of the numbers that the code works with
pub part-is : (time w rest part : ℤ) → rest ≡ int_rem_euclid time w → part ≡ time -ℤ rest → pos 0 ≤ℤ time → pos 0 <ℤ w
    → IsWhole w part × (pos 0 ≤ℤ part) × (part ≤ℤ time)
part-is time w rest part r p le some =
    let is : part ≡ time -ℤ int_rem_euclid time w = p ∙ ap (λ (z : ℤ). time -ℤ z) r in
    let k = whole-part time w le some in
    let low = k.2 in
    rw is (k.0, k.1, omega (arith, ints, low))

-- ---- spans that are done by a second

done-take : (e : ℤ) (n : ℕ) (xs : List Interval) → AllDoneBy e xs → AllDoneBy e (take n xs)
done-take e zero xs d = tt
done-take e (suc n) [] d = tt
done-take e (suc n) (x ∷ xs) d = (d.0, d.1, done-take e n xs d.2)

done-drop : (e : ℤ) (n : ℕ) (xs : List Interval) → AllDoneBy e xs → AllDoneBy e (drop n xs)
done-drop e zero xs d = d
done-drop e (suc n) [] d = tt
done-drop e (suc n) (x ∷ xs) d = done-drop e n xs d.2

done-both : (e : ℤ) (xs ys : List Interval) → AllDoneBy e xs → AllDoneBy e ys → AllDoneBy e (xs ++ ys)
done-both e [] ys d f = f
done-both e (x ∷ xs) ys d f = (d.0, d.1, done-both e xs ys d.2 f)

-- one more span is done
pub done-more : (e : ℤ) (n : ℕ) (xs : List Interval) (x : Interval) → n < length xs → x ≡ get_or xs n x → x.from <ℤ x.until
    → x.until ≤ℤ e → AllDoneBy e (take n xs) → AllDoneBy e (take (n + 1) xs)
done-more e n xs x lt is some le d =
    let more : take (n + 1) xs ≡ take n xs ++ (x ∷ []) =
    take_more xs n x lt ∙ ap (λ (y : Interval). take n xs ++ (y ∷ [])) (sym is) in
    rw more (done-both e (take n xs) (x ∷ []) d (some, le, tt))

-- the next span, where the others are as they were
pub done-next : (e : ℤ) (n : ℕ) (xs ys : List Interval) (x : Interval) → drop n xs ≡ drop n ys → n < length xs
    → x ≡ get_or xs n x → AllDoneBy e ys → x.until ≤ℤ e
done-next e n xs ys x others lt is d =
    let rest : AllDoneBy e (drop n xs) = subst (AllDoneBy e) (sym others) (done-drop e n ys d) in
    let next : AllDoneBy e (get_or xs n x ∷ drop (n + 1) xs) = subst (AllDoneBy e) (drop_more xs n x lt) rest in
    subst (λ (z : Interval). z.until ≤ℤ e) (sym is) next.1

-- one more span is moved
pub moved-next : (by : ℤ) (n : ℕ) (xs ys : List Interval) (x y : Interval) → take n xs ≡ map (moved by) (take n ys)
    → drop n xs ≡ drop n ys → length xs ≡ length ys → n < length xs → x ≡ get_or xs n x → y ≡ moved by x
    → (take (n + 1) (set xs n y) ≡ map (moved by) (take (n + 1) ys)) × (drop (n + 1) (set xs n y) ≡ drop (n + 1) ys)
    × (length (set xs n y) ≡ length ys)
moved-next by n xs ys x y first others count lt is moves =
    let there : n < length ys = omega (arith, lt, count) in
    let one : drop n xs ≡ get_or xs n x ∷ drop (n + 1) xs = drop_more xs n x lt in
    let other : drop n ys ≡ get_or ys n x ∷ drop (n + 1) ys = drop_more ys n x there in
    let same : x ≡ get_or ys n x = cc in
    let rest : drop (n + 1) xs ≡ drop (n + 1) ys = cc in
    let more : y ≡ moved by (get_or ys n x) = moves ∙ ap (moved by) same in (
      take_more_set xs n y lt ∙ ap (λ (l : List Interval). l ++ (y ∷ [])) first
          ∙ ap (λ (z : Interval). map (moved by) (take n ys) ++ (z ∷ [])) more
          ∙ sym (map_more (moved by) ys n x there),
      drop-set-lt (n + 1) xs n y (omega arith) ∙ rest,
      length-set xs n y ∙ count,
    )

-- the same in the order in which they are handed out
pub done-turned : (e : ℤ) (n : ℕ) (xs : List Interval) → AllDoneBy e xs → AllDoneBy e (drop n xs ++ take n xs)
done-turned e n xs d = done-both e (drop n xs) (take n xs) (done-drop e n xs d) (done-take e n xs d)

pub moved-turned : (by : ℤ) (n : ℕ) (xs ys : List Interval) → ys ≡ map (moved by) xs
    → drop n ys ++ take n ys ≡ map (moved by) (drop n xs ++ take n xs)
moved-turned by n xs ys is =
    rw (is, drop-map (moved by) n xs, take-map (moved by) n xs) (sym (map-append (moved by) (drop n xs) (take n xs)))

moved-done : (e by : ℤ) (xs : List Interval) → AllDoneBy e xs → AllDoneBy (e +ℤ by) (map (moved by) xs)
moved-done e by [] d = tt
moved-done e by (x ∷ xs) d =
    let some = d.0 in
    let le = d.1 in
    (omega (arith, ints, some), omega (arith, ints, le), moved-done e by xs d.2)

done-ends : (e second : ℤ) (xs : List Interval) → e ≤ℤ second → AllDoneBy e xs → AllEndBy second xs
done-ends e second [] le d = tt
done-ends e second (x ∷ xs) le d = let ends = d.1 in (omega (arith, ints, le, ends), done-ends e second xs le d.2)

moved-none : (xs : List Interval) → map (moved (pos 0)) xs ≡ xs
moved-none [] = refl
moved-none (x ∷ xs) =
    let same : moved (pos 0) x ≡ x = same-interval _ _ (omega (arith, ints)) (omega (arith, ints)) in
    rw (moved-none xs, same) refl

moved-twice : (a b c : ℤ) (xs : List Interval) → c ≡ b +ℤ a → map (moved b) (map (moved a) xs) ≡ map (moved c) xs
moved-twice a b c [] is = refl
moved-twice a b c (x ∷ xs) is =
    let same : moved b (moved a x) ≡ moved c x = same-interval _ _ (omega (arith, ints, is)) (omega (arith, ints, is)) in
    rw (moved-twice a b c xs is, same) refl

-- ---- one period

-- none of the kept spans is cut, if all are over a period before the end
later-kept : (w u e : ℤ) (ks xs : List Interval) → AllDoneBy e ks → (e +ℤ w) ≤ℤ u
    → all_later w u (ks ++ xs) ≡ map (moved w) ks ++ all_later w u xs
later-kept w u e [] xs d le = refl
later-kept w u e (k ∷ ks) xs d le =
    let some = d.0 in
    let ends = d.1 in
    let others = later-kept w u e ks xs d.2 le in
    rw (
      later-some w u k (ks ++ xs) (omega (arith, ints, some, ends, le)),
      others,
      lt-false u (k.until +ℤ w) (omega (arith, ints, ends, le)),
    ) refl

after-less : (b c : ℤ) (xs : List Interval) → c ≤ℤ b → AllBeginAfter b xs → AllBeginAfter c xs
after-less b c [] le a = tt
after-less b c (x ∷ xs) le a = let first = a.0 in (omega (arith, ints, first, le), after-less b c xs le a.1)

begun-after : (b : ℤ) (xs : List Interval) → IsNormal xs → AllBeginAfter b (begun_after b xs)
begun-after b [] n = tt
begun-after b (x ∷ xs) n =
    by_lt_z {P = AllBeginAfter b (begun_after b (x ∷ xs))} b x.from
    (λ lt. let some = n.0 in rw (lt-true b x.from lt) (lt, after-less x.until b xs (omega (arith, ints, some, lt)) n.1))
    (λ le. rw (lt-false b x.from le) (begun-after b xs n.2))

begun-done : (c : ℤ) (ks rest : List Interval) → AllDoneBy c ks → AllBeginAfter c rest → begun_after c (ks ++ rest) ≡ rest
begun-done c [] rest d a = begun-all c rest a
begun-done c (k ∷ ks) rest d a =
    let some = d.0 in
    let ends = d.1 in
    rw (lt-false c k.from (omega (arith, ints, some, ends))) (begun-done c ks rest d.2 a)

-- with intervals handed out that are done by a later second, what begins after that one
begun-later : (b c : ℤ) (xs ks rest : List Interval) → b ≤ℤ c → AllDoneBy c ks → AllBeginAfter c rest
    → begun_after b xs ≡ ks ++ rest → begun_after c xs ≡ rest
begun-later b c [] [] rest le d a e = e
begun-later b c [] (k ∷ ks) rest le d a e = absurd (cc)
begun-later b c (y ∷ ys) ks rest le d a e =
    by_lt_z {P = begun_after c (y ∷ ys) ≡ rest} b y.from
    (λ lt. let k : (y ∷ ys) ≡ ks ++ rest = rw (lt-true b y.from lt) at e in
    ap (begun_after c) k ∙ begun-done c ks rest d a)
    (λ before. let k : begun_after b ys ≡ ks ++ rest = rw (lt-false b y.from before) at e in
    rw (lt-false c y.from (omega (arith, ints, before, le))) (begun-later b c ys ks rest le d a k))

-- the kept spans are left out, and kept again a period later
abbrev IsPassed : ℤ → ℤ → ℤ → ℤ → ℤ → List Interval → List Interval → Type 0
IsPassed w u second e end ks xs = LeavesOut second (begun_after e xs) (begun_after end xs)
    × (begun_after end xs ≡ all_later w u (ks ++ begun_after end xs))

one-round : (w u second e : ℤ) (ks xs : List Interval) → pos 0 <ℤ w → IsNormal xs → AllDoneBy e ks
    → begun_after e xs ≡ all_later w u (ks ++ begun_after e xs) → (e +ℤ w) ≤ℤ u → (e +ℤ w) ≤ℤ second
    → IsPassed w u second e (e +ℤ w) (map (moved w) ks) xs
one-round w u second e ks xs some n d h inside in_time =
    let b : List Interval = begun_after e xs in
    let rest : List Interval = all_later w u b in
    let first : List Interval = map (moved w) ks in
    let is : b ≡ first ++ rest = h ∙ later-kept w u e ks b d inside in
    let done : AllDoneBy (e +ℤ w) first = moved-done e w ks d in
    let after : AllBeginAfter (e +ℤ w) rest = later-after w u e (e +ℤ w) b (omega (arith, ints)) (begun-after e xs n) in
    let next : begun_after (e +ℤ w) xs ≡ rest = begun-later e (e +ℤ w) xs first rest (omega (arith, ints, some)) done after is in
    rw next ((first, is, done-ends (e +ℤ w) second first in_time done), ap (all_later w u) is)

-- ---- more periods

rounds : (n : ℕ) (w u second e by : ℤ) (ks xs : List Interval) → pos 0 <ℤ w → IsNormal xs → by ≡ pos n *ℤ w → AllDoneBy e ks
    → begun_after e xs ≡ all_later w u (ks ++ begun_after e xs) → (e +ℤ by) ≤ℤ u → (e +ℤ by) ≤ℤ second
    → IsPassed w u second e (e +ℤ by) (map (moved by) ks) xs
rounds zero w u second e by ks xs some n is d h inside in_time =
    let none : by ≡ pos 0 = is ∙ zero-*ℤ w in
    let same : e +ℤ by ≡ e = omega (arith, ints, none) in
    rw (same, none, moved-none ks) (([], refl, tt), h)
rounds (suc m) w u second e by ks xs some n is d h inside in_time =
    let more : ℤ = pos m *ℤ w in
    let not_back : pos 0 ≤ℤ more = whole-some m w some in
    let both : by ≡ more +ℤ w = is ∙ whole-more m w in
    let end : (e +ℤ w) +ℤ more ≡ e +ℤ by = omega (arith, ints, both) in
    let one = one-round w u second e ks xs some n d h (omega (arith, ints, both, not_back, inside))
    (omega (arith, ints, both, not_back, in_time)) in
    let others = rounds m w u second (e +ℤ w) more (map (moved w) ks) xs some n refl (moved-done e w ks d) one.1
    (omega (arith, ints, end, inside)) (omega (arith, ints, end, in_time)) in
    let passed = rw (end, moved-twice w more by ks both) at others in
    (leaves-more second (begun_after e xs) (begun_after (e +ℤ w) xs) (begun_after (e +ℤ by) xs) one.0 passed.0, passed.1)

-- the same at a stage in which all spans of a period are kept
pub rounds-some : (w : ℤ) (s : Stage) (u second e by : ℤ) (ks xs : List Interval) → s ≡ Repeating (record { 0 = e })
    → pos 0 <ℤ w → IsNormal xs → IsWhole w by → AllDoneBy e ks → AreKept w s u ks xs → (e +ℤ by) ≤ℤ u → (e +ℤ by) ≤ℤ second
    → LeavesOut second (to_come s xs) (begun_after (e +ℤ by) xs)
    × (begun_after (e +ℤ by) xs ≡ all_later w u (map (moved by) ks ++ begun_after (e +ℤ by) xs))
rounds-some w s u second e by ks xs is some n whole d h inside in_time =
    let k : AreKept w (Repeating (record { 0 = e })) u ks xs = subst (λ (t : Stage). AreKept w t u ks xs) is h in
    rw is (rounds whole.0 w u second e by ks xs some n whole.1 d k inside in_time)
