-- The line of an element that differs: the seconds of a horizon can be counted, in one way alone.
use Rattle.std.proofs.Common.{◌≡◌, ◌∙◌, sym, ap, ap₂, refl, subst, arith, ◌<◌, ◌≤◌, ◌+◌, ◌^◌, inl, inr, ℕ, zero, suc, List}
use Rattle.std.proofs.Common.{[], ◌∷◌}
use Rattle.std.proofs.Common.{◌++◌, length, length-append, append_assoc}
use Rattle.std.specs.Prelude.{ℤ, pos, negsuc, ◌+ℤ◌, ◌-ℤ◌, ◌≤ℤ◌, ◌<ℤ◌, ◌↔◌, Bool, true, false, IsTrue, Option, Some, None, codes}
use Rattle.std.specs.Prelude.{decimal}
use Rattle.std.specs.Option.{is_some}
use Rattle.std.proofs.Common.{true≢false}
use Rattle.gtd_spans.specs.Sweeping.{Takes}
use Rattle.std.proofs.lemmas.Fmt.{length-decimal-le}
use Rattle.std.proofs.lemmas.Int.{ints}
use Rattle.gtd_core.specs.Seconds.{Interval}
use Rattle.gtd_core.specs.Whole.{whole}
use Rattle.gtd_core.specs.declared.horizon.Horizon.{Horizon}
use Rattle.gtd_core.specs.facts.Deciding.{Decided}
use Rattle.gtd_eval.specs.Membership.{IsNormalOver}
use Rattle.gtd_records.specs.Closing.{IsOpen, Restriction}
use Rattle.gtd_rows.specs.declared.direction.Direction.{Direction}
use Rattle.gtd_records.specs.facts.OpenDecisions.{open_or_not}
use Rattle.gtd_report.specs.Putting.{IsOne}
use Rattle.gtd_schedule.specs.Lines.{line_head}
use Rattle.gtd_schedule.specs.facts.LineFacts.{length-head}
use Rattle.gtd_spans.specs.Counting.{IsCount}
use Rattle.gtd_spans.specs.Normal.{Holds, IsNormal}
use Rattle.gtd_spans.specs.facts.CountFacts.{count-cut, count-few, count-first, count-held, count-none, count-same, one-count}
use Rattle.gtd_changes.specs.Changes.{WasClosed, WasOpened}
use Rattle.gtd_changes.specs.Summary.{AreSummaryLines, Differs, HasSeconds, IsSummaryLine, summary_line}
use Rattle.gtd_changes.specs.facts.ChangesFacts.{closed_list, opened_list}

-- ---- a horizon has a number of seconds

room : (from until : ℤ) → from <ℤ until → (all : ℕ) × (from +ℤ pos all ≡ until)
room from until lt = by_sign (until -ℤ from) refl
  where
    by_sign : (d : ℤ) → (until -ℤ from) ≡ d → (all : ℕ) × (from +ℤ pos all ≡ until)
    by_sign (pos n) e = (n, omega (arith, ints, e))
    by_sign (negsuc n) e = absurd (omega (arith, ints, e, lt))

pub all_seconds : (horizon : Horizon) → (all : ℕ) × ((whole horizon).from +ℤ pos all ≡ (whole horizon).until)
all_seconds horizon = room (whole horizon).from (whole horizon).until (omega (arith, ints, horizon.not_empty))

-- and no more than the longest
pub few_seconds : (horizon : Horizon) (all : ℕ) → (whole horizon).from +ℤ pos all ≡ (whole horizon).until
    → all ≤ 12622867200
few_seconds horizon all e = omega (arith, ints, e, horizon.not_long)

-- ---- there is one count

same_all : (from until : ℤ) (a b : ℕ) → from +ℤ pos a ≡ until → from +ℤ pos b ≡ until → a ≡ b
same_all from until a b e f = omega (arith, ints, e, f)

pub one_seconds : (horizon : Horizon) (set : ℤ → Type 0) (a b : ℕ) → HasSeconds horizon set a → HasSeconds horizon set b → a ≡ b
one_seconds horizon set a b p q =
    let e = same_all (whole horizon).from (whole horizon).until q.all p.all q.end p.end in
    one-count set (whole horizon).from p.all a b p.counted
    (subst (λ (n : ℕ). IsCount set (whole horizon).from n b) e q.counted)

-- ---- the seconds that a source hands out

pub none_left : (horizon : Horizon) (xs : List Interval) → xs ≡ [] → HasSeconds horizon (Holds xs) 0
none_left horizon xs none =
    let all = all_seconds horizon in
    record {
      all = all.0;
      end = all.1;
      counted = subst (λ (l : List Interval). IsCount (Holds l) (whole horizon).from all.0 0) (sym none)
          (count-none (Holds []) (whole horizon).from all.0 (λ s a h. h));
    }

-- a span and the seconds behind it
pub one_more : (horizon : Horizon) (x : Interval) (xs all : List Interval) (n m : ℕ) → all ≡ x ∷ xs → IsNormal all
    → (whole horizon).from ≤ℤ x.from → x.until ≤ℤ (whole horizon).until → x.from +ℤ pos n ≡ x.until
    → HasSeconds horizon (Holds xs) m → HasSeconds horizon (Holds all) (n + m)
one_more horizon x xs all n m is normal begins ends long h =
    let f = (whole horizon).from in
    let first = count-cut x f x.from x.until h.all n begins (omega (arith, ints, ends, h.end)) long
    (λ s a. ((λ w. w), (λ w. w))) in
    record {
      all = h.all;
      end = h.end;
      counted = subst (λ (l : List Interval). IsCount (Holds l) f h.all (n + m)) (sym is)
          (count-first x xs f h.all n m (subst IsNormal is normal) first h.counted);
    }

pub regroup : (horizon : Horizon) (set : ℤ → Type 0) (a b c : ℕ) → HasSeconds horizon set (a + (b + c))
    → HasSeconds horizon set (a + b + c)
regroup horizon set a b c h = subst (HasSeconds horizon set) (omega arith) h

pub few_counted : (horizon : Horizon) (set : ℤ → Type 0) (n : ℕ) → HasSeconds horizon set n → n ≤ 12622867200
few_counted horizon set n h =
    let few = few_seconds horizon h.all h.end in
    let fits = count-few set (whole horizon).from h.all n h.counted in
    omega (arith, few, fits)

-- some number of them is left
pub some_left : (horizon : Horizon) (xs : List Interval) → (m : ℕ) × HasSeconds horizon (Holds xs) m
some_left horizon xs =
    let all = all_seconds horizon in
    let held = count-held xs (whole horizon).from all.0 in
    (held.0, record { all = all.0; end = all.1; counted = held.1 })

-- those of the horizon at which an element is open
pub open_count : (horizon : Horizon) (set : ℤ → Type 0) (xs : List Interval) (n : ℕ) → IsNormalOver set horizon xs
    → HasSeconds horizon (Holds xs) n → HasSeconds horizon set n
open_count horizon set xs n normal h = record {
  all = h.all;
  end = h.end;
  counted = count-same (Holds xs) set (whole horizon).from h.all n
      (λ s a. (
        (λ k. (normal.inside s k).2),
        (λ k. normal.complete s (a.0, omega (arith, ints, a.1, h.end), k)),
      )) h.counted;
}

counted : (set : ℤ → Type 0) → ((t : ℤ) → Decided (set t)) → (t : ℤ) (n : ℕ) → (count : ℕ) × IsCount set t n count
unfolding IsCount
counted set decided t zero = (0, refl)
counted set decided t (suc n) =
    let rest = counted set decided (t +ℤ pos 1) n in
    elim (decided t) [
      | inl h ↦ (rest.0 + 1, (rest.0, rest.1, inl (h, refl)))
      | inr h ↦ (rest.0, (rest.0, rest.1, inr (h, refl)))
    ]

some_open : (found : List Restriction) (element : ℕ) (direction : Direction) (vehicle : ℕ) (horizon : Horizon)
    → (n : ℕ) × HasSeconds horizon (IsOpen found element direction vehicle) n
some_open found element direction vehicle horizon =
    let all = all_seconds horizon in
    let c = counted (IsOpen found element direction vehicle) (open_or_not found element direction vehicle)
    (whole horizon).from all.0 in
    (c.0, record { all = all.0; end = all.1; counted = c.1 })

-- ---- it differs, or it does not

module _ (old new : List Restriction) (vehicle : ℕ) (horizon : Horizon) (element : ℕ) (direction : Direction) where
  -- a span in which it was opened has a first second
  pub opened_differs : (x : Interval) (xs all : List Interval) → all ≡ x ∷ xs
      → IsNormalOver (WasOpened old new element direction vehicle) horizon all
      → Differs old new vehicle horizon element direction
  opened_differs x xs all is n =
      let m = subst (IsNormalOver (WasOpened old new element direction vehicle) horizon) is n in
      let h = m.inside x.from (inl (omega (arith, ints), m.order.0)) in (x.from, (h.0, h.1), inl h.2)

  pub closed_differs : (x : Interval) (xs all : List Interval) → all ≡ x ∷ xs
      → IsNormalOver (WasClosed old new element direction vehicle) horizon all
      → Differs old new vehicle horizon element direction
  closed_differs x xs all is n =
      let m = subst (IsNormalOver (WasClosed old new element direction vehicle) horizon) is n in
      let h = m.inside x.from (inl (omega (arith, ints), m.order.0)) in (x.from, (h.0, h.1), inr h.2)

  -- without any, it does not differ
  pub same_without : (opened closed : List Interval) → opened ≡ [] → closed ≡ []
      → IsNormalOver (WasOpened old new element direction vehicle) horizon opened
      → IsNormalOver (WasClosed old new element direction vehicle) horizon closed
      → Differs old new vehicle horizon element direction → ⊥
  same_without opened closed o c n m d =
      elim d.2 [
        | inl w ↦ subst (λ (l : List Interval). Holds l d.0) o (n.complete d.0 (d.1.0, d.1.1, w))
        | inr w ↦ subst (λ (l : List Interval). Holds l d.0) c (m.complete d.0 (d.1.0, d.1.1, w))
      ]

  -- ---- what the next spans tell

  pub told_by_opened : (all after : List Interval) (o : Option Interval) → Takes all o after → is_some o ≡ true
      → IsNormalOver (WasOpened old new element direction vehicle) horizon all
      → IsTrue true ↔ Differs old new vehicle horizon element direction
  told_by_opened all after (Some x) takes e n = ((λ h. opened_differs x after all takes n), (λ d. refl))
  told_by_opened all after None takes e n = absurd cc

  pub told_by_closed : (opened closed one two : List Interval) (o p : Option Interval) (b : Bool) → Takes opened o one
      → is_some o ≡ false → Takes closed p two → b ≡ is_some p
      → IsNormalOver (WasOpened old new element direction vehicle) horizon opened
      → IsNormalOver (WasClosed old new element direction vehicle) horizon closed
      → IsTrue b ↔ Differs old new vehicle horizon element direction
  told_by_closed opened closed one two (Some x) p b takes e more is n m = absurd cc
  told_by_closed opened closed one two None (Some y) b takes e more is n m =
      ((λ h. closed_differs y two closed more m), (λ d. is))
  told_by_closed opened closed one two None None b takes e more is n m =
      ((λ h. absurd (true≢false (sym h ∙ is))), (λ d. absurd (same_without opened closed takes.0 more.0 n m d)))

  differs_or_not : (opened closed : List Interval)
      → IsNormalOver (WasOpened old new element direction vehicle) horizon opened
      → IsNormalOver (WasClosed old new element direction vehicle) horizon closed
      → Decided (Differs old new vehicle horizon element direction)
  differs_or_not (x ∷ xs) closed n m = inl (opened_differs x xs (x ∷ xs) refl n)
  differs_or_not [] (y ∷ ys) n m = inl (closed_differs y ys (y ∷ ys) refl m)
  differs_or_not [] [] n m = inr (same_without [] [] refl refl n m)

  -- ---- the lines

  one_line : (a b : List ℕ) → IsSummaryLine old new vehicle horizon element direction a
      → IsSummaryLine old new vehicle horizon element direction b → a ≡ b
  one_line a b p q =
      let was = one_seconds horizon (IsOpen old element direction vehicle) p.old_seconds q.old_seconds p.of_old q.of_old in
      let is = one_seconds horizon (IsOpen new element direction vehicle) p.new_seconds q.new_seconds p.of_new q.of_new in
      p.text ∙ ap₂ (summary_line element direction vehicle) was is ∙ sym q.text

  pub one_summary : IsOne (AreSummaryLines old new vehicle horizon element direction)
  one_summary a b (AreSummaryLines.differing s x p e) (AreSummaryLines.differing t y q f) =
      e ∙ ap (λ (l : List ℕ). l ∷ []) (one_line x y p q) ∙ sym f
  one_summary a b (AreSummaryLines.differing s x p e) (AreSummaryLines.same none f) = absurd (none s)
  one_summary a b (AreSummaryLines.same none e) (AreSummaryLines.differing t y q f) = absurd (none t)
  one_summary a b (AreSummaryLines.same none e) (AreSummaryLines.same never f) = e ∙ sym f

  by_choice : Decided (Differs old new vehicle horizon element direction)
      → (lines : List (List ℕ)) × AreSummaryLines old new vehicle horizon element direction lines
  by_choice (inr none) = ([], AreSummaryLines.same none refl)
  by_choice (inl differs) =
      let was = some_open old element direction vehicle horizon in
      let is = some_open new element direction vehicle horizon in
      let line = summary_line element direction vehicle was.0 is.0 in (
        line ∷ [],
        AreSummaryLines.differing differs line
            (record { old_seconds = was.0; new_seconds = is.0; of_old = was.1; of_new = is.1; text = refl }) refl,
      )

  pub some_summary : (lines : List (List ℕ)) × AreSummaryLines old new vehicle horizon element direction lines
  some_summary =
      let o = opened_list old new vehicle horizon element direction in
      let c = closed_list old new vehicle horizon element direction in
      by_choice (differs_or_not o.0 c.0 o.1 c.1)

-- ---- a line has at most 100 bytes

summary_parts : (element : ℕ) (direction : Direction) (vehicle was is : ℕ)
    → line_head element direction vehicle ++ (decimal was ++ (codes "," ++ (decimal is ++ codes "\n")))
    ≡ summary_line element direction vehicle was is
summary_parts element direction vehicle was is = simp append_assoc

pub short_summary : (element : ℕ) (direction : Direction) (vehicle was is : ℕ) → element < 2 ^ 64 → vehicle < 256 → was < 2 ^ 64
    → is < 2 ^ 64 → length (summary_line element direction vehicle was is) ≤ 100
short_summary element direction vehicle was is small type w i =
    let de = length-decimal-le 20 element (omega arith) (omega arith) small in
    let dv = length-decimal-le 3 vehicle (omega arith) (omega arith) (omega arith) in
    let dw = length-decimal-le 20 was (omega arith) (omega arith) w in
    let di = length-decimal-le 20 is (omega arith) (omega arith) i in
    let head = length-head element direction vehicle 20 3 de dv in
    let last = length-append (decimal is) (codes "\n") in
    let third = length-append (codes ",") (decimal is ++ codes "\n") in
    let second = length-append (decimal was) (codes "," ++ (decimal is ++ codes "\n")) in
    let first = length-append (line_head element direction vehicle) (decimal was ++ (codes "," ++ (decimal is ++ codes "\n"))) in
    rw (← summary_parts element direction vehicle was is) (omega (arith, head, dw, di, last, third, second, first))
