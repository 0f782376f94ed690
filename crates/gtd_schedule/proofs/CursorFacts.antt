-- What is known of cursors stays so while they are used, begin again and are stored.
use Rattle.std.proofs.Common.{◌≡◌, ◌↔◌, ◌∙◌, ◌<◌, ◌++◌, ap, inl, inr, subst, sym, arith, ℕ, zero, suc, List, [], ◌∷◌}
use Rattle.std.proofs.Common.{length, get_or, map, slice_set}
use Rattle.std.specs.Prelude.{ℤ}
use Rattle.gtd_core.specs.Seconds.{Interval}
use Rattle.gtd_core.specs.Whole.{whole}
use Rattle.gtd_eval.specs.Cursors.{cursor_list, cursor_whole, IsAtStart}
use Rattle.gtd_records.specs.Closing.{IsClosed, IsOpen, Restriction}
use Rattle.gtd_rows.specs.declared.direction.DirectedElement.{DirectedElement}
use Rattle.gtd_spans.specs.facts.NormalFor.{normal-for, normal-of}
use Rattle.gtd_schedule.specs.OpenCursors.{AreOpenSeconds, AreRight, IsOf, IsStarted, IsStored, WholeList, whole_of}
use Rattle.gtd_schedule.specs.declared.cursors.OpenCursor.{OpenCursor}
use Rattle.gtd_schedule.specs.declared.run.Schedule.{Schedule}

-- a cursor at its start stays there as it is stored
pub started_set : (opens : List OpenCursor) (n : ℕ) (opened : OpenCursor) → n < length opens → IsAtStart opened.cursor
    → IsStarted (slice_set opens n opened) n
started_set [] n opened lt start = absurd (omega (arith, lt))
started_set (x ∷ xs) zero opened lt start = start
started_set (x ∷ xs) (suc n) opened lt start = started_set xs n opened (omega (arith, lt)) start

started_push : (opens : List OpenCursor) (n : ℕ) (opened : OpenCursor) → n ≡ length opens → IsAtStart opened.cursor
    → IsStarted (opens ++ opened ∷ []) n
started_push [] zero opened is start = start
started_push [] (suc n) opened is start = absurd (omega (arith, is))
started_push (x ∷ xs) zero opened is start = absurd (omega (arith, is))
started_push (x ∷ xs) (suc n) opened is start = started_push xs n opened (omega (arith, is)) start

pub started_stored : (before : List OpenCursor) (opened : OpenCursor) (n : ℕ) (after : List OpenCursor)
    → IsStored before opened n after → IsAtStart opened.cursor → IsStarted after n
started_stored before opened n after stored start = elim stored [
  | inl there ↦ rw (there.1) (started_set before n opened there.0 start)
  | inr last ↦ rw (last.1) (started_push before n opened last.0 start)
]

pub started_within : (opens : List OpenCursor) (n : ℕ) → IsStarted opens n → n < length opens
started_within [] n is = absurd is
started_within (x ∷ xs) zero is = omega arith
started_within (x ∷ xs) (suc n) is = let lt = started_within xs n is in omega (arith, lt)

-- a cursor that was used has the same whole list
pub wholes_set : (opens : List OpenCursor) (n : ℕ) (old new : OpenCursor) → n < length opens → old ≡ get_or opens n old
    → whole_of new ≡ whole_of old → map whole_of (slice_set opens n new) ≡ map whole_of opens
wholes_set [] n old new lt is same = absurd (omega (arith, lt))
wholes_set (x ∷ xs) zero old new lt is same =
    ap (λ (w : WholeList). w ∷ map whole_of xs) (same ∙ ap whole_of is)
wholes_set (x ∷ xs) (suc n) old new lt is same =
    ap (λ (ws : List WholeList). whole_of x ∷ ws) (wholes_set xs n old new (omega (arith, lt)) is same)

module _ (found : List Restriction) (schedule : Schedule) where
  -- two elements that are closed at the same seconds
  abbrev pub AreClosedAlike : DirectedElement → DirectedElement → Type 0
  AreClosedAlike one other = (t : ℤ) → IsClosed found one.element one.direction schedule.vehicle t
      ↔ IsClosed found other.element other.direction schedule.vehicle t

  -- the list of the one is that of the other
  open_too : (one other : DirectedElement) (spans : List Interval) → AreClosedAlike one other
      → AreOpenSeconds found schedule one spans → AreOpenSeconds found schedule other spans
  open_too one other spans same are =
      let from = (whole schedule.horizon).from in
      let until = (whole schedule.horizon).until in
      normal-for (IsOpen found other.element other.direction schedule.vehicle) from until spans
      (normal-of (IsOpen found one.element one.direction schedule.vehicle) from until spans are)
      (λ t. (
        (λ h. let i = are.inside t h in (i.0, i.1, (λ closed. i.2 ((same t).1 closed)))),
        (λ i. are.complete t (i.0, i.1, (λ closed. i.2 ((same t).0 closed)))),
      ))

  pub of_too : (one other : DirectedElement) (wholes : List WholeList) (n : ℕ) → AreClosedAlike one other
      → IsOf found schedule one wholes n → IsOf found schedule other wholes n
  of_too one other [] n same is = is
  of_too one other (w ∷ ws) zero same is = open_too one other w.spans same is
  of_too one other (w ∷ ws) (suc n) same is = of_too one other ws n same is

  -- a cursor of an element is one of each that is closed alike
  pub of_known : (at : DirectedElement) (opens : List OpenCursor) (n : ℕ) (known : OpenCursor) → n < length opens
      → known ≡ get_or opens n known → AreClosedAlike known.at at → AreRight found schedule (map whole_of opens)
      → IsOf found schedule at (map whole_of opens) n
  of_known at [] n known lt is same are = absurd (omega (arith, lt))
  of_known at (x ∷ xs) zero known lt is same are =
      open_too x.at at (cursor_whole x.cursor) (subst (λ (o : OpenCursor). AreClosedAlike o.at at) is same) are.0
  of_known at (x ∷ xs) (suc n) known lt is same are = of_known at xs n known (omega (arith, lt)) is same are.1

  pub of_within : (at : DirectedElement) (opens : List OpenCursor) (n : ℕ) → IsOf found schedule at (map whole_of opens) n
      → n < length opens
  of_within at [] n is = absurd is
  of_within at (x ∷ xs) zero is = omega arith
  of_within at (x ∷ xs) (suc n) is = let lt = of_within at xs n is in omega (arith, lt)

  -- a cursor of an element that is at its start hands out the seconds at which it is open
  pub seconds_of : (at : DirectedElement) (opens : List OpenCursor) (n : ℕ) (opened : OpenCursor) → opened ≡ get_or opens n opened
      → IsOf found schedule at (map whole_of opens) n → IsStarted opens n
      → AreOpenSeconds found schedule at (cursor_list opened.cursor)
  seconds_of at [] n opened is of start = absurd of
  seconds_of at (x ∷ xs) zero opened is of start =
      subst (λ (o : OpenCursor). AreOpenSeconds found schedule at (cursor_list o.cursor)) (sym is)
      (subst (λ (l : List Interval). AreOpenSeconds found schedule at l) (sym start) of)
  seconds_of at (x ∷ xs) (suc n) opened is of start = seconds_of at xs n opened is of start

  -- a cursor more
  right_set : (opens : List OpenCursor) (n : ℕ) (opened : OpenCursor)
      → AreOpenSeconds found schedule opened.at (cursor_whole opened.cursor)
      → AreRight found schedule (map whole_of opens) → AreRight found schedule (map whole_of (slice_set opens n opened))
  right_set [] n opened its are = are
  right_set (x ∷ xs) zero opened its are = (its, are.1)
  right_set (x ∷ xs) (suc n) opened its are = (are.0, right_set xs n opened its are.1)

  right_push : (opens : List OpenCursor) (opened : OpenCursor)
      → AreOpenSeconds found schedule opened.at (cursor_whole opened.cursor)
      → AreRight found schedule (map whole_of opens) → AreRight found schedule (map whole_of (opens ++ opened ∷ []))
  right_push [] opened its are = (its, tt)
  right_push (x ∷ xs) opened its are = (are.0, right_push xs opened its are.1)

  pub right_stored : (before : List OpenCursor) (opened : OpenCursor) (n : ℕ) (after : List OpenCursor)
      → IsStored before opened n after → AreOpenSeconds found schedule opened.at (cursor_whole opened.cursor) → AreRight found schedule (map whole_of before)
      → AreRight found schedule (map whole_of after)
  right_stored before opened n after stored its are = elim stored [
    | inl there ↦ rw (there.1) (right_set before n opened its are)
    | inr last ↦ rw (last.1) (right_push before opened its are)
  ]

  of_set : (at : DirectedElement) (opens : List OpenCursor) (n : ℕ) (opened : OpenCursor) → n < length opens
      → AreOpenSeconds found schedule at (cursor_whole opened.cursor)
      → IsOf found schedule at (map whole_of (slice_set opens n opened)) n
  of_set at [] n opened lt its = absurd (omega (arith, lt))
  of_set at (x ∷ xs) zero opened lt its = its
  of_set at (x ∷ xs) (suc n) opened lt its = of_set at xs n opened (omega (arith, lt)) its

  of_push : (at : DirectedElement) (opens : List OpenCursor) (n : ℕ) (opened : OpenCursor) → n ≡ length opens
      → AreOpenSeconds found schedule at (cursor_whole opened.cursor)
      → IsOf found schedule at (map whole_of (opens ++ opened ∷ [])) n
  of_push at [] zero opened is its = its
  of_push at [] (suc n) opened is its = absurd (omega (arith, is))
  of_push at (x ∷ xs) zero opened is its = absurd (omega (arith, is))
  of_push at (x ∷ xs) (suc n) opened is its = of_push at xs n opened (omega (arith, is)) its

  pub of_stored : (at : DirectedElement) (before : List OpenCursor) (opened : OpenCursor) (n : ℕ) (after : List OpenCursor)
      → IsStored before opened n after → AreOpenSeconds found schedule at (cursor_whole opened.cursor)
      → IsOf found schedule at (map whole_of after) n
  of_stored at before opened n after stored its = elim stored [
    | inl there ↦ rw (there.1) (of_set at before n opened there.0 its)
    | inr last ↦ rw (last.1) (of_push at before n opened last.0 its)
  ]
