-- The lists and stays of a basic domain that is asked at later and later seconds.
use Rattle.std.proofs.Common.{◌≡◌, ◌∙◌, List, [], ◌∷◌, refl, sym, subst, inl, inr, arith, true, false, length, ◌<◌}
use Rattle.std.proofs.lemmas.Int.{ints, by_lt_z}
use Rattle.std.specs.Prelude.{ℤ, pos, ◌-ℤ◌, ◌≤ℤ◌, ◌<ℤ◌, None, Some}
use Rattle.gtd_core.specs.Whole.{whole}
use Rattle.gtd_recur.specs.RunsToCome.{runs_to_come}
use Rattle.gtd_core.specs.Parts.{start_parts, duration_parts}
use Rattle.gtd_core.specs.Seconds.{Interval}
use Rattle.gtd_core.specs.declared.domain.Basic.{Basic as BasicDomain}
use Rattle.gtd_spans.specs.Normal.{Holds, IsIn, IsNormal, IsNormalFor}
use Rattle.gtd_spans.specs.facts.NormalFor.{normal-for, normal-of, one-normal-list}
use Rattle.gtd_spans.specs.facts.OneList.{after-holds, first-holds}
use Rattle.gtd_spans.specs.facts.SomeList.{some-normal-list}
use Rattle.gtd_recur.specs.Membership.{InBasic}
use Rattle.gtd_recur.specs.facts.StretchDecisions.{in_stretches}
use Rattle.gtd_eval.specs.Asked.{HaveCome}
use Rattle.gtd_eval.specs.Basics.{ahead_list}
use Rattle.gtd_eval.specs.Onward.{IsReached, IsSameBasic}
use Rattle.gtd_eval.specs.Stays.{IsStay}
use Rattle.gtd_eval.specs.facts.BasicLists.{basic_list}
use Rattle.gtd_eval.specs.declared.basic_stays.BasicStays.{BasicStays}
use Rattle.gtd_eval.specs.declared.expr_stays.ExprStays.{ExprStays}
use Rattle.gtd_eval.specs.declared.expr_stays.ExprStays.TheVariants.{Basic, Join'}
use Rattle.gtd_eval.specs.declared.stay.Stay.{Stay}

pub basic-for : (d : BasicDomain) (a b : ℤ) → IsNormalFor (InBasic d) a b (basic_list d a b)
unfolding basic_list
basic-for d a b =
    (some-normal-list (InBasic d) (λ t. in_stretches (start_parts d.start) (duration_parts d.duration) t) a b).1

pub basic-is : (d : BasicDomain) (a b : ℤ) (xs : List Interval) → IsNormalFor (InBasic d) a b xs → xs ≡ basic_list d a b
basic-is d a b xs n = one-normal-list (InBasic d) a b xs (basic_list d a b) n (basic-for d a b)

-- where it holds at no second from s on until another
none-till : (d : BasicDomain) (s b until : ℤ) (stay : Stay) → stay.holds ≡ false → stay.until.0 ≡ until → s <ℤ until → until ≤ℤ b
    → ((t : ℤ) → s ≤ℤ t → t <ℤ until → InBasic d t → ⊥) → IsStay (InBasic d) s b stay
none-till d s b until stay holds is lt le out = record {
  holds = rw holds ((λ h. absurd (cc)), (λ h. absurd (out s (omega (arith, ints)) lt h)));
  later = omega (arith, ints, is, lt);
  within = omega (arith, ints, is, le);
  same = λ t after before. (
    (λ h. absurd (out s (omega (arith, ints)) lt h)),
    (λ h. absurd (out t (omega (arith, ints, after)) (omega (arith, ints, is, before)) h)),
  );
}

module _ (d : BasicDomain) (a b : ℤ) (x : Interval) (xs : List Interval) (e : x ∷ xs ≡ basic_list d a b) where
  abbrev is-for : IsNormalFor (InBasic d) a b (x ∷ xs)
  is-for = subst (λ (l : List Interval). IsNormalFor (InBasic d) a b l) (sym e) (basic-for d a b)

  abbrev normal : IsNormal (x ∷ xs)
  normal = normal-of (InBasic d) a b (x ∷ xs) is-for

  begins : IsIn (InBasic d) a b x.from
  begins = is-for.inside x.from (inl (omega (arith, ints), normal.0))

  -- with its first interval taken off
  pub basic-taken : xs ≡ basic_list d x.until b
  basic-taken =
      basic-is d x.until b xs (normal-for (InBasic d) x.until b xs normal.2 (λ t. (
        (λ h. let k = is-for.inside t (inr h) in let after = after-holds x.until t xs normal.1 h in
            (omega (arith, ints, after), k.1, k.2)),
        (λ h. elim (is-for.complete t (let n = normal.0 in let s = begins.0 in omega (arith, ints, h.0, n, s), h.1, h.2)) [
          | inl w ↦ absurd (omega (arith, ints, w.1, h.0))
          | inr k ↦ k
        ]),
      )))

  ends : x.until ≤ℤ b
  ends =
      let n = normal.0 in
      let last = is-for.inside (x.until -ℤ pos 1) (inl (omega (arith, ints, n), omega (arith, ints))) in
      let l = last.1 in omega (arith, ints, l)

  module _ (s : ℤ) (le : a ≤ℤ s) where
    -- before its first interval
    pub stays-out : (stay : Stay) → stay.holds ≡ false → stay.until.0 ≡ x.from → s <ℤ x.from → IsStay (InBasic d) s b stay
    stays-out stay holds until lt = none-till d s b x.from stay holds until lt (let i = begins.1 in omega (arith, ints, i)) out
      where
        out : (t : ℤ) → s ≤ℤ t → t <ℤ x.from → InBasic d t → ⊥
        out t from before h =
            let within : t <ℤ b = (let i = begins.1 in omega (arith, ints, before, i)) in
            let first = first-holds x xs t normal (is-for.complete t (omega (arith, ints, le, from), within, h)) in
            omega (arith, ints, first, before)

    -- in its first interval
    pub stays-in : (stay : Stay) → stay.holds ≡ true → stay.until.0 ≡ x.until → x.from ≤ℤ s → s <ℤ x.until
        → IsStay (InBasic d) s b stay
    stays-in stay holds until ge lt = record {
      holds = rw holds ((λ h. inside s ge lt), (λ h. refl));
      later = omega (arith, ints, until, lt);
      within = (let i = ends in omega (arith, ints, until, i));
      same = λ t after before.
          ((λ h. inside t (omega (arith, ints, ge, after)) (omega (arith, ints, until, before))), (λ h. inside s ge lt));
    }
      where
        inside : (t : ℤ) → x.from ≤ℤ t → t <ℤ x.until → InBasic d t
        inside t from before = (is-for.inside t (inl (from, before))).2

-- where nothing comes
pub stays-none : (d : BasicDomain) (a b s : ℤ) (stay : Stay) → [] ≡ basic_list d a b → a ≤ℤ s → s <ℤ b → stay.holds ≡ false
    → stay.until.0 ≡ b → IsStay (InBasic d) s b stay
stays-none d a b s stay e le lt holds until = none-till d s b b stay holds until lt (omega (arith, ints)) out
  where
    out : (t : ℤ) → s ≤ℤ t → t <ℤ b → InBasic d t → ⊥
    out t from before h =
        subst (λ (l : List Interval). Holds l t) (sym e)
        ((basic-for d a b).complete t (omega (arith, ints, le, from), before, h))

module _ (old new : BasicStays) (same : IsSameBasic old new) (s : ℤ) (le : new.at.0 ≤ℤ s) (stay : Stay) where
  -- where no run comes
  pub none-left : IsReached s None new → s <ℤ (whole old.horizon).until → stay.holds ≡ false
      → stay.until.0 ≡ (whole new.horizon).until → IsStay (InBasic old.basic) s (whole old.horizon).until stay
  none-left reached lt holds until =
      rw (← same.0, ← same.1) (stays-none new.basic new.at.0 (whole new.horizon).until s stay (sym reached ∙ new.is) le
      (rw same.1 lt) holds until)

  -- where one comes
  pub some-left : (x : Interval) → IsReached s (Some x) new
      → (s <ℤ x.from → (stay.holds ≡ false) × (stay.until.0 ≡ x.from))
      → (x.from ≤ℤ s → (stay.holds ≡ true) × (stay.until.0 ≡ x.until))
      → IsStay (InBasic old.basic) s (whole old.horizon).until stay
  some-left x reached out inside =
      let e : x ∷ runs_to_come new.runs ≡ basic_list new.basic new.at.0 (whole new.horizon).until = rw reached.0 at new.is in
      rw (← same.0, ← same.1) (
      by_lt_z {P = IsStay (InBasic new.basic) s (whole new.horizon).until stay} s x.from
      (λ lt. let o = out lt in stays-out new.basic new.at.0 (whole new.horizon).until x _ e s le stay o.0 o.1 lt)
      (λ ge. let i = inside ge in stays-in new.basic new.at.0 (whole new.horizon).until x _ e s le stay i.0 i.1 ge reached.1)
      )

-- fewer are left where the first was taken off
pub fewer : (old first new : BasicStays) (x : Interval)
    → ahead_list first.ahead (runs_to_come first.runs) ≡ ahead_list old.ahead (runs_to_come old.runs) → first.ahead ≡ Some x
    → new.ahead ≡ None → new.runs ≡ first.runs
    → length (ahead_list new.ahead (runs_to_come new.runs)) < length (ahead_list old.ahead (runs_to_come old.runs))
fewer old first new x list ahead none runs = rw (← list, ahead, none, runs) (omega arith)

-- an expression that may be asked at a second may be asked at any later one
pub come-later : (e : ExprStays) (s t : ℤ) → s ≤ℤ t → HaveCome s e → HaveCome t e
come-later (Basic b) s t le h = omega (arith, ints, le, h)
come-later (Join' op p left right) s t le h = (come-later left s t le h.0, come-later right s t le h.1)
