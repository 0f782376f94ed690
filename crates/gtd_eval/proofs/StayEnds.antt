-- The first change of a basic domain after a second, by its next start or the end of its stretches.
use Rattle.std.proofs.Common.{◌≡◌, subst, arith, ℤ, pos, negsuc, ◌*ℤ◌, ◌<ℤ◌, ◌≤ℤ◌}
use Rattle.std.specs.Prelude.{IsTrue}
use Rattle.std.proofs.lemmas.Int.{ints, by_lt_z}
use Rattle.gtd_core.specs.Seconds.{IsOnDay, day_of_second}
use Rattle.gtd_core.specs.declared.duration.DurationParts.{DurationParts}
use Rattle.gtd_core.specs.declared.start.StartParts.{StartParts}
use Rattle.gtd_spans.specs.Change.{NeverChanges, SameAt}
use Rattle.gtd_recur.specs.Begins.{begins}
use Rattle.gtd_recur.specs.Changes.{IsFirstFree, IsNextStart, NoneStarts}
use Rattle.gtd_recur.specs.Membership.{InStretches}
use Rattle.gtd_recur.specs.facts.MembershipLemmas.{from_computed, to_computed}
use Rattle.gtd_eval.specs.Stays.{IsStayEnd}

on-day : (z : ℤ) → IsOnDay z (day_of_second z)
unfolding day_of_second
on-day (pos a) = (omega (arith, ints), omega (arith, ints))
on-day (negsuc a) = (omega (arith, ints), omega (arith, ints))

-- a second before the first one of a day is on an earlier day
pub day-before : (s to : ℤ) → s <ℤ (to *ℤ pos 86400) → day_of_second s <ℤ to
day-before s to before = let on = (on-day s).0 in omega (arith, ints, on, before)

-- and the other way round
pub before-day : (s to : ℤ) → day_of_second s <ℤ to → s <ℤ (to *ℤ pos 86400)
before-day s to before = let on = (on-day s).1 in omega (arith, ints, on, before)

module _ (p : StartParts) (q : DurationParts) (s : ℤ) (out : InStretches p q s → ⊥) where
  -- what is not held at a second is not held later, until a stretch begins
  free-on : (t : ℤ) → s <ℤ t → ((b : ℤ) → IsTrue (begins p b) → s <ℤ b → b ≤ℤ t → ⊥) → SameAt (InStretches p q) s t
  free-on t after none = (
    (λ h. absurd (out h)),
    (λ h. absurd (
        let k = to_computed p q t h in
        let to = k.1.2 in
        by_lt_z {P = ⊥} s k.0 (λ lt. none k.0 k.1.0 lt k.1.1)
        (λ le. out (from_computed p q s (k.0, (k.1.0, le, omega (arith, ints, after, to)))))
        )),
  )

  -- it changes at the next start, if that is held
  pub end-at-start : (b last : ℤ) → IsNextStart p s b → InStretches p q b → b <ℤ last → IsStayEnd (InStretches p q) s last b
  end-at-start b last n held before = record {
    later = n.later;
    within = omega (arith, ints, before);
    same = λ t after early. free-on t after (λ c begun later le. n.none c begun later (omega (arith, ints, le, early)));
    far = λ v within never. by_lt_z {P = v ≤ℤ b} b v (λ lt. absurd (out ((never b n.later lt).1 held))) (λ ge. ge);
  }

  -- and does not, if there is none
  pub end-without-start : (to : ℤ) → NoneStarts p s to → s <ℤ (to *ℤ pos 86400)
      → IsStayEnd (InStretches p q) s (to *ℤ pos 86400) (to *ℤ pos 86400)
  end-without-start to none before = record {
    later = before;
    within = omega (arith, ints);
    same = λ t after early. free-on t after
        (λ c begun later le. none c begun later (day-before c to (omega (arith, ints, le, early))));
    far = λ v within never. within;
  }

-- what is held from a second on changes at the first second that is not
pub end-of-held : (set : ℤ → Type 0) (s until last u : ℤ) → set s → until ≤ℤ last → IsFirstFree set s until u → u <ℤ until
    → IsStayEnd set s last u
end-of-held set s until last u held le first early =
    let low = first.low in
    let later : s <ℤ u = by_lt_z {P = s <ℤ u} s u (λ lt. lt)
    (λ ge. absurd (let e : s ≡ u = omega (arith, ints, ge, low) in first.free early (subst set e held))) in
    record {
      later = later;
      within = omega (arith, ints, early, le);
      same = λ t after before. (
        (λ h. first.held t (omega (arith, ints, after)) before),
        (λ h. held),
      );
      far = λ v within never. by_lt_z {P = v ≤ℤ u} u v (λ lt. absurd (first.free early ((never u later lt).0 held))) (λ ge. ge);
    }

-- and never, if all are held
pub held-to-end : (set : ℤ → Type 0) (s until u : ℤ) → set s → IsFirstFree set s until u → until ≤ℤ u → NeverChanges set s until
held-to-end set s until u held first past = λ t after before. (
  (λ h. first.held t (omega (arith, ints, after)) (omega (arith, ints, before, past))),
  (λ h. held),
)
