-- Gaps that were handed on, and what was handed on of the result of a sweep: for `Gaps` and `each_gap`.
use Rattle.std.proofs.Common.{◌≡◌, ◌∙◌, refl, inl, inr, List, [], ◌∷◌, arith}
use Rattle.std.specs.Prelude.{◌≤◌, ℕ, Bool, true, false, length, Some}
use Rattle.gtd_core.specs.Seconds.{Interval}
use Rattle.gtd_spans.specs.Sweeping.{still, AwaitsLeft, Fits, HasOneSide, TakesOffLeft, unended_sides}
use Rattle.gtd_spans.specs.declared.sweep.Sweep.{Sweep}
use Rattle.gtd_eval.specs.Gaps.{TakesGap, TookGaps}
use Rattle.gtd_eval.specs.Taking.{CarriesOn, HandsOn, TakesSome}
use Rattle.gtd_eval.proofs.WithinFacts.{one-on, rest-no-more, some-first}

-- the taker took the gap before an interval
pub took-gap : {E T : Type 0} (is_ready : E → T → List Interval → Type 0) (takes : E → T → Interval → E → T → Bool → Type 0)
    (into after : E) (s t : Sweep) (name : ℕ) (taker then : T) (x gap : Interval) (all : Bool)
    → HasOneSide t → AwaitsLeft t → unended_sides t ≤ unended_sides s → TakesOffLeft s x (Some gap) t
    → takes into taker gap after then all
    → (all ≡ true → (more : List Interval) → is_ready into taker (gap ∷ more) → is_ready after then more)
    → TakesGap is_ready takes into s name taker x after t name then all
took-gap is_ready takes into after s t name taker then x gap all one awaits count off took ready = record {
  kept = refl;
  one_side = one;
  awaits = awaits;
  count = count;
  fits = λ more f. (off more [] f).0;
  some = λ more f. some-first takes (still s (x ∷ more) []) (gap ∷ []) (still t more []) into after taker then all
      (off more [] f).1 (one-on takes gap into after taker then all took);
  no_more = λ more f. rest-no-more (still s (x ∷ more) []) (gap ∷ []) (still t more []) (off more [] f).1;
  ready = λ yes more f r. ready yes (still t more []) (rw (off more [] f).1 at r);
}

-- after what the taker took, what it takes of the others it takes of all
some-then : {E T : Type 0} (takes : E → T → Interval → E → T → Bool → Type 0) (list mid left : List Interval)
    (into next after : E) (taker more then : T) (all : Bool) → CarriesOn takes mid next more list into taker
    → TakesSome takes mid next more left after then all → TakesSome takes list into taker left after then all
some-then takes list mid left into next after taker more then true on rest = λ l a t b h. on l a t b (rest l a t b h)
some-then takes list mid left into next after taker more then false on rest = on left after then false rest

no-more-then : (a b c : ℕ) → b ≤ a → c ≤ b → c ≤ a
no-more-then a b c h k = omega (arith, h, k)

module _ {E G T : Type 0} (is_ready : E → T → List Interval → Type 0) (takes : E → T → Interval → E → T → Bool → Type 0)
    (sweep : G → Sweep) (name : G → ℕ) (taker : G → T) where
  abbrev pub GapTakes : E → G → Interval → E → G → Bool → Type 0
  GapTakes into g x after h all =
      TakesGap is_ready takes into (sweep g) (name g) (taker g) x after (sweep h) (name h) (taker h) all

  pub gaps-on : (list left : List Interval) (into after : E) (g h : G) (all : Bool) → HandsOn GapTakes list into g left after h all
      → HasOneSide (sweep g) → AwaitsLeft (sweep g) → Fits (sweep g) list []
      → (name g ≡ name h) × TookGaps is_ready takes list left into after (sweep g) (sweep h) (taker g) (taker h) all
  gaps-on [] left into after g h all on one awaits fits = rw (on.0, on.1, on.2, on.3) (
    refl,
    record {
      one_side = one;
      awaits = awaits;
      count = omega (arith);
      fits = fits;
      some = λ l a t b k. k;
      no_more = omega (arith);
      fewer = omega (arith);
      ready = λ yes r. r;
    },
  )
  gaps-on (x ∷ xs) left into after g h all on one awaits fits =
      elim on [
        | inl stops ↦ rw (stops.1, stops.2) (
          stops.0.kept,
          record {
            one_side = stops.0.one_side;
            awaits = stops.0.awaits;
            count = stops.0.count;
            fits = stops.0.fits xs fits;
            some = stops.0.some xs fits;
            no_more = stops.0.no_more xs fits;
            fewer = omega (arith);
            ready = λ yes r. stops.0.ready yes xs fits r;
          },
        )
        | inr goes ↦
            let step = goes.2 in
            let both = gaps-on xs left goes.0 after goes.1 h all goes.3 step.one_side step.awaits (step.fits xs fits) in
            let rest = both.1 in (
              step.kept ∙ both.0,
              record {
                one_side = rest.one_side;
                awaits = rest.awaits;
                count = no-more-then _ _ _ step.count rest.count;
                fits = rest.fits;
                some = some-then takes (still (sweep g) (x ∷ xs) []) (still (sweep goes.1) xs []) (still (sweep h) left [])
                    into goes.0 after (taker g) (taker goes.1) (taker h) all (step.some xs fits) rest.some;
                no_more = no-more-then _ _ _ (step.no_more xs fits) rest.no_more;
                fewer = (let few = rest.fewer in omega (arith, few));
                ready = λ yes r. rest.ready yes (step.ready refl xs fits r);
              },
            )
      ]
