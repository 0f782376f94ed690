-- Kept spans beside what a tree still has to hand out, at each step: for `KeptPeriod`.
use Rattle.std.proofs.Common.{◌≡◌, ◌∙◌, ◌⊎◌, inl, inr, sym, ap, subst, List, [], ◌∷◌, ◌++◌, append_assoc, Option}
use Rattle.std.specs.Prelude.{ℤ, MatchOption}
use Rattle.gtd_core.specs.Seconds.{Interval}
use Rattle.gtd_spans.specs.Normal.{IsNormal}
use Rattle.gtd_spans.specs.Skipping.{LeavesOut}
use Rattle.gtd_spans.specs.Sweeping.{Takes}
use Rattle.gtd_kept.proofs.RepeatLemmas.{come-all}
use Rattle.gtd_kept.specs.Kept.{FitsTree, HasKept, CanBeginAgain, IsLapEnded, rest_of, whole_of}
use Rattle.gtd_kept.specs.Repeating.{IsRepeating, to_come}
use Rattle.gtd_kept.specs.facts.RepeatProps.{come-normal}
use Rattle.gtd_kept.specs.declared.repeat.Repeat.{Repeat}
use Rattle.gtd_kept.specs.declared.repeat.Stage.{Stage}
use Rattle.gtd_kept.specs.declared.repeat.Stage.TheVariants.{Learning, Repeating, GivenUp}

-- what repeats was not given up
pub not-given-up : (s : Stage) → IsRepeating s → s ≡ GivenUp → ⊥
not-given-up Learning r e = r
not-given-up (Repeating last) r e = cc
not-given-up GivenUp r e = r

pub given-up-repeats-not : (s : Stage) → s ≡ GivenUp → IsRepeating s → ⊥
given-up-repeats-not s e r = not-given-up s r e

-- where nothing is handed out again, what is to come is what the tree has
pub rest-over : (again : Repeat) (xs : List Interval) → IsLapEnded again → rest_of again xs ≡ to_come again.stage xs
rest-over again xs e = ap (λ (ys : List Interval). ys ++ to_come again.stage xs) e

pub rest-all : (again : Repeat) (xs : List Interval) → IsLapEnded again → (IsRepeating again.stage → ⊥) → rest_of again xs ≡ xs
rest-all again xs e n = rest-over again xs e ∙ come-all again.stage xs n

-- a span of those that are handed out again
pub fits-again : (old new : Repeat) (xs ws : List Interval) (x : Interval) → FitsTree old xs ws → IsRepeating old.stage
    → HasKept new xs → CanBeginAgain new xs → new.told.items ≡ old.told.items → new.stage ≡ old.stage
    → rest_of old xs ≡ x ∷ rest_of new xs → FitsTree new xs ws
fits-again old new xs ws x f r kept ready told stage takes =
    let normal : IsNormal (x ∷ rest_of new xs) = rw takes at f.normal in
    record {
      kept = kept;
      ready = ready;
      whole = λ g. ap (λ (ys : List Interval). ys ++ xs) told ∙ f.whole (not-given-up old.stage r);
      ended = λ n. absurd (n (subst IsRepeating (sym stage) r));
      normal = normal.2;
    }

-- a span of the kept ones
pub fits-turned : (old new : Repeat) (xs ws : List Interval) → IsNormal xs → FitsTree old xs ws → IsRepeating old.stage
    → HasKept new xs → CanBeginAgain new xs → new.told.items ≡ old.told.items → IsLapEnded new → FitsTree new xs ws
fits-turned old new xs ws n f r kept ready told ended = record {
  kept = kept;
  ready = ready;
  whole = λ g. ap (λ (ys : List Interval). ys ++ xs) told ∙ f.whole (not-given-up old.stage r);
  ended = λ no. ended;
  normal = rw (rest-over new xs ended) (come-normal new.stage xs n);
}

-- the list where all that was handed out again is
pub takes-turned : (old mid new : Repeat) (xs : List Interval) (o : Option Interval) → rest_of old xs ≡ to_come old.stage xs
    → mid.stage ≡ old.stage → IsLapEnded new → Takes (to_come mid.stage xs) o (to_come new.stage xs)
    → Takes (rest_of old xs) o (rest_of new xs)
takes-turned old mid new xs o over stage ended takes =
    rw (over, ← stage, rest-over new xs ended) takes

-- the list where a kept span is handed out, or none
pub within-turned : (old new : Repeat) (xs : List Interval) (o : Option Interval) → IsLapEnded old → IsLapEnded new
    → MatchOption o (to_come new.stage xs ≡ to_come old.stage xs) (λ x. to_come old.stage xs ≡ x ∷ to_come new.stage xs)
    → MatchOption o (rest_of new xs ≡ rest_of old xs) (λ x. rest_of old xs ≡ x ∷ rest_of new xs)
within-turned old new xs o before after takes = rw (rest-over old xs before, rest-over new xs after) takes

-- the list where kept spans are left out
pub leaves-turned : (old new : Repeat) (xs : List Interval) (b : ℤ) → IsLapEnded old → IsLapEnded new
    → LeavesOut b (to_come old.stage xs) (to_come new.stage xs) → LeavesOut b (rest_of old xs) (rest_of new xs)
leaves-turned old new xs b before after leaves = rw (rest-over old xs before, rest-over new xs after) leaves

-- a span that is learnt
pub fits-learnt : (old new : Repeat) (xs ws : List Interval) (x : Interval) → FitsTree old (x ∷ xs) ws
    → (IsRepeating old.stage → ⊥) → IsNormal xs → HasKept new xs → CanBeginAgain new xs
    → (IsLapEnded old → IsLapEnded new) → to_come new.stage xs ≡ xs → (old.stage ≡ GivenUp → new.stage ≡ GivenUp)
    → ((new.stage ≡ GivenUp) ⊎ (new.told.items ≡ old.told.items ++ (x ∷ []))) → FitsTree new xs ws
fits-learnt old new xs ws x f n normal kept ready ends all given told =
    let ended : IsLapEnded new = ends (f.ended n) in
    record {
      kept = kept;
      ready = ready;
      whole = λ g. elim told [
        | inl e ↦ absurd (g e)
        | inr e ↦ ap (λ (ys : List Interval). ys ++ xs) e ∙ append_assoc old.told.items (x ∷ []) xs
            ∙ f.whole (λ h. g (given h))
      ];
      ended = λ no. ended;
      normal = rw (rest-over new xs ended, all) normal;
    }

pub takes-learnt : (old new : Repeat) (before xs : List Interval) (x : Interval) → IsLapEnded old
    → (IsRepeating old.stage → ⊥) → IsLapEnded new → before ≡ x ∷ xs → to_come new.stage xs ≡ xs
    → rest_of old before ≡ x ∷ rest_of new xs
takes-learnt old new before xs x eo n en taken all =
    rest-all old before eo n ∙ taken ∙ ap (λ (ys : List Interval). x ∷ ys) (sym (rest-over new xs en ∙ all))

-- what begins again
pub fits-begun : (old new : Repeat) (xs ws : List Interval) → IsNormal ws → FitsTree old xs ws → IsRepeating old.stage
    → IsRepeating new.stage → HasKept new xs → CanBeginAgain new xs → new.told.items ≡ old.told.items
    → rest_of new xs ≡ whole_of old xs → FitsTree new xs ws
fits-begun old new xs ws n f r s kept ready told rest =
    let all = f.whole (not-given-up old.stage r) in
    record {
      kept = kept;
      ready = ready;
      whole = λ g. ap (λ (ys : List Interval). ys ++ xs) told ∙ all;
      ended = λ no. absurd (no s);
      normal = rw (rest ∙ all) n;
    }

-- what was given up fits each tree
pub fits-given-up : (again : Repeat) (xs ws : List Interval) → IsNormal xs → again.stage ≡ GivenUp → IsLapEnded again
    → FitsTree again xs ws
fits-given-up again xs ws n e ended = record {
  kept = rw e tt;
  ready = (again.enough, (λ r. absurd (given-up-repeats-not again.stage e r)));
  whole = λ g. absurd (g e);
  ended = λ no. ended;
  normal = rw (rest-all again xs ended (given-up-repeats-not again.stage e)) n;
}

-- what is to be learnt
pub fits-new : (again : Repeat) (xs ws : List Interval) → IsNormal xs → xs ≡ ws → again.stage ≡ Learning → IsLapEnded again
    → again.told.items ≡ [] → HasKept again xs → FitsTree again xs ws
fits-new again xs ws n is e ended told kept = record {
  kept = kept;
  ready = (again.enough, (λ r. absurd (rw e at r)));
  whole = λ g. ap (λ (ys : List Interval). ys ++ xs) told ∙ is;
  ended = λ no. ended;
  normal = rw (rest-all again xs ended (λ r. rw e at r)) n;
}
