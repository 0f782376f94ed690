-- Records that repeat after a period, found place by place.
use Rattle.std.proofs.Common.{◌≡◌, true, sym, subst, arith, ◌<◌, inl, inr, ◌↔◌, ℕ, List, [], ◌∷◌, ◌++◌, length}
use Rattle.std.specs.Prelude.{ℤ, ◌+ℤ◌, ◌≤ℤ◌, slice_index_or, Option, Some, None, is_some, IfSome}
use Rattle.gtd_eval.specs.Periods.{Period, Week, period_seconds, RepeatsFrom}
use Rattle.gtd_eval.specs.facts.PeriodFacts.{from-longer, short-period}
use Rattle.std.proofs.lemmas.Int.{ints}
use Rattle.gtd_core.specs.Seconds.{Interval, Within}
use Rattle.gtd_core.specs.Whole.{whole}
use Rattle.gtd_core.specs.declared.horizon.Horizon.{Horizon}
use Rattle.gtd_spans.specs.Normal.{Holds}
use Rattle.gtd_eval.specs.Ever.{week}
use Rattle.gtd_eval.specs.Cursors.{SomeHolds, cursor_list}
use Rattle.gtd_eval.specs.declared.leaf.Leaf.{Ghosts}
use Rattle.gtd_eval.specs.declared.tree.SweepTree.{SweepTree}
use Rattle.gtd_records.specs.Closing.{Concerns, HoldsAt, IsClosed, IsOpen, Restriction}
use Rattle.gtd_rows.specs.declared.direction.Direction.{Direction}
use Rattle.gtd_records.specs.ClosingCursors.{RepeatIn}
use Rattle.gtd_records.specs.Index.{AllSeen}
use Rattle.gtd_records.proofs.OpenFacts.{pushed}
use Rattle.gtd_records.specs.RowPlaces.{place_of}
use Rattle.gtd_places.specs.declared.place.RowPlace.{RowPlace}

-- the restrictions at the first places repeat from a period on, as far as they close the element
abbrev pub RepeatSoFar : Period → List Restriction → List RowPlace → ℕ → Direction → ℕ → ℕ → Type 0
RepeatSoFar x rows part element direction vehicle stop =
    (k : ℕ) (d : RowPlace) (r : Restriction) → k < stop → slice_index_or rows (slice_index_or part k d).row r ≡ r
    → r.element ≡ element → Concerns direction vehicle r → RepeatsFrom x (HoldsAt r.domain)

-- and from a longer one on
pub so-far-longer : (x y : Period) (rows : List Restriction) (part : List RowPlace) (element : ℕ) (direction : Direction)
    (vehicle stop : ℕ) → period_seconds x ≤ℤ period_seconds y → RepeatSoFar x rows part element direction vehicle stop
    → RepeatSoFar y rows part element direction vehicle stop
so-far-longer x y rows part element direction vehicle stop le so = λ k d r less is name concerns.
    from-longer x y (HoldsAt r.domain) le (so k d r less is name concerns)

-- where these are all of the element, so do the seconds in which it is closed
pub all_repeat : (x : Period) (rows : List Restriction) (part : List RowPlace) (element : ℕ) (direction : Direction)
    (vehicle stop : ℕ)
    → RepeatSoFar x rows part element direction vehicle stop
    → AllSeen rows part element stop
    → RepeatsFrom x (IsClosed rows element direction vehicle)
all_repeat x rows part element direction vehicle stop so placed y le t = (
  moved t (t +ℤ period_seconds y) (λ row r w s n c. (own row r w s n c y le t).0),
  moved (t +ℤ period_seconds y) t (λ row r w s n c. (own row r w s n c y le t).1),
)
  where
    own : (row : ℕ) (r : Restriction) → row < length rows → slice_index_or rows row r ≡ r → r.element ≡ element
        → Concerns direction vehicle r → RepeatsFrom x (HoldsAt r.domain)
    own row r within stands names concerns =
        let p = placed row r within stands names in
        so p.0 (place_of r row) r p.1
        (subst (λ (q : RowPlace). slice_index_or rows q.row r ≡ r) (sym p.2) stands) names concerns

    -- closed at one second, and so at another
    moved : (a b : ℤ)
        → ((row : ℕ) (r : Restriction) → row < length rows → slice_index_or rows row r ≡ r → r.element ≡ element
        → Concerns direction vehicle r → HoldsAt r.domain a → HoldsAt r.domain b)
        → IsClosed rows element direction vehicle a → IsClosed rows element direction vehicle b
    moved a b holds is =
        let k = is.4 in (
          is.0,
          is.1,
          is.2,
          is.3,
          record {
            names = k.names;
            concerns = k.concerns;
            holds = holds is.0 is.1 is.2 is.3 k.names k.concerns k.holds;
          },
        )

-- and those in which it is open
pub opened : (rows : List Restriction) (element : ℕ) (direction : Direction) (vehicle : ℕ) (w : ℤ)
    → ((t : ℤ) → IsClosed rows element direction vehicle t ↔ IsClosed rows element direction vehicle (t +ℤ w))
    → (t : ℤ) → IsOpen rows element direction vehicle t ↔ IsOpen rows element direction vehicle (t +ℤ w)
opened rows element direction vehicle w same t =
    ((λ free closed. free ((same t).1 closed)), (λ free closed. free ((same t).0 closed)))

-- what repeats after some period repeats weekly
pub if-weekly : (o : Option Period) (set : ℤ → Type 0) → is_some o ≡ true → IfSome o (λ x. RepeatsFrom x set)
    → (t : ℤ) → set t ↔ set (t +ℤ week)
if-weekly None set is r t = absurd (cc)
if-weekly (Some x) set is r t = r Week (short-period x) t

-- no cursors repeat
pub none-repeat : {L : Type 0} {g : Ghosts L} (horizon : Horizon) (x : Period) (cs : List (SweepTree L g)) → cs ≡ []
    → RepeatIn horizon x cs
none-repeat horizon x cs none = λ y le t now later.
    subst (λ (ds : List _). SomeHolds ds t ↔ SomeHolds ds (t +ℤ period_seconds y)) (sym none)
    ((λ h. absurd h), (λ h. absurd h))

-- cursors that repeat, and one more of what repeats, repeat after a period that is no shorter than those of both
pub more-repeat : {L : Type 0} {g : Ghosts L} (horizon : Horizon) (x y z : Period) (cs : List (SweepTree L g))
    (c : SweepTree L g) (set : ℤ → Type 0)
    → period_seconds x ≤ℤ period_seconds z → period_seconds y ≤ℤ period_seconds z
    → ((t : ℤ) → Holds (cursor_list c) t ↔ (Within (whole horizon) t × set t)) → RepeatsFrom y set → RepeatIn horizon x cs
    → RepeatIn horizon z (cs ++ c ∷ [])
more-repeat horizon x y z cs c set first second is repeats are = λ p longer t now later.
    let old = are p (omega (arith, ints, first, longer)) t now later in
    let new = repeats p (omega (arith, ints, second, longer)) t in (
      (λ h. (pushed cs c (t +ℤ period_seconds p)).1 (elim ((pushed cs c t).0 h) [
        | inl k ↦ inl (old.0 k)
        | inr k ↦ inr ((is (t +ℤ period_seconds p)).1 (later, new.0 ((is t).0 k).1))
      ])),
      (λ h. (pushed cs c t).1 (elim ((pushed cs c (t +ℤ period_seconds p)).0 h) [
        | inl k ↦ inl (old.1 k)
        | inr k ↦ inr ((is t).1 (now, new.1 ((is (t +ℤ period_seconds p)).0 k).1))
      ])),
    )

-- and so does what they leave of the horizon
pub gaps-repeat : {L : Type 0} {g : Ghosts L} (horizon : Horizon) (x : Period) (cs : List (SweepTree L g))
    (closed gaps : List Interval) → RepeatIn horizon x cs → ((t : ℤ) → Holds closed t ↔ SomeHolds cs t)
    → ((t : ℤ) → Holds gaps t ↔ (Within (whole horizon) t × (Holds closed t → ⊥)))
    → (t : ℤ) → Within (whole horizon) t → Within (whole horizon) (t +ℤ period_seconds x)
    → Holds gaps t ↔ Holds gaps (t +ℤ period_seconds x)
gaps-repeat horizon x cs closed gaps are any outside t now later =
    let w = period_seconds x in
    let same = are x (omega (arith, ints)) t now later in (
      (λ h. (outside (t +ℤ w)).1 (later, (λ k. ((outside t).0 h).1 ((any t).1 (same.1 ((any (t +ℤ w)).0 k)))))),
      (λ h. (outside t).1 (now, (λ k. ((outside (t +ℤ w)).0 h).1 ((any (t +ℤ w)).1 (same.0 ((any t).0 k)))))),
    )
