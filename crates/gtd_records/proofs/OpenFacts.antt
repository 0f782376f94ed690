-- The cursors of the restrictions that close an element, and what they have together.
use Rattle.std.proofs.Common.{refl, zero, suc, sym, subst, arith, inl, inr, length}
use Rattle.std.proofs.Common.{◌≡◌, ◌<◌, ◌≤◌, ◌+◌, ◌⊎◌, ◌↔◌, ℕ, List, [], ◌∷◌, ◌++◌}
use Rattle.std.specs.Prelude.{slice_index_or, ℤ, Result, Ok, Err, IfOk}
use Rattle.gtd_core.specs.Seconds.{Interval, Within}
use Rattle.gtd_core.specs.Whole.{whole}
use Rattle.gtd_core.specs.declared.horizon.Horizon.{Horizon}
use Rattle.gtd_eval.specs.Cursors.{SomeHolds, cursor_list}
use Rattle.gtd_eval.specs.Membership.{IsNormalOver}
use Rattle.gtd_eval.specs.facts.CursorFacts.{some-append}
use Rattle.gtd_eval.specs.declared.leaf.Leaf.{Ghosts}
use Rattle.gtd_eval.specs.declared.tree.SweepTree.{SweepTree}
use Rattle.gtd_spans.specs.Normal.{Holds, IsNormal}
use Rattle.gtd_spans.specs.facts.NormalFor.{normal-for}
use Rattle.gtd_records.proofs.FoundPlaces.{NoneSoFar, none_more, none_of_seen, repeated_closes}
use Rattle.gtd_records.specs.Index.{AllSeen, AreClosing, AreElementPlaces, IsRepeated}
use Rattle.gtd_records.specs.Closing.{Closes, Concerns, HoldsAt, IsClosed, IsOpen, Restriction}
use Rattle.gtd_places.specs.declared.place.RowPlace.{RowPlace}
use Rattle.gtd_rows.specs.declared.direction.Direction.{Direction}

-- one more cursor
pub pushed : {L : Type 0} {g : Ghosts L} (cs : List (SweepTree L g)) (c : SweepTree L g) (t : ℤ)
    → SomeHolds (cs ++ c ∷ []) t ↔ (SomeHolds cs t ⊎ Holds (cursor_list c) t)
pushed cs c t = let i = some-append cs (c ∷ []) t in (
  (λ h. elim (i.0 h) [ inl old ↦ inl old | inr new ↦ elim new [ inl x ↦ inr x | inr z ↦ absurd z ] ]),
  (λ h. i.1 (elim h [ inl old ↦ inl old | inr new ↦ inr (inl new) ])),
)

-- one more on the left, or on the right, of two sets
pub left-more : (A B C H X : Type 0) → C ↔ (A ⊎ H) → H ↔ X → (C ⊎ B) ↔ ((A ⊎ B) ⊎ X)
left-more A B C H X p q = (
  (λ h. elim h [ inl a ↦ elim (p.0 a) [ inl o ↦ inl (inl o) | inr n ↦ inr (q.0 n) ] | inr b ↦ inl (inr b) ]),
  (λ h. elim h [ inl o ↦ elim o [ inl a ↦ inl (p.1 (inl a)) | inr b ↦ inr b ] | inr x ↦ inl (p.1 (inr (q.1 x))) ]),
)

pub right-more : (A B C H X : Type 0) → C ↔ (B ⊎ H) → H ↔ X → (A ⊎ C) ↔ ((A ⊎ B) ⊎ X)
right-more A B C H X p q = (
  (λ h. elim h [ inl a ↦ inl (inl a) | inr c ↦ elim (p.0 c) [ inl o ↦ inl (inr o) | inr n ↦ inr (q.0 n) ] ]),
  (λ h. elim h [ inl o ↦ elim o [ inl a ↦ inl a | inr b ↦ inr (p.1 (inl b)) ] | inr x ↦ inr (p.1 (inr (q.1 x))) ]),
)

-- what lies outside of one set, and then outside of another, lies outside of both
pub outside-both : (W A B C G X : Type 0) → G ↔ (W × (A → ⊥)) → C ↔ B → X ↔ (G × (C → ⊥)) → X ↔ (W × ((A ⊎ B) → ⊥))
outside-both W A B C G X g c x = (
  (λ h. let k = x.0 h in let w = g.0 k.0 in (w.0, (λ s. elim s [ inl a ↦ w.1 a | inr b ↦ k.1 (c.1 b) ]))),
  (λ h. x.1 (g.1 (h.0, (λ a. h.1 (inl a))), (λ k. h.1 (inr (c.0 k))))),
)

-- where one of them is empty, what lies outside of the other
pub outside-right : (W A B C X : Type 0) → (A → ⊥) → C ↔ B → X ↔ (W × (C → ⊥)) → X ↔ (W × ((A ⊎ B) → ⊥))
outside-right W A B C X none c x = (
  (λ h. let k = x.0 h in (k.0, (λ s. elim s [ inl a ↦ none a | inr b ↦ k.1 (c.1 b) ]))),
  (λ h. x.1 (h.0, (λ k. h.1 (inr (c.0 k))))),
)

pub outside-left : (W A B X : Type 0) → (B → ⊥) → X ↔ (W × (A → ⊥)) → X ↔ (W × ((A ⊎ B) → ⊥))
outside-left W A B X none x = (
  (λ h. let k = x.0 h in (k.0, (λ s. elim s [ inl a ↦ k.1 a | inr b ↦ none b ]))),
  (λ h. x.1 (h.0, (λ a. h.1 (inl a)))),
)

module _ (rows : List Restriction) (part : List RowPlace) (element : ℕ) (direction : Direction) (vehicle : ℕ)
    (horizon : Horizon) where
  -- of the seconds of the horizon, the set has those of the restrictions at the first places that close the element
  pub record AreClosingSoFar (stop : ℕ) (set : ℤ → Type 0) : Type 0 where
    pub sound : (t : ℤ) → set t → IsClosed rows element direction vehicle t
    pub complete : (t : ℤ) → Within (whole horizon) t → (set t → ⊥)
        → NoneSoFar rows part (Closes element direction vehicle t) stop

  -- there are none before the first
  pub none_closing : (set : ℤ → Type 0) → ((t : ℤ) → set t → ⊥) → AreClosingSoFar 0 set
  none_closing set none = record {
    sound = λ t h. absurd (none t h);
    complete = λ t within not k d r lt is has. absurd (omega (arith, lt));
  }

  -- a restriction adds nothing that concerns nothing asked for, or that is repeated
  pub same_cursors : (i : ℕ) (set : ℤ → Type 0) (p : RowPlace) (s : Restriction)
      → AreElementPlaces rows element part
      → i < length part → s ≡ slice_index_or rows (slice_index_or part i p).row s
      → (Concerns direction vehicle s → IsRepeated rows part direction vehicle i s.domain) → AreClosingSoFar i set
      → AreClosingSoFar (i + 1) set
  same_cursors i set p s placed here at again are = record {
    sound = are.sound;
    complete = λ t within not. none_more rows part _ i p s here (placed.sound i p here).0 at
        (λ c. let r = again c.concerns in
        are.complete t within not r.before r.place r.row r.early
        (subst (λ (q : RowPlace). slice_index_or rows q.row r.row ≡ r.row) (sym r.at) r.stands)
        (repeated_closes rows part element direction vehicle i s.domain t placed (omega arith) r c.holds))
        (are.complete t within not);
  }

  -- one that does adds its seconds
  pub one_cursor : (i : ℕ) (old new : ℤ → Type 0) (p : RowPlace) (s : Restriction) → i < length part
      → (slice_index_or part i p).row < length rows
      → s ≡ slice_index_or rows (slice_index_or part i p).row s → s.element ≡ element → Concerns direction vehicle s
      → ((t : ℤ) → new t ↔ (old t ⊎ (Within (whole horizon) t × HoldsAt s.domain t)))
      → AreClosingSoFar i old → AreClosingSoFar (i + 1) new
  one_cursor i old new p s here there at names concerns is are = record {
    sound = λ t h. elim ((is t).0 h) [
      | inl before ↦ are.sound t before
      | inr added ↦ (
        (slice_index_or part i p).row,
        s,
        there,
        sym at,
        record { names = names; concerns = concerns; holds = added.1 },
      )
    ];
    complete = λ t within not. none_more rows part _ i p s here there at
        (λ q. not ((is t).1 (inr (within, q.holds))))
        (are.complete t within (λ before. not ((is t).1 (inl before))));
  }

  -- where the first places have all restrictions of the element, these are the seconds at which it is closed
  pub are_closing : (stop : ℕ) (set : ℤ → Type 0) → AreClosingSoFar stop set → AllSeen rows part element stop
      → AreClosing rows element direction vehicle horizon set
  are_closing stop set are seen = record {
    sound = are.sound;
    complete = λ t within not.
        none_of_seen rows part _ element stop (λ r closes. closes.names) seen (are.complete t within not);
  }

-- what lies outside of all that is closed is open
pub open_normal : (rows : List Restriction) (element : ℕ) (direction : Direction) (vehicle : ℕ) (horizon : Horizon)
    (set : ℤ → Type 0) (spare : List Interval) → AreClosing rows element direction vehicle horizon set
    → ((t : ℤ) → Holds spare t ↔ (Within (whole horizon) t × (set t → ⊥)))
    → IsNormal spare → IsNormalOver (IsOpen rows element direction vehicle) horizon spare
open_normal rows element direction vehicle horizon set spare are outside normal =
    normal-for (IsOpen rows element direction vehicle) (whole horizon).from (whole horizon).until spare normal
    (λ t. (
      (λ h. let o = (outside t).0 h in (o.0.0, o.0.1, are.complete t o.0 o.1)),
      (λ q. (outside t).1 ((q.0, q.1), (λ h. q.2 (are.sound t h)))),
    ))

-- few cursors that are united have few nodes
pub few-united : (n total nodes limit : ℕ) → (n ≡ 0 → nodes ≡ 1) → (0 < n → nodes + 1 ≡ total + n) → total + n ≤ limit
    → 1 < limit → nodes < limit
few-united zero total nodes limit none some le large = omega (arith, none refl, large)
few-united (suc n) total nodes limit none some le large = omega (arith, some (omega arith), le)

pub ok_both : {T E : Type 0} {P Q R : T → Type 0} (r : Result T E) → IfOk r P → IfOk r Q → ((x : T) → P x → Q x → R x) → IfOk r R
ok_both (Ok x) p q h = h x p q
ok_both (Err e) p q h = tt
