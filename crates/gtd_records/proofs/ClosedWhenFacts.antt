-- When an element is closed, as its rows show it place by place, for `closed_direction`. No cursors hold no second, for
-- `open_seconds`.
use Rattle.std.proofs.Common.{◌≡◌, sym, subst, ◌<◌, ◌+◌, false, ℕ, List, [], length}
use Rattle.std.specs.Prelude.{Any, None, Some, Option, is_none, option_map, ℤ, slice_index_or}
use Rattle.gtd_core.specs.Trees.{Tree}
use Rattle.gtd_eval.specs.Cursors.{SomeHolds}
use Rattle.gtd_eval.specs.declared.leaf.Leaf.{Ghosts}
use Rattle.gtd_eval.specs.declared.tree.SweepTree.{SweepTree}
use Rattle.gtd_records.proofs.FoundPlaces.{NoneSoFar, none_more, none_of_seen}
use Rattle.gtd_records.specs.ClosedWhen.{ClosesAlways, ConcernsElement, IsClosedWhen}
use Rattle.gtd_records.specs.Closing.{Concerns, Restriction}
use Rattle.gtd_records.specs.Index.{AllSeen}
use Rattle.gtd_records.specs.declared.closed_when.ClosedWhen.{ClosedWhen}
use Rattle.gtd_records.specs.declared.closed_when.ClosedWhen.TheVariants.{Never, Always, ByDomains}
use Rattle.gtd_rows.specs.declared.direction.Direction.{Direction}
use Rattle.gtd_places.specs.declared.place.RowPlace.{RowPlace}

-- a restriction whose domain is found has one
pub has_domain : {D : Type 0} (f : D → Tree) (found : Option D) (domain : Option Tree) → option_map f found ≡ domain
    → is_none found ≡ false → domain ≡ None → ⊥
has_domain f None domain same some none = cc
has_domain f (Some d) domain same some none = cc

-- no cursors hold no second
pub none_hold : {L : Type 0} {g : Ghosts L} (cs : List (SweepTree L g)) (t : ℤ) → cs ≡ [] → SomeHolds cs t → ⊥
none_hold cs t none h = subst (λ (ds : List _). SomeHolds ds t) none h

module _ (rows : List Restriction) (element : ℕ) (direction : Direction) (vehicle : ℕ) where
  module _ (part : List RowPlace) where
    -- what the restrictions at the first places show, none of which closes the element at every second
    abbrev pub WhenSoFar : ClosedWhen → ℕ → Type 0
    WhenSoFar Never stop = NoneSoFar rows part (ConcernsElement element direction vehicle) stop
    WhenSoFar Always stop = ⊥
    WhenSoFar ByDomains stop =
        Any (ConcernsElement element direction vehicle) rows × NoneSoFar rows part (ClosesAlways element direction vehicle) stop

    -- none of them closes the element at every second
    none_always : (when : ClosedWhen) (stop : ℕ) → WhenSoFar when stop
        → NoneSoFar rows part (ClosesAlways element direction vehicle) stop
    none_always Never stop so = λ k d r lt is has. so k d r lt is (record { names = has.names; concerns = has.concerns })
    none_always Always stop so = absurd so
    none_always ByDomains stop so = so.1

    module _ (i : ℕ) (p : RowPlace) (s : Restriction) (here : i < length part)
        (there : (slice_index_or part i p).row < length rows)
        (at : s ≡ slice_index_or rows (slice_index_or part i p).row s) where
      -- a restriction that does not concern the element in the direction for the vehicle type
      pub when_other : (when : ClosedWhen) → (Concerns direction vehicle s → ⊥) → WhenSoFar when i → WhenSoFar when (i + 1)
      when_other Never not so = none_more rows part _ i p s here there at (λ c. not c.concerns) so
      when_other Always not so = absurd so
      when_other ByDomains not so = (so.0, none_more rows part _ i p s here there at (λ c. not c.concerns) so.1)

      -- one that does, at the seconds of a domain
      pub when_domain : (when : ClosedWhen) → s.element ≡ element → Concerns direction vehicle s → (s.domain ≡ None → ⊥)
          → WhenSoFar when i → WhenSoFar ByDomains (i + 1)
      when_domain when names concerns some so = (
        ((slice_index_or part i p).row, s, there, sym at, record { names = names; concerns = concerns }),
        none_more rows part _ i p s here there at (λ c. some c.always) (none_always when i so),
      )

    -- where the first places have all restrictions of the element, this is so of all
    pub when_all : (when : ClosedWhen) (stop : ℕ) → WhenSoFar when stop → AllSeen rows part element stop
        → IsClosedWhen element direction vehicle rows when
    when_all Never stop so seen = none_of_seen rows part _ element stop (λ r c. c.names) seen so
    when_all Always stop so seen = absurd so
    when_all ByDomains stop so seen = (so.0, none_of_seen rows part _ element stop (λ r c. c.names) seen so.1)
