-- The one row at whose seconds an element is closed, found place by place; and the changes of what is outside of a domain.
use Rattle.std.proofs.Common.{◌≡◌, ◌∙◌, false, refl, sym, ap, subst, arith, ◌<◌, ◌+◌, ◌⊎◌, inl, inr, ◌↔◌, ℕ}
use Rattle.std.proofs.Common.{List, length, Option, Some, None}
use Rattle.std.specs.Prelude.{ℤ, ◌<ℤ◌, IfSome, MatchOption, slice_index_or, option_map, is_some}
use Rattle.gtd_core.specs.Parts.{domain_tree}
use Rattle.gtd_core.specs.Trees.{Tree}
use Rattle.gtd_core.specs.declared.domain.Domain.{Domain}
use Rattle.gtd_core.specs.declared.second.Sec.{Sec}
use Rattle.gtd_core.specs.facts.Deciding.{Decided}
use Rattle.gtd_eval.specs.Membership.{InDomain, InTree}
use Rattle.gtd_eval.specs.facts.TreeDecisions.{in_tree}
use Rattle.gtd_spans.specs.Change.{IsNextChange, NeverChanges, SameAt}
use Rattle.gtd_records.specs.facts.IndexFacts.{one_record}
use Rattle.gtd_records.specs.Index.{AllSeen, IsSoleRow}
use Rattle.gtd_records.proofs.StayFacts.{ClosesSoFar, all_seconds}
use Rattle.gtd_records.specs.Closing.{HoldsAt, IsClosed, IsOpen, Restriction}
use Rattle.gtd_rows.specs.declared.direction.Direction.{Direction}
use Rattle.gtd_places.specs.declared.place.RowPlace.{RowPlace}

module _ (rows : List Restriction) (part : List RowPlace) (element : ℕ) (direction : Direction) (vehicle : ℕ) where
  -- at the seconds of which row alone the restrictions at the first places close the element, or at none
  abbrev pub SoleSoFar : Option ℕ → ℕ → Type 0
  SoleSoFar None stop = (t : ℤ) → ClosesSoFar rows part element direction vehicle stop t → ⊥
  SoleSoFar (Some row) stop = (row < length rows) × ((r : Restriction) → r ≡ slice_index_or rows row r → (t : ℤ)
      → ClosesSoFar rows part element direction vehicle stop t ↔ HoldsAt r.domain t)

  -- another place that adds nothing
  pub sole_kept : (o : Option ℕ) (i j : ℕ)
      → ((t : ℤ) → ClosesSoFar rows part element direction vehicle i t ↔ ClosesSoFar rows part element direction vehicle j t)
      → SoleSoFar o i → SoleSoFar o j
  sole_kept None i j same none = λ t c. none t ((same t).1 c)
  sole_kept (Some row) i j same is = (
    is.0,
    λ r at t. (
      (λ c. (is.1 r at t).0 ((same t).1 c)),
      (λ h. (same t).0 ((is.1 r at t).1 h)),
    ),
  )

  -- the first one that adds something
  pub sole_first : (o : Option ℕ) (i j row : ℕ) (s : Restriction) → o ≡ None → row < length rows → s ≡ slice_index_or rows row s
      → ((t : ℤ) → (ClosesSoFar rows part element direction vehicle i t ⊎ HoldsAt s.domain t)
      ↔ ClosesSoFar rows part element direction vehicle j t)
      → SoleSoFar o i → SoleSoFar (Some row) j
  sole_first o i j row s first within at more so = (
    within,
    λ r is t.
        let same : r ≡ s = one_record rows row r s within (sym is) at in (
          (λ c. elim ((more t).1 c) [
            | inl old ↦ absurd (none t old)
            | inr h ↦ subst (λ (x : Restriction). HoldsAt x.domain t) (sym same) h
          ]),
          (λ h. (more t).0 (inr (subst (λ (x : Restriction). HoldsAt x.domain t) same h))),
        ),
  )
    where
      none : (t : ℤ) → ClosesSoFar rows part element direction vehicle i t → ⊥
      none = subst (λ (x : Option ℕ). SoleSoFar x i) first so

  -- where these are all of the element, that row is its one
  pub sole_of_all : (o : Option ℕ) (stop : ℕ) → AllSeen rows part element stop → SoleSoFar o stop
      → IfSome o (IsSoleRow rows element direction vehicle)
  sole_of_all None stop seen so = tt
  sole_of_all (Some row) stop seen so =
      let all = all_seconds rows part element direction vehicle stop seen in
      record {
        within = so.0;
        closes = λ r at t. ((λ c. (so.1 r at t).0 ((all t).1 c)), (λ h. (all t).0 ((so.1 r at t).1 h)));
      }

-- none was found
pub is_none_found : {D : Type 0} (o : Option D) → is_some o ≡ false → o ≡ None
is_none_found None free = refl
is_none_found (Some d) free = cc

-- an element that is closed at the seconds of a domain alone is open at the others
module _ (domain : Domain) (closed : ℤ → Type 0) (same : (t : ℤ) → closed t ↔ InDomain domain t) where
  outside : (s t : ℤ) → SameAt (InDomain domain) s t → SameAt (λ u. closed u → ⊥) s t
  outside s t is = (
    (λ free c. free ((same s).1 (is.1 ((same t).0 c)))),
    (λ free c. free ((same t).1 (is.0 ((same s).0 c)))),
  )

  inside : (s t : ℤ) → SameAt (λ u. closed u → ⊥) s t → SameAt (InDomain domain) s t
  inside s t is = (
    (λ h. elim (in_tree (domain_tree domain) t) [
      | inl holds ↦ holds
      | inr not ↦ absurd (is.1 (λ c. not ((same t).0 c)) ((same s).1 h))
    ]),
    (λ h. elim (in_tree (domain_tree domain) s) [
      | inl holds ↦ holds
      | inr not ↦ absurd (is.0 (λ c. not ((same s).0 c)) ((same t).1 h))
    ]),
  )

  pub changes_outside : (s until : ℤ) (o : Option Sec)
      → MatchOption o (NeverChanges (InDomain domain) s until) (λ c. IsNextChange (InDomain domain) s until c.0)
      → MatchOption o (NeverChanges (λ u. closed u → ⊥) s until) (λ c. IsNextChange (λ u. closed u → ⊥) s until c.0)
  changes_outside s until None never = λ t after before. outside s t (never t after before)
  changes_outside s until (Some c) is = record {
    later = is.later;
    within = is.within;
    differs = λ q. is.differs (inside s c.0 q);
    least = λ t after before. outside s t (is.least t after before);
  }

-- the seconds of a row's domain
pub of_domain : {D : Type 0} (f : D → Tree) (rows : List Restriction) (element : ℕ) (direction : Direction) (vehicle row : ℕ)
    (r : Restriction) (o : Option D)
    → IsSoleRow rows element direction vehicle row → r ≡ slice_index_or rows row r → option_map f o ≡ r.domain
    → IfSome o (λ d. (t : ℤ) → IsClosed rows element direction vehicle t ↔ InTree (f d) t)
of_domain f rows element direction vehicle row r None sole at is = tt
of_domain f rows element direction vehicle row r (Some d) sole at is = λ t.
    subst (λ (x : Option Tree). IsClosed rows element direction vehicle t ↔ HoldsAt x t) (sym is) (sole.closes r at t)
