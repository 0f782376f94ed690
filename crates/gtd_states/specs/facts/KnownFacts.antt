-- A change of one element is that of another that is open at the same seconds.
use Rattle.std.proofs.Common.{◌≡◌, refl, subst, ◌↔◌, ℕ, List, Option, Some, None}
use Rattle.std.specs.Prelude.{ℤ, pos, ◌*ℤ◌, MatchOption}
use Rattle.std.specs.List.{Contains}
use Rattle.gtd_core.specs.Seconds.{day_of_second}
use Rattle.gtd_core.specs.declared.second.Sec.{Sec}
use Rattle.gtd_records.specs.Closing.{IsOpen, Restriction}
use Rattle.gtd_rows.specs.declared.direction.DirectedElement.{DirectedElement}
use Rattle.gtd_spans.specs.Change.{IsNextChange, NeverChanges}
use Rattle.gtd_alike.specs.Alike.{AreOpenAlike}
use Rattle.gtd_states.specs.Known.{AreRight, IsRightChange}
use Rattle.gtd_states.specs.States.{IsLookEnd}
use Rattle.gtd_states.specs.declared.known.KnownChange.{KnownChange}
use Rattle.gtd_states.specs.facts.OneState.{one_last}
use Rattle.gtd_states.specs.facts.SomeState.{some_end}

module _ (A B : ℤ → Type 0) (same : (t : ℤ) → A t ↔ B t) (s : ℤ) where
  never_too : (until : ℤ) → NeverChanges A s until → NeverChanges B s until
  never_too until never = λ t later early.
      let h = never t later early in (
        (λ b. (same t).0 (h.0 ((same s).1 b))),
        (λ b. (same s).0 (h.1 ((same t).1 b))),
      )

  change_too : (until c : ℤ) → IsNextChange A s until c → IsNextChange B s until c
  change_too until c next = record {
    later = next.later;
    within = next.within;
    differs = λ h. next.differs (
      (λ a. (same c).1 (h.0 ((same s).0 a))),
      (λ a. (same s).1 (h.1 ((same c).0 a))),
    );
    least = never_too c next.least;
  }

-- what is said of a value by its cases, and by what it is equal to
by_equality : (A : Type 0) (B : Sec → Type 0) (o : Option Sec) → MatchOption o A B
    → (o ≡ None → A) × ((c : Sec) → o ≡ Some c → B c)
by_equality A B None h = ((λ e. h), (λ c e. cc))
by_equality A B (Some d) h = ((λ e. cc), (λ c e. let same : d ≡ c = cc in subst B same h))

by_case : (A : Type 0) (B : Sec → Type 0) (o : Option Sec) → (o ≡ None → A) × ((c : Sec) → o ≡ Some c → B c)
    → MatchOption o A B
by_case A B None h = h.0 refl
by_case A B (Some d) h = h.1 d refl

module _ (found : List Restriction) (vehicle : ℕ) (second : ℤ) where
  pub right_too : (one other : DirectedElement) (change : Option Sec) → AreOpenAlike found vehicle one other
      → IsRightChange found vehicle second one change → IsRightChange found vehicle second other change
  right_too one other change same right = λ last end.
      let a = IsOpen found one.element one.direction vehicle in
      let b = IsOpen found other.element other.direction vehicle in
      let r = right last end in (
        (λ none. never_too a b same second (last *ℤ pos 86400) (r.0 none)),
        (λ c is. change_too a b same second (last *ℤ pos 86400) c.0 (r.1 c is)),
      )

  -- what was found is right
  pub right_found : (at : DirectedElement) (change : Option Sec)
      → ((last : ℤ) × IsLookEnd (day_of_second second) last × MatchOption change
      (NeverChanges (IsOpen found at.element at.direction vehicle) second (last *ℤ pos 86400))
      (λ c. IsNextChange (IsOpen found at.element at.direction vehicle) second (last *ℤ pos 86400) c.0))
      → IsRightChange found vehicle second at change
  right_found at change h = λ last end.
      let set = IsOpen found at.element at.direction vehicle in
      let same = one_last (day_of_second second) h.0 last h.1 end in
      by_equality (NeverChanges set second (last *ℤ pos 86400)) (λ c. IsNextChange set second (last *ℤ pos 86400) c.0) change
      (subst (λ (l : ℤ). MatchOption change (NeverChanges set second (l *ℤ pos 86400))
      (λ c. IsNextChange set second (l *ℤ pos 86400) c.0)) same h.2)

  -- and what is right is what would be found
  pub found_right : (at : DirectedElement) (change : Option Sec) → IsRightChange found vehicle second at change
      → ((last : ℤ) × IsLookEnd (day_of_second second) last × MatchOption change
      (NeverChanges (IsOpen found at.element at.direction vehicle) second (last *ℤ pos 86400))
      (λ c. IsNextChange (IsOpen found at.element at.direction vehicle) second (last *ℤ pos 86400) c.0))
  found_right at change right =
      let e = some_end (day_of_second second) in
      let set = IsOpen found at.element at.direction vehicle in (
        e.0,
        e.1,
        by_case (NeverChanges set second (e.0 *ℤ pos 86400)) (λ c. IsNextChange set second (e.0 *ℤ pos 86400) c.0) change
            (right e.0 e.1),
      )

  -- what is known of one that is listed is right
  pub right_listed : (known : List KnownChange) (one : KnownChange) → AreRight found vehicle second known → Contains known one
      → IsRightChange found vehicle second one.at one.change
  right_listed known one right listed =
      subst (λ (k : KnownChange). IsRightChange found vehicle second k.at k.change) listed.2 (right listed.0 one listed.1)
