-- Expressions that are over, by what they contain before a day by which they end, or by what they repeat.
use Rattle.std.proofs.Common.{◌≡◌, ◌↔◌, sym, subst, ℕ, ◌+◌, ◌*◌, Bool, IsTrue, inl, inr, arith}
use Rattle.std.specs.Prelude.{ℤ, pos, ◌+ℤ◌, ◌≤ℤ◌}
use Rattle.std.proofs.lemmas.Int.{ints, by_lt_z}
use Rattle.gtd_core.specs.Trees.{Tree}
use Rattle.gtd_core.specs.Whole.{from_day}
use Rattle.gtd_core.specs.declared.horizon.Horizon.{Horizon}
use Rattle.gtd_eval.specs.Extent.{IsTreeExtent, first_second}
use Rattle.gtd_eval.specs.Membership.{InTree, SomeGivesYear}
use Rattle.gtd_eval.specs.declared.extent.Extent.TheVariants.{Never, Sometimes, Always}
use Rattle.gtd_eval.specs.facts.Repeats.{behind, repeats-many, tree-repeats}
use Rattle.gtd_mistakes.specs.declared.rule.Rule.{Rule}
use Rattle.gtd_mistakes.specs.declared.rule.Rule.TheVariants as rule
use Rattle.gtd_warnings.specs.Days.{HoldsOn}
use Rattle.gtd_warnings.specs.EndDays.{IsEndedBy}
use Rattle.gtd_warnings.specs.Extents.{HoldsThroughout}
use Rattle.gtd_warnings.specs.Over.{EndsByItsYears, HoldsNoneFrom, HoldsNoneTill, IsKnownForEver, IsOver, first_of_day}

-- ---- seconds before the end

module _ (tree : Tree) (end : ℤ) (ended : IsEndedBy tree end) where
  -- none before the end is none for ever
  pub till_end : (s : ℤ) → HoldsNoneTill tree s (first_of_day end) ↔ HoldsNoneFrom tree s
  till_end s = ((λ none t le h. none t le (ended.each t h) h), (λ none t le lt. none t le))

  -- none comes from the end on
  pub after_end : (day : ℤ) → end ≤ℤ day → HoldsNoneFrom tree (first_of_day day)
  after_end day le t from h = let until = ended.each t h in omega (arith, ints, le, from, until)

  pub by_end : (s : ℤ) (found : Bool) → IsTrue found ↔ HoldsNoneTill tree s (first_of_day end)
      → IsTrue found ↔ HoldsNoneFrom tree s
  by_end s found is = ((λ t. (till_end s).0 (is.0 t)), (λ none. is.1 ((till_end s).1 none)))

  -- none in two parts
  pub by_parts : (s middle : ℤ) (found : Bool) → HoldsNoneTill tree s middle
      → IsTrue found ↔ HoldsNoneTill tree middle (first_of_day end) → s ≤ℤ middle → IsTrue found ↔ HoldsNoneFrom tree s
  by_parts s middle found first is order = (
    (λ true_ t le h. by_lt_z t middle (λ lt. first t le lt h) (λ ge. is.0 true_ t ge (ended.each t h) h)),
    (λ none. is.1 (λ t ge lt. none t (omega (arith, ints, order, ge)))),
  )

-- ---- seconds that come again

module _ (tree : Tree) (no_year : SomeGivesYear tree → ⊥) where
  comes_again : (s t : ℤ) → InTree tree t → (u : ℤ) × (s ≤ℤ u) × InTree tree u
  comes_again s t h =
      by_lt_z {P = (u : ℤ) × (s ≤ℤ u) × InTree tree u} t s
      (λ lt. let b = behind t s lt in
      let k : ℕ = b.0 + 1 in (
        t +ℤ pos (k * 12622780800),
        omega (arith, ints, b.1),
        (repeats-many (InTree tree) (λ u. tree-repeats tree u no_year) k t).0 h,
      ))
      (λ ge. (t, ge, h))

  -- none from one second on is none from any other on
  pub none_from_any : (s u : ℤ) → HoldsNoneFrom tree s → HoldsNoneFrom tree u
  none_from_any s u none t le h = let again = comes_again s t h in none again.0 again.1 again.2

  -- ---- what holds throughout

  pub never : IsTreeExtent tree Never → HoldsThroughout tree rule.NeverHolds
  never none = (inl no_year, (λ t le h. none t (λ y. absurd (no_year y)) h))

  pub always : IsTreeExtent tree Always → HoldsThroughout tree rule.AlwaysHolds
  always all = (no_year, (λ t. all t (λ y. absurd (no_year y))))

  pub sometimes : IsTreeExtent tree Sometimes → (rule : Rule) → HoldsThroughout tree rule → ⊥
  sometimes some rule.NeverHolds h = none_from_any first_second some.0.0 h.1 some.0.0 (omega (arith, ints)) some.0.2
  sometimes some rule.AlwaysHolds h = some.1.2 (h.1 some.1.0)
  sometimes some other h = h

module _ (tree : Tree) (year : SomeGivesYear tree) where
  -- some start gives a year, and the expression does not end by its years
  pub not_known : (EndsByItsYears tree → ⊥) → IsKnownForEver tree → ⊥
  not_known not_ended (inl none) = none year
  not_known not_ended (inr ended) = not_ended ended

  pub not_throughout : (IsOver tree first_second → ⊥) → (rule : Rule) → HoldsThroughout tree rule → ⊥
  not_throughout some rule.NeverHolds h = some h
  not_throughout some rule.AlwaysHolds h = h.0 year
  not_throughout some other h = h

-- ---- what holds on a day

module _ (tree : Tree) (days : Horizon) where
  pub not_on_day : (IsOver tree (first_of_day (from_day days)) → ⊥)
      → (IsOver tree (first_of_day (from_day days +ℤ pos 30)) → ⊥) → (rule : Rule) → HoldsOn rule days tree → ⊥
  not_on_day some later rule.Past h = some h
  not_on_day some later rule.EndsSoon h = later h.1
  not_on_day some later other h = h

  module _ (day soon : ℤ) (is : day ≡ from_day days) (soon_is : soon ≡ from_day days +ℤ pos 30) where
    at_day : (a b : ℤ) → a ≡ b → HoldsNoneFrom tree (first_of_day a) → HoldsNoneFrom tree (first_of_day b)
    at_day a b e none = subst (λ (z : ℤ). HoldsNoneFrom tree (first_of_day z)) e none

    pub over_soon : EndsByItsYears tree → (HoldsNoneFrom tree (first_of_day day) → ⊥) → HoldsNoneFrom tree (first_of_day soon)
        → HoldsOn rule.EndsSoon days tree
    over_soon years some none = (
      (λ over. some (at_day (from_day days) day (sym is) over.1)),
      (inr years, at_day soon (from_day days +ℤ pos 30) soon_is none),
    )

    pub over_late : (HoldsNoneFrom tree (first_of_day day) → ⊥) → (HoldsNoneFrom tree (first_of_day soon) → ⊥)
        → (rule : Rule) → HoldsOn rule days tree → ⊥
    over_late some later =
        not_on_day
        (λ over. some (at_day (from_day days) day (sym is) over.1))
        (λ over. later (at_day (from_day days +ℤ pos 30) soon (sym soon_is) over.1))

  -- an expression that holds at some second from 1901 on and repeats is over by no day
  pub repeats_on : (SomeGivesYear tree → ⊥) → (HoldsThroughout tree rule.NeverHolds → ⊥)
      → (rule : Rule) → HoldsOn rule days tree → ⊥
  repeats_on none some =
      not_on_day
      (λ over. some (over.0, none_from_any tree none (first_of_day (from_day days)) first_second over.1))
      (λ over. some (over.0, none_from_any tree none (first_of_day (from_day days +ℤ pos 30)) first_second over.1))

  -- one that is over by 1901 is over by each day
  pub over_before : IsOver tree first_second → HoldsOn rule.Past days tree
  over_before over =
      let early = days.not_early in (over.0, (λ t le. over.1 t (omega (arith, ints, early, le))))
