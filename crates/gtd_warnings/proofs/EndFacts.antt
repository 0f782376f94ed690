-- The day that is computed is one before which the expression ends by its years, and there is none if it need not end by them.
use Rattle.std.proofs.Common.{◌≡◌, ℕ, ◌+◌, ◌/◌, ◌≤◌, Bool, true, false, cond, Option, Some, None, MatchOption, inl, inr}
use Rattle.std.proofs.Common.{◌∙◌, refl, sym, arith}
use Rattle.std.specs.Prelude.{ℤ, pos, neg_ℤ, ◌<ℤ◌, ◌≤ℤ◌, int_lt, nat_le}
use Rattle.std.proofs.lemmas.Bool.{leb-true, le-leb, false≢true}
use Rattle.std.proofs.lemmas.Int.{ints, by_lt_z}
use Rattle.gtd_core.specs.Limits.{horizons_end}
use Rattle.gtd_core.specs.Ranges.{IsDuration, bound_of, lookback_of}
use Rattle.gtd_core.specs.Trees.{AreValid, Tree, Single, Joined}
use Rattle.gtd_core.specs.declared.duration.DurationParts.{DurationParts}
use Rattle.gtd_core.specs.declared.start.StartParts.{StartParts}
use Rattle.gtd_core.specs.declared.domain.Op.TheVariants.{Union, Meet, Minus}
use Rattle.gtd_eval.specs.Membership.{InTree}
use Rattle.gtd_warnings.specs.EndDays.{IsEndedBy, basic_end, day_after_year, earlier, end_day, end_of_both, end_of_either, later}
use Rattle.gtd_warnings.specs.Over.{EndsByItsYears, first_of_day, last_sure_year}
use Rattle.gtd_warnings.proofs.YearFacts.{ends_before}

-- the day is found, or there is none
abbrev pub IsEndOf : Tree → Option ℤ → Type 0
IsEndOf tree day = MatchOption day (EndsByItsYears tree → ⊥) (IsEndedBy tree)

lookback_few : (q : DurationParts) → IsDuration q → lookback_of q ≤ 36600
lookback_few q h = few (bound_of q) h.1
  where
    few : (n : ℕ) → n ≤ 3162240000 → (n + 86399) / 86400 ≤ 36600
    few n le = omega arith

module _ (start : StartParts) (duration : DurationParts) (valid : IsDuration duration) (year : ℕ)
    (is : start.year ≡ Some year) where
  sure : year ≤ last_sure_year → IsEndedBy (Single start duration) (day_after_year year (lookback_of duration))
  sure le =
      let few = lookback_few duration valid in
      let range = in_range year (lookback_of duration) le few in
      record {
        years = rw is le;
        each = λ t h. ends_before start duration t year is h;
        early = range.0;
        late = range.1;
      }
    where
      in_range : (year days : ℕ) → year ≤ 2598 → days ≤ 36600 → (neg_ℤ (pos 1_000_000) ≤ℤ day_after_year year days)
          × (day_after_year year days ≤ℤ horizons_end)
      in_range year days le few = (omega (arith, ints), omega (arith, ints))

  by_year : (t : Bool) → nat_le year last_sure_year ≡ t
      → IsEndOf (Single start duration) (cond t (Some (day_after_year year (lookback_of duration))) None)
  by_year true e = sure (leb-true year last_sure_year e)
  by_year false e = λ years.
      let le : year ≤ last_sure_year = rw is at years in
      false≢true (sym e ∙ le-leb year last_sure_year le)

of_basic : (start : StartParts) (duration : DurationParts) → IsDuration duration → (year : Option ℕ) → start.year ≡ year
    → IsEndOf (Single start duration) (basic_end year (lookback_of duration))
of_basic start duration valid None is = λ years. rw is at years
of_basic start duration valid (Some year) is = by_year start duration valid year is (nat_le year last_sure_year) refl

before_later : (t a day : ℤ) → t <ℤ first_of_day a → a ≤ℤ day → t <ℤ first_of_day day
before_later t a day lt le = omega (arith, ints)

lt_true : (a b : ℤ) → a <ℤ b → int_lt a b ≡ true
lt_true a b h = grind (arith, ints)

lt_false : (a b : ℤ) → b ≤ℤ a → int_lt a b ≡ false
lt_false a b h = grind (arith, ints)

module _ (left right : Tree) where
  both_by : (a b day : ℤ) → IsEndedBy left a → IsEndedBy right b → a ≤ℤ day → b ≤ℤ day → day ≤ℤ horizons_end
      → IsEndedBy (Joined Union left right) day
  both_by a b day h k first second late = record {
    years = (h.years, k.years);
    each = λ t in_tree. elim in_tree [
      | inl x ↦ before_later t a day (h.each t x) first
      | inr y ↦ before_later t b day (k.each t y) second
    ];
    early = let low = h.early in omega (arith, ints, low, first);
    late = late;
  }

  pub both : (a b : Option ℤ) → IsEndOf left a → IsEndOf right b → IsEndOf (Joined Union left right) (end_of_both a b)
  both None b h k = λ years. h years.0
  both (Some a) None h k = λ years. k years.1
  both (Some a) (Some b) h k =
      by_lt_z {P = IsEndedBy (Joined Union left right) (later a b)} a b
      (λ lt. rw (lt_true a b lt) (both_by a b b h k (omega (arith, ints, lt)) (omega (arith, ints)) k.late))
      (λ le. rw (lt_false a b le) (both_by a b a h k (omega (arith, ints)) le h.late))

  of_left : (a : ℤ) → IsEndedBy left a → IsEndedBy (Joined Meet left right) a
  of_left a h = record { years = inl h.years; each = λ t x. h.each t x.0; early = h.early; late = h.late }

  of_right : (b : ℤ) → IsEndedBy right b → IsEndedBy (Joined Meet left right) b
  of_right b k = record { years = inr k.years; each = λ t x. k.each t x.1; early = k.early; late = k.late }

  pub either : (a b : Option ℤ) → IsEndOf left a → IsEndOf right b → IsEndOf (Joined Meet left right) (end_of_either a b)
  either None None h k = λ years. elim years [ inl x ↦ h x | inr y ↦ k y ]
  either None (Some b) h k = of_right b k
  either (Some a) None h k = of_left a h
  either (Some a) (Some b) h k =
      by_lt_z {P = IsEndedBy (Joined Meet left right) (earlier a b)} b a
      (λ lt. rw (lt_true b a lt) (of_right b k))
      (λ le. rw (lt_false b a le) (of_left a h))

  pub first_alone : (a : Option ℤ) → IsEndOf left a → IsEndOf (Joined Minus left right) a
  first_alone None h = h
  first_alone (Some a) h = record { years = h.years; each = λ t x. h.each t x.0; early = h.early; late = h.late }

-- what is computed is right
pub end_day_is : (tree : Tree) → AreValid tree → IsEndOf tree (end_day tree)
end_day_is (Single start duration) valid = of_basic start duration valid.1 start.year refl
end_day_is (Joined Union left right) valid =
    both left right (end_day left) (end_day right) (end_day_is left valid.0) (end_day_is right valid.1)
end_day_is (Joined Meet left right) valid =
    either left right (end_day left) (end_day right) (end_day_is left valid.0) (end_day_is right valid.1)
end_day_is (Joined Minus left right) valid = first_alone left right (end_day left) (end_day_is left valid.0)

ends_before_2700 : (tree : Tree) (day : Option ℤ) → IsEndOf tree day → EndsByItsYears tree → (t : ℤ) → InTree tree t
    → t <ℤ first_of_day horizons_end
ends_before_2700 tree None none years t h = absurd (none years)
ends_before_2700 tree (Some day) ended years t h = before_later t day horizons_end (ended.each t h) ended.late

-- an expression that ends by its years ends before 2700
pub ends_by_years : (tree : Tree) → AreValid tree → EndsByItsYears tree → (t : ℤ) → InTree tree t → t <ℤ first_of_day horizons_end
ends_by_years tree valid = ends_before_2700 tree (end_day tree) (end_day_is tree valid)
