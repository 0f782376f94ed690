-- Which rules hold of an expression, of which at most one does.
use Rattle.std.proofs.Common.{◌≡◌, ◌∙◌, subst, ap, refl, inl, inr, ℕ, List, ◌++◌, Option, Some, None, Contains, append_assoc}
use Rattle.std.proofs.Common.{arith}
use Rattle.std.proofs.lemmas.Int.{ints}
use Rattle.std.specs.Prelude.{MatchOption}
use Rattle.gtd_core.specs.Trees.{Tree}
use Rattle.gtd_core.specs.declared.horizon.Horizon.{Horizon}
use Rattle.gtd_eval.specs.Extent.{first_second}
use Rattle.gtd_mistakes.specs.declared.rule.Rule.{Rule}
use Rattle.gtd_mistakes.specs.declared.rule.Rule.TheVariants as rule
use Rattle.gtd_mistakes.specs.declared.told.Told.{Told}
use Rattle.gtd_warnings.specs.Days.{HoldsOn}
use Rattle.gtd_warnings.specs.Extents.{HoldsThroughout}
use Rattle.gtd_warnings.specs.Found.{IsFound}
use Rattle.gtd_warnings.specs.RowsTold.{AreToldOnce, IsOnDay}

module _ (tree : Tree) (days : Horizon) where
  with_past : HoldsOn rule.Past days tree → (b : Rule) → HoldsOn b days tree → rule.Past ≡ b
  with_past over rule.Past h = refl
  with_past over rule.EndsSoon h = absurd (h.0 over)
  with_past over other h = absurd h

  with_soon : (HoldsOn rule.Past days tree → ⊥) → (b : Rule) → HoldsOn b days tree → rule.EndsSoon ≡ b
  with_soon some rule.Past h = absurd (some h)
  with_soon some rule.EndsSoon h = refl
  with_soon some other h = absurd h

  -- at most one rule holds
  one_rule : (a b : Rule) → HoldsOn a days tree → HoldsOn b days tree → a ≡ b
  one_rule rule.Past b h k = with_past h b k
  one_rule rule.EndsSoon b h k = with_soon h.0 b k
  one_rule other b h k = absurd h

-- on the days that are given
pub one_on_day : (tree : Tree) (days : Option Horizon) (a b : Rule) → IsOnDay days tree a → IsOnDay days tree b → a ≡ b
one_on_day tree None a b h k = absurd h
one_on_day tree (Some days) a b h k = one_rule tree days a b h k

module _ (tree : Tree) where
  never_alone : HoldsThroughout tree rule.NeverHolds → (b : Rule) → HoldsThroughout tree b → rule.NeverHolds ≡ b
  never_alone never rule.NeverHolds k = refl
  never_alone never rule.AlwaysHolds k = absurd (never.1 first_second (omega (arith, ints)) (k.1 first_second))
  never_alone never other k = absurd k

  always_alone : HoldsThroughout tree rule.AlwaysHolds → (b : Rule) → HoldsThroughout tree b → rule.AlwaysHolds ≡ b
  always_alone always rule.NeverHolds k = absurd (k.1 first_second (omega (arith, ints)) (always.1 first_second))
  always_alone always rule.AlwaysHolds k = refl
  always_alone always other k = absurd k

  pub one_throughout : (a b : Rule) → HoldsThroughout tree a → HoldsThroughout tree b → a ≡ b
  one_throughout rule.NeverHolds b h k = never_alone h b k
  one_throughout rule.AlwaysHolds b h k = always_alone h b k
  one_throughout other b h k = absurd h

  -- where `never-holds` was not found, it does not hold
  pub not_never : (found : Option Rule) → IsFound (HoldsThroughout tree) found → (found ≡ Some rule.NeverHolds → ⊥)
      → HoldsThroughout tree rule.NeverHolds → ⊥
  not_never None none other h = none rule.NeverHolds h
  not_never (Some found) holds other h =
      let same : found ≡ rule.NeverHolds = one_throughout found rule.NeverHolds holds h in
      other (ap (λ (r : Rule). Some r) same)

module _ (row : ℕ) (off : List Rule) (tree : Tree) (Holds : Rule → Type 0)
    (one : (a b : Rule) → Holds a → Holds b → a ≡ b) where
  same_some : (a b : Rule) → ◌≡◌ {A = Option Rule} (Some a) (Some b) → a ≡ b
  same_some a b e = cc

  -- what is told of the rule that was found is what is told of those that hold
  pub told_as_found : (found : Option Rule) → MatchOption found ((rule : Rule) → Holds rule → ⊥) Holds
      → (told : List Told) → AreToldOnce row off (λ rule. found ≡ Some rule) tree told → AreToldOnce row off Holds tree told
  told_as_found None none told (inl is) = absurd (let e = is.1 in cc)
  told_as_found None none told (inr is) = inr ((λ rule holds. absurd (none rule holds)), is.1)
  told_as_found (Some found) holds told (inl is) =
      inl (is.0, subst Holds (same_some found is.0 is.1) holds, is.2, is.3)
  told_as_found (Some found) holds told (inr is) =
      inr ((λ rule also. subst (λ (r : Rule). Contains off r) (one found rule holds also) (is.0 found refl)), is.1)

pub throughout : (row : ℕ) (off : List Rule) (tree : Tree) (found : Option Rule)
    → MatchOption found ((rule : Rule) → HoldsThroughout tree rule → ⊥) (HoldsThroughout tree) → (told : List Told)
    → AreToldOnce row off (λ rule. found ≡ Some rule) tree told → AreToldOnce row off (HoldsThroughout tree) tree told
throughout row off tree found is told are =
    told_as_found row off tree (HoldsThroughout tree) (one_throughout tree) found is told are

pub on_day : (row : ℕ) (off : List Rule) (tree : Tree) (days : Option Horizon) (found : Option Rule)
    → MatchOption found ((rule : Rule) → IsOnDay days tree rule → ⊥) (IsOnDay days tree) → (told : List Told)
    → AreToldOnce row off (λ rule. found ≡ Some rule) tree told → AreToldOnce row off (IsOnDay days tree) tree told
on_day row off tree days found is told are =
    told_as_found row off tree (IsOnDay days tree) (one_on_day tree days) found is told are

pub three_parts : (old a b c first second third : List Told) → a ≡ old ++ first → b ≡ a ++ second → c ≡ b ++ third
    → c ≡ old ++ ((first ++ second) ++ third)
three_parts old a b c first second third e f g =
    g ∙ ap (λ (l : List Told). l ++ third) (f ∙ ap (λ (l : List Told). l ++ second) e ∙ append_assoc old first second)
    ∙ append_assoc old (first ++ second) third
