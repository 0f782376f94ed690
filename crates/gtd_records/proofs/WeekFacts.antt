-- Seconds that are whole weeks apart, and which of them the spans of a week hold: for `week::spans_hold` and `week::holds_weekly`.
use Rattle.std.proofs.Common.{◌≡◌, ◌∙◌, sym, ap, subst, ◌↔◌, ◌⊎◌, inl, inr, ◌<◌, ◌≤◌, ◌+◌, ◌*◌, ◌/◌, ℕ, List, [], ◌∷◌, length, drop, get_or, arith}
use Rattle.std.specs.Prelude.{ℤ, pos, negsuc, ◌+ℤ◌, ◌≤ℤ◌, ◌<ℤ◌}
use Rattle.std.specs.Int.{int_rem_euclid}
use Rattle.std.proofs.lemmas.Int.{ints}
use Rattle.std.proofs.lemmas.List.{drop_more, at_drop_all}
use Rattle.gtd_core.specs.Seconds.{Interval, Within}
use Rattle.gtd_core.specs.Trees.{Tree}
use Rattle.gtd_eval.specs.Membership.{InTree}
use Rattle.gtd_eval.specs.facts.WeekFacts.{RepeatsWeekly, repeats-weekly, tree-weekly}
use Rattle.gtd_records.specs.Week.{IsWeekOf}
use Rattle.gtd_spans.specs.Normal.{AllBeginAfter, Holds, IsNormal}

-- the second of the week that is whole weeks before a second, or after it
abbrev pub AreWeeksApart : ℤ → ℤ → Type 0
AreWeeksApart t r = (k : ℕ) × ((t ≡ r +ℤ pos (k * 604800)) ⊎ (r ≡ t +ℤ pos (k * 604800)))

pub week-of : (z : ℤ) → AreWeeksApart z (int_rem_euclid z (pos 604800))
week-of (pos a) = (a / 604800, inl (omega (arith, ints)))
week-of (negsuc a) = (a / 604800 + 1, inr (omega (arith, ints)))

pub in-week : (z : ℤ) → (pos 0 ≤ℤ int_rem_euclid z (pos 604800)) × (int_rem_euclid z (pos 604800) <ℤ pos 604800)
in-week (pos a) = (omega (arith, ints), omega (arith, ints))
in-week (negsuc a) = (omega (arith, ints), omega (arith, ints))

-- what repeats weekly has the one exactly if it has the other
same-apart : (set : ℤ → Type 0) → RepeatsWeekly set → (z r : ℤ) → AreWeeksApart z r → set z ↔ set r
same-apart set repeats z r (k, inl e) =
    let many = repeats-weekly set repeats k r in
    ((λ h. many.1 (subst set e h)), (λ h. subst set (sym e) (many.0 h)))
same-apart set repeats z r (k, inr e) =
    let many = repeats-weekly set repeats k z in
    ((λ h. subst set (sym e) (many.0 h)), (λ h. many.1 (subst set e h)))

-- the spans of a week hold the second of the week exactly if the expression contains the second
pub in-tree : (tree : Tree) (spans : List Interval) → IsWeekOf tree spans → (z : ℤ)
    → Holds spans (int_rem_euclid z (pos 604800)) ↔ InTree tree z
in-tree tree spans is z =
    let within = in-week z in
    let same = same-apart (InTree tree) (λ t. tree-weekly tree t is.weekly) z _ (week-of z) in (
      (λ h. same.1 (is.normal.inside _ h).2),
      (λ t. is.normal.complete _ (within.0, within.1, same.0 t)),
    )

-- spans that begin after a second do not hold it, nor one before it
pub none-before : (t b : ℤ) (xs : List Interval) → t <ℤ b → AllBeginAfter b xs → Holds xs t → ⊥
none-before t b [] lt after h = h
none-before t b (x ∷ xs) lt after (inl w) = omega (arith, ints, w.0, after.0, lt)
none-before t b (x ∷ xs) lt after (inr h) = none-before t b xs lt after.1 h

module _ (xs : List Interval) (t : ℤ) where
  -- the spans from a place on hold the second exactly if all do
  pub record IsLeft (i : ℕ) : Type 0 where
    pub same : Holds xs t ↔ Holds (drop i xs) t
    pub normal : IsNormal (drop i xs)

  module _ (i : ℕ) (x : Interval) (here : i < length xs) (is : x ≡ get_or xs i x) (left : IsLeft i) where
    split : drop i xs ≡ x ∷ drop (i + 1) xs
    split = drop_more xs i x here ∙ ap (λ (y : Interval). y ∷ drop (i + 1) xs) (sym is)

    normal : IsNormal (x ∷ drop (i + 1) xs)
    normal = subst IsNormal split left.normal

    first : Holds xs t ↔ Holds (x ∷ drop (i + 1) xs) t
    first = subst (λ (ys : List Interval). Holds xs t ↔ Holds ys t) split left.same

    -- the next one ends before the second
    pub passed : x.until ≤ℤ t → IsLeft (i + 1)
    passed le = record {
      same = (
        (λ h. elim (first.0 h) [ inl w ↦ absurd (omega (arith, ints, w.1, le)) | inr k ↦ k ]),
        (λ h. first.1 (inr h)),
      );
      normal = normal.2;
    }

    -- it is the first that ends after the second
    pub decides : t <ℤ x.until → Within x t ↔ Holds xs t
    decides lt = (
      (λ w. first.1 (inl w)),
      (λ h. elim (first.0 h) [ inl w ↦ w | inr k ↦ absurd (none-before t x.until _ lt normal.1 k) ]),
    )

  pub none-left : (i : ℕ) → length xs ≤ i → IsLeft i → Holds xs t → ⊥
  none-left i past left h = subst (λ (ys : List Interval). Holds ys t) (at_drop_all (λ ys. ys) xs i past) (left.same.0 h)
