-- What is told of a row has the row's number.
use Rattle.std.proofs.Common.{◌≡◌, ◌+◌, refl, inl, inr, ℕ, Bool, true, false, List, [], ◌∷◌, ◌++◌, Option, Some, None}
use Rattle.std.proofs.lemmas.List.Elements.{All-append, All-cons, All-nil}
use Rattle.std.specs.List.{All}
use Rattle.gtd_core.specs.Trees.{Tree, Single, Joined, leaf_count}
use Rattle.gtd_mistakes.specs.Told.{AreToldAt, AreToldOf, told_at}
use Rattle.gtd_mistakes.specs.declared.rule.Rule.{Rule}
use Rattle.gtd_mistakes.specs.declared.rule.TheConstants.{RULES}
use Rattle.gtd_mistakes.specs.declared.told.Told.{Told}
use Rattle.gtd_warnings.specs.Extents.{HoldsThroughout}
use Rattle.gtd_warnings.specs.RowsTold.{AreToldOfRow, AreToldOnce, IsOnDay}
use Rattle.gtd_warnings.specs.declared.file.Asked.{Asked}

module _ (row : ℕ) where
  abbrev OfRow : Told → Type 0
  OfRow told = told.row ≡ row

  at_part : (off : List Rule) (whole : Bool) (before : ℕ) (tree : Tree) (rules : List Rule) (told : List Told)
      → AreToldAt row off whole before tree rules told → All OfRow told
  at_part off whole before tree [] told is = rw is (All-nil OfRow)
  at_part off whole before tree (rule ∷ rules) told (inl is) =
      rw (is.3) (All-cons OfRow (told_at row before tree rule) is.1 refl (at_part off whole before tree rules is.1 is.2))
  at_part off whole before tree (rule ∷ rules) told (inr is) = at_part off whole before tree rules told is.1

  of_part : (off : List Rule) (whole : Bool) (before : ℕ) (tree : Tree) (told : List Told)
      → AreToldOf row off whole before tree told → All OfRow told
  of_part off whole before (Single start duration) told is = at_part off whole before (Single start duration) RULES told is
  of_part off whole before (Joined op left right) told is =
      rw (is.6) (All-append OfRow (is.0 ++ is.1) is.2
      (All-append OfRow is.0 is.1 (at_part off whole before (Joined op left right) RULES is.0 is.3)
      (of_part off false before left is.1 is.4))
      (of_part off false (before + leaf_count left) right is.2 is.5))

  once : (off : List Rule) (Holds : Rule → Type 0) (tree : Tree) (told : List Told) → AreToldOnce row off Holds tree told
      → All OfRow told
  once off Holds tree told (inl is) = rw (is.3) (All-cons OfRow (told_at row 0 tree is.0) [] refl (All-nil OfRow))
  once off Holds tree told (inr is) = rw (is.1) (All-nil OfRow)

  pub told_rows : (asked : Asked) (domain : Option Tree) (told : List Told) → AreToldOfRow asked row domain told → All OfRow told
  told_rows asked None told is = rw is (All-nil OfRow)
  told_rows asked (Some tree) told is =
      let off = asked.off.items in
      rw (is.6) (All-append OfRow (is.0 ++ is.1) is.2
      (All-append OfRow is.0 is.1 (of_part off true 0 tree is.0 is.3) (once off (HoldsThroughout tree) tree is.1 is.4))
      (once off (IsOnDay asked.days tree) tree is.2 is.5))
