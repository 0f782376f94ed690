-- What is told of a file is one list, and so are its lone codes.
use Rattle.std.proofs.Common.{◌≡◌, ◌∙◌, ◌+◌, sym, ap, subst, refl, inl, inr, arith, ℕ, zero, suc, Bool, true, false, List, []}
use Rattle.std.proofs.Common.{◌∷◌}
use Rattle.std.proofs.Common.{◌++◌, map, take, Option, Some, None}
use Rattle.gtd_core.specs.Limits.{most_rows}
use Rattle.gtd_core.specs.Trees.{Tree, Single, Joined, leaf_count}
use Rattle.gtd_text.specs.facts.OneMeaning.{one_meaning}
use Rattle.gtd_rows.specs.Columns.{Fields}
use Rattle.gtd_records.specs.File.{header}
use Rattle.gtd_records.specs.facts.OneAnswer.{one_version}
use Rattle.gtd_rows.specs.declared.vehicles.Version.{Version}
use Rattle.gtd_mistakes.specs.Told.{AreToldAt, AreToldOf, told_at}
use Rattle.gtd_mistakes.specs.declared.rule.TheConstants.{RULES}
use Rattle.gtd_mistakes.specs.declared.rule.Rule.{Rule}
use Rattle.gtd_mistakes.specs.declared.told.Told.{Told}
use Rattle.gtd_warnings.proofs.DayFacts.{one_on_day, one_throughout}
use Rattle.gtd_warnings.specs.Codes.{AreLoneBelow, AreLoneOfFile, AreLoneOfRows, AreLoneOfTable, codes_named}
use Rattle.gtd_warnings.specs.Extents.{HoldsThroughout}
use Rattle.gtd_warnings.specs.RowsTold.{AreToldOfFile, AreToldOfRow, AreToldOfRows, AreToldOfTable, AreToldOnce, IsDomainOf}
use Rattle.gtd_warnings.specs.RowsTold.{IsOnDay, IsToldOfRow}
use Rattle.gtd_warnings.specs.declared.codes.LoneCode.{LoneCode}
use Rattle.gtd_warnings.specs.declared.file.Asked.{Asked}

joined : (a b c d : List Told) → a ≡ b → c ≡ d → a ++ c ≡ b ++ d
joined a b c d e f = ap (λ (l : List Told). l ++ c) e ∙ ap (λ (l : List Told). b ++ l) f

-- ---- the domain of a row

module _ (row : ℕ) (off : List Rule) where
  at_part : (whole : Bool) (before : ℕ) (tree : Tree) (rules : List Rule) (a b : List Told)
      → AreToldAt row off whole before tree rules a → AreToldAt row off whole before tree rules b → a ≡ b
  at_part whole before tree [] a b is same = is ∙ sym same
  at_part whole before tree (rule ∷ rules) a b (inl is) (inl same) =
      is.3
      ∙ ap (λ (l : List Told). told_at row before tree rule ∷ l) (at_part whole before tree rules is.1 same.1 is.2 same.2)
      ∙ sym same.3
  at_part whole before tree (rule ∷ rules) a b (inl is) (inr un) = absurd (un.0 is.0)
  at_part whole before tree (rule ∷ rules) a b (inr un) (inl is) = absurd (un.0 is.0)
  at_part whole before tree (rule ∷ rules) a b (inr is) (inr same) = at_part whole before tree rules a b is.1 same.1

  of_part : (whole : Bool) (before : ℕ) (tree : Tree) (a b : List Told) → AreToldOf row off whole before tree a
      → AreToldOf row off whole before tree b → a ≡ b
  of_part whole before (Single s d) a b is same = at_part whole before (Single s d) RULES a b is same
  of_part whole before (Joined op left right) a b is same =
      let here = at_part whole before (Joined op left right) RULES is.0 same.0 is.3 same.3 in
      let first = of_part false before left is.1 same.1 is.4 same.4 in
      let second = of_part false (before + leaf_count left) right is.2 same.2 is.5 same.5 in
      is.6 ∙ joined (is.0 ++ is.1) (same.0 ++ same.1) is.2 same.2 (joined is.0 same.0 is.1 same.1 here first) second
      ∙ sym same.6

  told_once : (tree : Tree) (Holds : Rule → Type 0) → ((a b : Rule) → Holds a → Holds b → a ≡ b) → (a b : List Told)
      → AreToldOnce row off Holds tree a → AreToldOnce row off Holds tree b → a ≡ b
  told_once tree Holds one a b (inl is) (inl same) =
      is.3 ∙ ap (λ (r : Rule). told_at row 0 tree r ∷ []) (one is.0 same.0 is.1 same.1) ∙ sym same.3
  told_once tree Holds one a b (inl is) (inr un) = absurd (is.2 (un.0 is.0 is.1))
  told_once tree Holds one a b (inr un) (inl is) = absurd (is.2 (un.0 is.0 is.1))
  told_once tree Holds one a b (inr is) (inr same) = is.1 ∙ sym same.1

of_text : (text : List ℕ) (element closed vehicles : List ℕ) (a b : Option Tree)
    → IsDomainOf (element ∷ closed ∷ vehicles ∷ text ∷ []) a → IsDomainOf (element ∷ closed ∷ vehicles ∷ text ∷ []) b → a ≡ b
of_text text element closed vehicles (Some a) (Some b) is same = ap Some (one_meaning text a b is.0 same.0)
of_text text element closed vehicles (Some a) None is un = absurd (is.1 un.0 un.1)
of_text text element closed vehicles None (Some b) un is = absurd (is.1 un.0 un.1)
of_text text element closed vehicles None None is same = refl

one_domain : (fields : Fields) (a b : Option Tree) → IsDomainOf fields a → IsDomainOf fields b → a ≡ b
one_domain (element ∷ closed ∷ vehicles ∷ text ∷ []) a b is same = of_text text element closed vehicles a b is same
one_domain other None None is same = refl
one_domain other (Some a) b is same = absurd is
one_domain other None (Some b) is same = absurd same

-- ---- the rows of a file

module _ (asked : Asked) where
  of_domain : (row : ℕ) (domain : Option Tree) (a b : List Told) → AreToldOfRow asked row domain a
      → AreToldOfRow asked row domain b → a ≡ b
  of_domain row None a b is same = is ∙ sym same
  of_domain row (Some tree) a b is same =
      let off = asked.off.items in
      let first = of_part row off true 0 tree is.0 same.0 is.3 same.3 in
      let second = told_once row off tree (HoldsThroughout tree) (one_throughout tree) is.1 same.1
      is.4 same.4 in
      let third = told_once row off tree (IsOnDay asked.days tree) (one_on_day tree asked.days) is.2 same.2 is.5 same.5 in
      is.6 ∙ joined (is.0 ++ is.1) (same.0 ++ same.1) is.2 same.2 (joined is.0 same.0 is.1 same.1 first second) third
      ∙ sym same.6

  of_row : (row : ℕ) (fields : Fields) (a b : List Told) → IsToldOfRow asked row fields a → IsToldOfRow asked row fields b
      → a ≡ b
  of_row row fields a b is same =
      let e = one_domain fields is.0 same.0 is.1 same.1 in
      of_domain row same.0 a b (subst (λ (d : Option Tree). AreToldOfRow asked row d a) e is.2) same.2

  of_rows : (number : ℕ) (rows : List Fields) (a b : List Told) → AreToldOfRows asked number rows a
      → AreToldOfRows asked number rows b → a ≡ b
  of_rows number [] a b is same = is ∙ sym same
  of_rows number (row ∷ rows) a b is same =
      is.4
      ∙ joined is.0 same.0 is.1 same.1 (of_row number row is.0 same.0 is.2 same.2)
      (of_rows (number + 1) rows is.1 same.1 is.3 same.3)
      ∙ sym same.4

  of_table : (text : List Fields) (a b : List Told) → AreToldOfTable asked text a → AreToldOfTable asked text b → a ≡ b
  of_table text a b (inl is) (inl same) =
      let both : header is.0 ∷ is.1 ≡ header same.0 ∷ same.1 = sym is.2 ∙ same.2 in
      let tail : is.1 ≡ same.1 = cc in
      of_rows 1 (take most_rows same.1) a b (subst (λ (l : List Fields). AreToldOfRows asked 1 (take most_rows l) a) tail is.3)
      same.3
  of_table text a b (inl is) (inr un) = absurd (un.0 is.0 is.1 is.2)
  of_table text a b (inr un) (inl is) = absurd (un.0 is.0 is.1 is.2)
  of_table text a b (inr is) (inr same) = is.1 ∙ sym same.1

pub one_told : (asked : Asked) (bytes : List ℕ) (a b : List Told) → AreToldOfFile asked bytes a → AreToldOfFile asked bytes b
    → a ≡ b
one_told asked bytes a b (inl is) (inl same) = of_table asked _ a b is.1 same.1
one_told asked bytes a b (inl is) (inr large) = absurd (let l = large.0 in let s = is.0 in omega (arith, l, s))
one_told asked bytes a b (inr large) (inl is) = absurd (let l = large.0 in let s = is.0 in omega (arith, l, s))
one_told asked bytes a b (inr is) (inr same) = is.1 ∙ sym same.1

-- ---- lone codes

abbrev lone_at : ℕ → ℕ → List LoneCode
lone_at code before = record { row = before + 1; code = code } ∷ []

lone_below : (named : List (List ℕ)) (code : ℕ) (a b : List LoneCode) → AreLoneBelow named code a → AreLoneBelow named code b
    → a ≡ b
unfolding AreLoneBelow
lone_below named zero a b is same = is ∙ sym same
lone_below named (suc code) a b (s, below, inl here) (t, also, inl there) =
    here.2 ∙ ap (λ (l : List LoneCode). l ++ lone_at code here.0) (lone_below named code s t below also)
    ∙ ap (λ (n : ℕ). t ++ lone_at code n) (there.1.1 here.0 here.1.0)
    ∙ sym there.2
lone_below named (suc code) a b (s, below, inl here) (t, also, inr un) = absurd (un.0 here.0 here.1)
lone_below named (suc code) a b (s, below, inr un) (t, also, inl here) = absurd (un.0 here.0 here.1)
lone_below named (suc code) a b (s, below, inr is) (t, also, inr same) =
    is.1 ∙ lone_below named code s t below also ∙ sym same.1

lone_of_rows : (named : List (List ℕ)) (a b : List LoneCode) → AreLoneOfRows named a → AreLoneOfRows named b → a ≡ b
lone_of_rows named a b (inl is) (inl same) = lone_below named 100 a b is.1 same.1
lone_of_rows named a b (inl is) (inr few) = absurd (let l = few.0 in let s = is.0 in omega (arith, l, s))
lone_of_rows named a b (inr few) (inl is) = absurd (let l = few.0 in let s = is.0 in omega (arith, l, s))
lone_of_rows named a b (inr is) (inr same) = is.1 ∙ sym same.1

abbrev named_by : Version → List Fields → List (List ℕ)
named_by v rows = map (codes_named v) (take most_rows rows)

lone_of_table : (text : List Fields) (a b : List LoneCode) → AreLoneOfTable text a → AreLoneOfTable text b → a ≡ b
lone_of_table text a b (inl is) (inl same) =
    let both : header is.0 ∷ is.1 ≡ header same.0 ∷ same.1 = sym is.2 ∙ same.2 in
    let version : is.0 ≡ same.0 = one_version is.0 same.0 cc in
    let tail : is.1 ≡ same.1 = cc in
    lone_of_rows (named_by same.0 same.1) a b
    (subst (λ (v : Version). AreLoneOfRows (named_by v same.1) a) version
    (subst (λ (l : List Fields). AreLoneOfRows (named_by is.0 l) a) tail is.3))
    same.3
lone_of_table text a b (inl is) (inr un) = absurd (un.0 is.0 is.1 is.2)
lone_of_table text a b (inr un) (inl is) = absurd (un.0 is.0 is.1 is.2)
lone_of_table text a b (inr is) (inr same) = is.1 ∙ sym same.1

pub one_lone : (asked : Asked) (bytes : List ℕ) (a b : List LoneCode) → AreLoneOfFile asked bytes a → AreLoneOfFile asked bytes b
    → a ≡ b
one_lone asked bytes a b (inl is) (inl same) = lone_of_table _ a b is.2 same.2
one_lone asked bytes a b (inl is) (inr (inl off, nil)) = absurd (is.0 off)
one_lone asked bytes a b (inl is) (inr (inr large, nil)) = absurd (let s = is.1 in omega (arith, large, s))
one_lone asked bytes a b (inr (inl off, nil)) (inl is) = absurd (is.0 off)
one_lone asked bytes a b (inr (inr large, nil)) (inl is) = absurd (let s = is.1 in omega (arith, large, s))
one_lone asked bytes a b (inr is) (inr same) = is.1 ∙ sym same.1
