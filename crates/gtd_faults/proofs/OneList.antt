-- The lines of a file's warnings are one text.
use Rattle.std.proofs.Common.{◌≡◌, ◌∙◌, sym, ap, subst, refl, arith, ℕ, List, [], ◌∷◌, ◌++◌, Option, Some, None}
use Rattle.gtd_mistakes.specs.declared.told.Told.{Told}
use Rattle.gtd_warnings.specs.Codes.{AreLoneOfFile}
use Rattle.gtd_warnings.specs.RowsTold.{AreToldOfFile}
use Rattle.gtd_warnings.specs.declared.codes.LoneCode.{LoneCode}
use Rattle.gtd_warnings.specs.declared.file.Asked.{Asked}
use Rattle.gtd_lines.specs.facts.OneLine.{one_line}
use Rattle.gtd_faults.specs.Snippet.{IsAround, IsOfField, snippet_text}
use Rattle.gtd_faults.specs.Doubts.{AreDoubtLines, AreDoubts, AreLoneLines, IsOfPart}
use Rattle.gtd_faults.specs.Doubts.{doubt_snippet, doubt_line, lone_line, opening}
use Rattle.gtd_faults.specs.Places.{field_of}
use Rattle.gtd_warnings.specs.Sentences.{perhaps_line}
use Rattle.gtd_faults.specs.declared.snippet.Snippet.{Snippet}
use Rattle.gtd_faults.specs.declared.snippet.Snippet.TheVariants as snippet
use Rattle.gtd_faults.specs.declared.stretch.Stretch.{Stretch}

around : (text : List ℕ) (place : ℕ) (s t : Stretch) → IsAround text place s → IsAround text place t
    → snippet_text (snippet.Field s) ≡ snippet_text (snippet.Field t)
around text place s t is same =
    rw (is.before, is.after, is.cut_before, is.cut_after)
    (rw (same.before, same.after, same.cut_before, same.cut_after) refl)

-- what is shown of a field is one text
shown : (field : Option (List ℕ)) (place : ℕ) (x y : Snippet) → IsOfField field place x → IsOfField field place y
    → snippet_text x ≡ snippet_text y
shown None place x y is same = ap snippet_text (is ∙ sym same)
shown (Some field) place snippet.Nothing snippet.Nothing is same = refl
shown (Some field) place snippet.Nothing (snippet.Field t) less same = absurd (let le = same.0 in omega (arith, less, le))
shown (Some field) place (snippet.Field s) snippet.Nothing is less = absurd (let le = is.0 in omega (arith, less, le))
shown (Some field) place (snippet.Field s) (snippet.Field t) is same = around field place s t is.1 same.1
shown (Some field) place (snippet.Row found fields) y is same = absurd is
shown (Some field) place (snippet.Header found expected hint) y is same = absurd is
shown (Some field) place x (snippet.Row found fields) is same = absurd same
shown (Some field) place x (snippet.Header found expected hint) is same = absurd same

shown_part : (field : Option (List ℕ)) (before : ℕ) (x y : Snippet) → IsOfPart field before x → IsOfPart field before y
    → snippet_text x ≡ snippet_text y
shown_part None before x y is same = shown None 0 x y is same
shown_part (Some field) before x y is same = shown (Some field) (opening before field) x y is same

module _ (path bytes : List ℕ) where
  doubt_lines : (told : List Told) (a b : List ℕ) → AreDoubtLines path bytes told a → AreDoubtLines path bytes told b → a ≡ b
  doubt_lines [] a b is same = is ∙ sym same
  doubt_lines (one ∷ told) a b is same =
      let line = one_line bytes one.row is.0 same.0 is.1 same.1 in
      let snippet = shown_part (field_of bytes one.row 3) one.part.before is.2 same.2 is.3 same.3 in
      let after = doubt_lines told is.4 same.4 is.5 same.5 in
      let said = perhaps_line one.rule one.part in
      is.6
      ∙ ap (λ (n : ℕ). doubt_line path n one ++ doubt_snippet one is.2 ++ is.4) line
      ∙ ap (λ (l : List ℕ). doubt_line path same.0 one ++ (l ++ said) ++ is.4) snippet
      ∙ ap (λ (l : List ℕ). doubt_line path same.0 one ++ doubt_snippet one same.2 ++ l) after
      ∙ sym same.6

  lone_lines : (lone : List LoneCode) (a b : List ℕ) → AreLoneLines path bytes lone a → AreLoneLines path bytes lone b → a ≡ b
  lone_lines [] a b is same = is ∙ sym same
  lone_lines (one ∷ lone) a b is same =
      let line = one_line bytes one.row is.0 same.0 is.1 same.1 in
      let snippet = shown (field_of bytes one.row 2) 0 is.2 same.2 is.3 same.3 in
      let after = lone_lines lone is.4 same.4 is.5 same.5 in
      is.6
      ∙ ap (λ (n : ℕ). lone_line path n one ++ snippet_text is.2 ++ is.4) line
      ∙ ap (λ (l : List ℕ). lone_line path same.0 one ++ l ++ is.4) snippet
      ∙ ap (λ (l : List ℕ). lone_line path same.0 one ++ snippet_text same.2 ++ l) after
      ∙ sym same.6

module _ (told : (asked : Asked) (bytes : List ℕ) (a b : List Told) → AreToldOfFile asked bytes a → AreToldOfFile asked bytes b
    → a ≡ b)
    (lone : (asked : Asked) (bytes : List ℕ) (a b : List LoneCode) → AreLoneOfFile asked bytes a → AreLoneOfFile asked bytes b
    → a ≡ b) where
  pub one_list : (path bytes : List ℕ) (asked : Asked) (a b : List ℕ) → AreDoubts path asked bytes a
      → AreDoubts path asked bytes b → a ≡ b
  one_list path bytes asked a b is same =
      let t = told asked bytes is.told same.told is.all_told same.all_told in
      let c = lone asked bytes is.lone same.lone is.all_lone same.all_lone in
      let first = doubt_lines path bytes same.told is.first same.first
      (subst (λ (l : List Told). AreDoubtLines path bytes l is.first) t is.told_lines) same.told_lines in
      let last = lone_lines path bytes same.lone is.last same.last
      (subst (λ (l : List LoneCode). AreLoneLines path bytes l is.last) c is.lone_lines) same.lone_lines in
      is.whole ∙ ap (λ (l : List ℕ). l ++ is.last) first ∙ ap (λ (l : List ℕ). same.first ++ l) last ∙ sym same.whole
