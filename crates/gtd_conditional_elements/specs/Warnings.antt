-- Warnings of the hours in the values of a file.
use Rattle.std.specs.Prelude.{◌≡◌, ℕ, List, [], ◌∷◌, ◌++◌, codes, decimal, Some}
use Rattle.gtd_faults.specs.Places.{IsLineAt}
use Rattle.gtd_faults.specs.Printable.{printable}
use Rattle.gtd_hours_warnings.specs.Lines.{warning_lines}
use Rattle.gtd_conditional_values.specs.declared.term.Term.{Term}
use Rattle.gtd_conditional_values.specs.declared.term.Term.TheVariants as term
use Rattle.gtd_conditional_parts.specs.declared.value.Part.{Part}
use Rattle.gtd_conditional_tags.specs.declared.groups.ElementItem.{ElementItem}
use Rattle.gtd_conditional_elements.specs.declared.tag.ReadTag.{ReadTag}

-- what stands before a warning of the hours of a row that begins on this line of a file
abbrev pub before_warning : List ℕ → ℕ → ℕ → List ℕ
before_warning path line row =
    printable path ++ (codes ":" ++ (decimal line ++ (codes ": row " ++ (decimal row ++ codes ": warning Hours "))))

-- the warnings of terms and of parts, each in a line behind these bytes
abbrev pub term_lines : List ℕ → Term → List ℕ
term_lines before (term.Named name) = []
term_lines before (term.Hours given) = warning_lines before given.warnings.items

abbrev pub terms_lines : List ℕ → List Term → List ℕ
terms_lines before [] = []
terms_lines before (term ∷ terms) = term_lines before term ++ terms_lines before terms

abbrev pub parts_lines : List ℕ → List Part → List ℕ
parts_lines before [] = []
parts_lines before (part ∷ parts) = terms_lines before part.terms.items ++ parts_lines before parts

-- those of a tag whose row begins on this line
abbrev pub tag_lines : List ℕ → ℕ → ReadTag → List ℕ
tag_lines path line tag = parts_lines (before_warning path line tag.row) tag.tag.value.parts.items

-- The text is the warnings of these tags, in their order, for a file with this path and these bytes.
abbrev pub AreWarnings : List ℕ → List ℕ → List (ElementItem ReadTag) → List ℕ → Type 0
AreWarnings path bytes [] text = text ≡ []
AreWarnings path bytes (tag ∷ tags) text =
    (line : ℕ) × (after : List ℕ)
    × IsLineAt bytes (Some tag.item.row) line × AreWarnings path bytes tags after
    × (text ≡ tag_lines path line tag.item ++ after)
