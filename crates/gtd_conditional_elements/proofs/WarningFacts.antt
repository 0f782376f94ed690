-- The lines of warnings, tag by tag.
use Rattle.std.proofs.Common.{refl, sym, ℕ, List, [], ◌∷◌, ◌++◌, Some, append-nil, append_assoc}
use Rattle.gtd_faults.specs.Places.{IsLineAt}
use Rattle.gtd_conditional_tags.specs.declared.groups.ElementItem.{ElementItem}
use Rattle.gtd_conditional_elements.specs.Warnings.{AreWarnings, tag_lines}
use Rattle.gtd_conditional_elements.specs.declared.tag.ReadTag.{ReadTag}

-- the lines of one tag more
pub warnings_more : (path bytes : List ℕ) (tags : List (ElementItem ReadTag)) (tag : ElementItem ReadTag) (text : List ℕ)
    (line : ℕ) → IsLineAt bytes (Some tag.item.row) line → AreWarnings path bytes tags text
    → AreWarnings path bytes (tags ++ tag ∷ []) (text ++ tag_lines path line tag.item)
warnings_more path bytes [] tag text line is are = (
  line,
  [],
  is,
  refl,
  rw are (sym (append-nil (tag_lines path line tag.item))),
)
warnings_more path bytes (first ∷ tags) tag text line is are = (
  are.0,
  are.1 ++ tag_lines path line tag.item,
  are.2,
  warnings_more path bytes tags tag are.1 line is are.3,
  rw (are.4) (append_assoc (tag_lines path are.0 first.item) are.1 (tag_lines path line tag.item)),
)
