-- The lines of faults.
use Rattle.std.proofs.Common.{sym, refl, ℕ, List, [], ◌∷◌, ◌++◌, append-nil, append_assoc}
use Rattle.gtd_faults.specs.Listing.{line_text}
use Rattle.gtd_faults.specs.Places.{IsLineAt}
use Rattle.gtd_faults.specs.declared.snippet.Snippet.{Snippet}
use Rattle.gtd_conditional_faults.specs.Listing.{AreLines, IsSnippet, snippet_lines}
use Rattle.gtd_conditional_faults.specs.Places.{row_of}
use Rattle.gtd_conditional_faults.specs.Words.{fault_text}
use Rattle.gtd_conditional_faults.specs.declared.fault.FileFault.{FileFault}

-- the line of one fault more
pub lines_more : (path bytes : List ℕ) (faults : List FileFault) (why : FileFault) (text : List ℕ) (line : ℕ)
    (snippet : Snippet) → IsLineAt bytes (row_of why) line → IsSnippet bytes why snippet → AreLines path bytes faults text
    → AreLines path bytes (faults ++ why ∷ []) (text ++ (line_text path line (fault_text why) ++ snippet_lines why snippet))
lines_more path bytes [] why text line snippet on at is = (
  line,
  on,
  snippet,
  at,
  [],
  refl,
  rw is (sym (append-nil (line_text path line (fault_text why) ++ snippet_lines why snippet))),
)
lines_more path bytes (x ∷ faults) why text line snippet on at is =
    let more = line_text path line (fault_text why) ++ snippet_lines why snippet in (
      is.0,
      is.1,
      is.2,
      is.3,
      is.4 ++ more,
      lines_more path bytes faults why is.4 line snippet on at is.5,
      rw (is.6) (append_assoc (line_text path is.0 (fault_text x) ++ snippet_lines x is.2) is.4 more),
    )
