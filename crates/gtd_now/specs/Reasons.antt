-- What is told of the rows that close an element.
use Rattle.std.specs.Prelude.{◌++◌, ◌-◌, ℕ, List, [], ◌∷◌, Option, Some, None, codes, decimal, flat_map, get_or, option_and_then}
use Rattle.std.specs.Prelude.{nat_eq, if◌then◌else◌}
use Rattle.std.specs.List.{slice_get}
use Rattle.gtd_core.specs.Trees.{Tree}
use Rattle.gtd_records.specs.Closing.{Restriction}
use Rattle.gtd_text.specs.Canonical.{canonical}
use Rattle.gtd_words.specs.Words.{words}

-- the domain of the row with this number, counted from 1, if it has one
abbrev pub row_domain : List Restriction → ℕ → Option Tree
row_domain found row = option_and_then (λ (r : Restriction). r.domain) (slice_get found (row - 1))

-- the line of the row with this number, of the lines on which the rows of a file begin
abbrev pub row_line : List ℕ → ℕ → ℕ
row_line lines row = get_or lines (row - 1) 0

-- the canonical text of a domain: nothing, if there is none
abbrev pub domain_text : Option Tree → List ℕ
domain_text None = []
domain_text (Some tree) = canonical tree

-- the words of a domain: a row without one closes its element always
abbrev pub domain_words : Option Tree → List ℕ
domain_words None = codes "always\n"
domain_words (Some tree) = words tree

-- the eight columns by which lines after the first are indented
abbrev pub indent_before : ℕ → List ℕ → List ℕ
indent_before byte [] = []
indent_before byte (next ∷ rest) = if nat_eq byte 10 then codes "        " else []

-- lines, of which those after the first are indented
abbrev pub below : List ℕ → List ℕ
below [] = []
below (byte ∷ rest) = byte ∷ (indent_before byte rest ++ below rest)

-- the line of the file on which a row begins, and the row
abbrev pub place_start : ℕ → ℕ → List ℕ
place_start line row = codes "    line " ++ decimal line ++ codes ", row " ++ decimal row ++ codes ": "

-- these, the text of its domain if it has one, and its words
abbrev pub reason_start : ℕ → ℕ → Option Tree → List ℕ
reason_start line row None = place_start line row
reason_start line row (Some tree) = place_start line row ++ canonical tree ++ codes ": "

abbrev pub reason : ℕ → ℕ → Option Tree → List ℕ
reason line row domain = reason_start line row domain ++ below (domain_words domain)

-- the lines of rows, in their order
abbrev pub reasons : List ℕ → List Restriction → List ℕ → List ℕ
reasons lines found rows = flat_map (λ row. reason (row_line lines row) row (row_domain found row)) rows
