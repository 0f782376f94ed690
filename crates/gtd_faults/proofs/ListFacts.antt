-- What the list of a file's faults says.
use Rattle.std.proofs.Common.{◌≡◌, ◌∙◌, ◌≤◌, ◌↔◌, sym, ap, refl, subst, arith, inl, inr, ℕ, List, [], ◌∷◌, ◌++◌, length}
use Rattle.std.proofs.Common.{append-nil, append_assoc, decimal, length-append, map}
use Rattle.std.specs.Prelude.{Result, Ok, Err, codes}
use Rattle.std.specs.List.{Contains}
use Rattle.csv.specs.Reading.{default_config, records, strip_bom}
use Rattle.gtd_core.specs.Limits.{most_file_bytes, most_rows}
use Rattle.gtd_records.specs.Closing.{Restriction}
use Rattle.gtd_rows.specs.Columns.{Fields}
use Rattle.gtd_records.specs.Faults.{AreFaults, AreFileFaults, AreRowFaults, AreTableFaults, IsFaultyRow, row_number}
use Rattle.gtd_records.specs.File.{IsFile, header}
use Rattle.gtd_records.specs.facts.OneAnswer.{one_version}
use Rattle.gtd_records.specs.declared.fault.RecordFault.{RecordFault}
use Rattle.gtd_rows.specs.declared.vehicles.Version.{Version}
use Rattle.gtd_faults.specs.Snippet.{IsSnippet, snippet_text}
use Rattle.gtd_mistakes.specs.declared.told.Told.{Told}
use Rattle.gtd_warnings.specs.declared.codes.LoneCode.{LoneCode}
use Rattle.gtd_faults.specs.Doubts.{AreDoubtLines, AreLoneLines, IsOfPart, doubt_snippet, doubt_line, lone_line}
use Rattle.gtd_faults.specs.Listing.{AreLines, fault_line, fault_text, snippet_lines, row_of}
use Rattle.gtd_faults.specs.Places.{IsLine, IsLineAt, field_of}
use Rattle.gtd_faults.specs.Printable.{printable}
use Rattle.gtd_faults.specs.declared.snippet.Snippet.{Snippet}

-- a line is never empty
some_line : (path : List ℕ) (line : ℕ) (why : RecordFault) (snippet after : List ℕ)
    → fault_line path line why ++ snippet ++ after ≡ [] → ⊥
some_line path line why snippet after e =
    let all = length-append (fault_line path line why ++ snippet) after in
    let both = length-append (fault_line path line why) snippet in
    let end = length-append (printable path ++ codes ":" ++ decimal line ++ codes ": " ++ fault_text why) (10 ∷ []) in
    let none : length (fault_line path line why ++ snippet ++ after) ≡ 0 = ap length e in
    absurd (omega (arith, all, both, end, none))

-- the line of one fault more
pub lines_more : (path bytes : List ℕ) (faults : List RecordFault) (why : RecordFault) (text : List ℕ) (line : ℕ)
    (snippet : Snippet) → IsLineAt bytes (row_of why) line → IsSnippet bytes why snippet → AreLines path bytes faults text
    → AreLines path bytes (faults ++ why ∷ []) (text ++ (fault_line path line why ++ snippet_lines why snippet))
lines_more path bytes [] why text line snippet on at is =
    (line, on, snippet, at, [], refl, rw is (sym (append-nil (fault_line path line why ++ snippet_lines why snippet))))
lines_more path bytes (x ∷ faults) why text line snippet on at is =
    let more = fault_line path line why ++ snippet_lines why snippet in (
      is.0,
      is.1,
      is.2,
      is.3,
      is.4 ++ more,
      lines_more path bytes faults why is.4 line snippet on at is.5,
      rw (is.6) (append_assoc (fault_line path is.0 x ++ snippet_lines x is.2) is.4 more),
    )

-- the lines of one thing more that is told
pub doubt_lines_more : (path bytes : List ℕ) (told : List Told) (one : Told) (text : List ℕ) (line : ℕ) (snippet : Snippet)
    → IsLine bytes one.row line → IsOfPart (field_of bytes one.row 3) one.part.before snippet
    → AreDoubtLines path bytes told text
    → AreDoubtLines path bytes (told ++ one ∷ []) (text ++ (doubt_line path line one ++ doubt_snippet one snippet))
doubt_lines_more path bytes [] one text line snippet on at is =
    (line, on, snippet, at, [], refl, rw is (sym (append-nil (doubt_line path line one ++ doubt_snippet one snippet))))
doubt_lines_more path bytes (x ∷ told) one text line snippet on at is =
    let more = doubt_line path line one ++ doubt_snippet one snippet in (
      is.0,
      is.1,
      is.2,
      is.3,
      is.4 ++ more,
      doubt_lines_more path bytes told one is.4 line snippet on at is.5,
      rw (is.6) (append_assoc (doubt_line path is.0 x ++ doubt_snippet x is.2) is.4 more),
    )

-- the lines of codes, and of those after them
pub lone_lines_join : (path bytes : List ℕ) (lone more : List LoneCode) (text last : List ℕ) → AreLoneLines path bytes lone text
    → AreLoneLines path bytes more last → AreLoneLines path bytes (lone ++ more) (text ++ last)
lone_lines_join path bytes [] more text last is also = rw is also
lone_lines_join path bytes (x ∷ lone) more text last is also = (
  is.0,
  is.1,
  is.2,
  is.3,
  is.4 ++ last,
  lone_lines_join path bytes lone more is.4 last is.5 also,
  rw (is.6) (append_assoc (lone_line path is.0 x ++ snippet_text is.2) is.4 last),
)

abbrev Accepted : List ℕ → Type 0
Accepted bytes = (found : List Restriction) × IsFile bytes (Ok found)

apart : (found : List Restriction) (why : RecordFault) → ◌≡◌ {A = Result (List Restriction) RecordFault} (Ok found) (Err why) → ⊥
apart found why e = cc

module _ (accepted : (bytes : List ℕ) → AreFileFaults bytes [] ↔ Accepted bytes)
    (first : (bytes : List ℕ) (why : RecordFault) (rest : List RecordFault) → AreFileFaults bytes (why ∷ rest)
    → IsFile bytes (Err why))
    (one : (bytes : List ℕ) (a b : Result (List Restriction) RecordFault) → IsFile bytes a → IsFile bytes b → a ≡ b) where
  pub nothing_listed : (path bytes : List ℕ) (faults : List RecordFault) (text : List ℕ) → AreFileFaults bytes faults
      → AreLines path bytes faults text → (text ≡ []) ↔ Accepted bytes
  nothing_listed path bytes [] text are lines = (λ e. (accepted bytes).0 are, λ is. lines)
  nothing_listed path bytes (why ∷ rest) text are lines = (
    (λ e. absurd (some_line path lines.0 why (snippet_lines why lines.2) lines.4 (sym (lines.6) ∙ e))),
    (λ is. absurd (apart is.0 why (one bytes (Ok is.0) (Err why) is.1 (first bytes why rest are)))),
  )

  same_fault : (a b : RecordFault) → ◌≡◌ {A = Result (List Restriction) RecordFault} (Err a) (Err b) → a ≡ b
  same_fault a b e = cc

  pub first_line : (path bytes : List ℕ) (faults : List RecordFault) (text : List ℕ) (why : RecordFault)
      → AreFileFaults bytes faults → AreLines path bytes faults text → IsFile bytes (Err why)
      → (line : ℕ) × IsLineAt bytes (row_of why) line × (after : List ℕ) × (text ≡ fault_line path line why ++ after)
  first_line path bytes [] text why are lines is =
      let file = (accepted bytes).0 are in
      absurd (apart file.0 why (one bytes (Ok file.0) (Err why) file.1 is))
  first_line path bytes (x ∷ rest) text why are lines is =
      let same = same_fault x why (one bytes (Err x) (Err why) (first bytes x rest are) is) in
      let snippet = snippet_lines x lines.2 in (
        lines.0,
        subst (λ (w : RecordFault). IsLineAt bytes (row_of w) lines.0) same lines.1,
        snippet ++ lines.4,
        lines.6 ∙ append_assoc (fault_line path lines.0 x) snippet lines.4
            ∙ ap (λ w. fault_line path lines.0 w ++ (snippet ++ lines.4)) same,
      )

module _ (each : (v : Version) (rows : List Fields) (faults : List RecordFault) → AreRowFaults v 1 rows faults
    → (n : ℕ) → Contains (map row_number faults) n ↔ IsFaultyRow v rows n) where
  of_rows : (v : Version) (rows : List Fields) (faults : List RecordFault) → length rows ≤ most_rows → AreFaults v rows faults
      → (n : ℕ) → Contains (map row_number faults) n ↔ IsFaultyRow v rows n
  of_rows v rows faults few (inl are) = each v rows faults are.1
  of_rows v rows faults few (inr many) =
      let all = ap length many.split ∙ length-append many.before (many.row ∷ many.after) in
      let before = many.many in
      absurd (omega (arith, all, before, few))

  of_table : (v : Version) (rows text : List Fields) (faults : List RecordFault) → text ≡ header v ∷ rows
      → length rows ≤ most_rows → AreTableFaults text faults
      → (n : ℕ) → Contains (map row_number faults) n ↔ IsFaultyRow v rows n
  of_table v rows text faults is few (inl t) =
      let both : header v ∷ rows ≡ header t.0 ∷ t.1 = sym is ∙ t.2 in
      let version : v ≡ t.0 = one_version v t.0 cc in
      let same : rows ≡ t.1 = cc in
      of_rows v rows faults few (rw (version, same) t.3)
  of_table v rows text faults is few (inr t) = absurd (t.0 v rows is)

  pub rows_listed : (bytes : List ℕ) (faults : List RecordFault) (v : Version) (rows : List Fields) → AreFileFaults bytes faults
      → length bytes ≤ most_file_bytes → records default_config (strip_bom bytes) ≡ header v ∷ rows
      → length rows ≤ most_rows
      → (n : ℕ) → Contains (map row_number faults) n ↔ IsFaultyRow v rows n
  rows_listed bytes faults v rows (inl t) small is few = of_table v rows _ faults is few t.1
  rows_listed bytes faults v rows (inr large) small is few = absurd (let l = large.0 in omega (arith, l, small))
