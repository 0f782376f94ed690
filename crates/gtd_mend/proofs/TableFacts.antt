-- Rows that are added to a table, and lines that are added to a listing.
use Rattle.std.proofs.Common.{◌≡◌, ◌∙◌, ap, refl, sym, arith, ℕ, zero, suc, ◌+◌, ◌<◌, ◌≤◌, Bool, true, false}
use Rattle.std.proofs.Common.{List, [], ◌∷◌, ◌++◌, drop, take, get_or, length, append_assoc, drop-drop, length-append}
use Rattle.std.specs.Prelude.{None, map, flat_map, string_bytes}
use Rattle.std.proofs.lemmas.Grind.{flat_map-append}
use Rattle.std.proofs.Common.{◌-◌, ◌^◌, min}
use Rattle.std.proofs.lemmas.List.{append-nil, drop_all, length-take, map-append, take_more}
use Rattle.std.proofs.lemmas.List.Sums.{count_by-le-length}
use Rattle.gtd_faults.specs.Places.{is_line_feed}
use Rattle.csv.specs.Machine.{next_record}
use Rattle.csv.specs.Writing.{row_text}
use Rattle.csv.specs.declared.parser.Config.{Config}
use Rattle.csv.specs.declared.parser.State.TheVariants.{StartRecord}
use Rattle.gtd_rows.specs.Columns.{Fields}
use Rattle.gtd_report.specs.Putting.{text_of}
use Rattle.gtd_mend.specs.Fields.{changes_of, content_of, mended_field, mended_from, mended_row, mended_table}
use Rattle.gtd_mend.specs.Lines.{field_lines, lines_from, row_lines, table_lines}
use Rattle.gtd_mend.specs.Mended.{table_text, writer_of}
use Rattle.gtd_mend.specs.Reading.{AreRead, IsNextRow, ReadRow, empty_lines, fields_in, line_feeds, separated_by, separator_byte}
use Rattle.gtd_mend.specs.Standing.{AddsLines, Holds, Lists, is_nil}
use Rattle.gtd_mend.specs.declared.listing.Listing.{Listing}
use Rattle.gtd_mend.specs.declared.separator.Separator.{Separator}
use Rattle.gtd_mend.specs.declared.table.Table.{Table}

-- ---- lines

text_more : (lines : List (List ℕ)) (line : List ℕ) → text_of (lines ++ line ∷ []) ≡ text_of lines ++ line
text_more lines line =
    flat_map-append (λ (l : List ℕ). l) lines (line ∷ []) ∙ ap (λ (t : List ℕ). text_of lines ++ t) (append-nil line)

-- one more line
pub lists_more : (name : List ℕ) (lines : List (List ℕ)) (words : List ℕ) (old new : Listing) → Lists name lines old
    → new.path.now ≡ old.path.now → string_bytes new.text ≡ string_bytes old.text ++ (words ++ 10 ∷ [])
    → new.count ≡ min (old.count + 1) (2 ^ 64 - 1) → length (string_bytes new.text) < 2 ^ 63
    → Lists name (lines ++ (words ++ 10 ∷ []) ∷ []) new
lists_more name lines words old new is same added counted small =
    let line : List ℕ = words ++ 10 ∷ [] in
    let whole : text_of (lines ++ line ∷ []) ≡ text_of lines ++ line = text_more lines line in
    let text : string_bytes new.text ≡ text_of (lines ++ line ∷ []) =
    added ∙ ap (λ (t : List ℕ). t ++ line) is.text ∙ sym whole in
    let size = length-append lines (line ∷ []) in
    let bytes = ap length whole ∙ length-append (text_of lines) line in
    let end = length-append words (10 ∷ []) in
    let less : length (text_of (lines ++ line ∷ [])) < 2 ^ 63 = rw text at small in
    let few : length (lines ++ line ∷ []) ≤ length (text_of (lines ++ line ∷ [])) =
    let before = is.few in omega (arith, size, bytes, end, before) in
    record {
      path = same ∙ is.path;
      text = text;
      count = let before = is.count in omega (arith, size, before, counted, few, less);
      few = few;
    }

-- the lines of another listing
pub lists_join : (name : List ℕ) (lines more : List (List ℕ)) (old other new : Listing) → Lists name lines old
    → Lists name more other → new.path.now ≡ old.path.now
    → string_bytes new.text ≡ string_bytes old.text ++ string_bytes other.text
    → new.count ≡ min (old.count + other.count) (2 ^ 64 - 1) → length (string_bytes new.text) < 2 ^ 63
    → Lists name (lines ++ more) new
lists_join name lines more old other new is also same added counted small =
    let whole : text_of (lines ++ more) ≡ text_of lines ++ text_of more = flat_map-append (λ (l : List ℕ). l) lines more in
    let text : string_bytes new.text ≡ text_of (lines ++ more) =
    added ∙ ap (λ (t : List ℕ). t ++ string_bytes other.text) is.text ∙ ap (λ (t : List ℕ). text_of lines ++ t) also.text
    ∙ sym whole in
    let size = length-append lines more in
    let bytes = ap length whole ∙ length-append (text_of lines) (text_of more) in
    let less : length (text_of (lines ++ more)) < 2 ^ 63 = rw text at small in
    let few : length (lines ++ more) ≤ length (text_of (lines ++ more)) =
    let a = is.few in let b = also.few in omega (arith, size, bytes, a, b) in
    record {
      path = same ∙ is.path;
      text = text;
      count = let a = is.count in let b = also.count in omega (arith, size, a, b, counted, few, less);
      few = few;
    }

pub no_lines : (name : List ℕ) (listing : Listing) → listing.path.now ≡ name → string_bytes listing.text ≡ []
    → listing.count ≡ 0 → Lists name [] listing
no_lines name listing path text count = record { path = path; text = text; count = count; few = omega arith }

-- the lines of one more change
pub one_more : {A : Type 0} (line : A → List ℕ) (xs : List A) (i : ℕ) (d : A) (before : List (List ℕ)) → i < length xs
    → (before ++ map line (take i xs)) ++ line (get_or xs i d) ∷ [] ≡ before ++ map line (take (i + 1) xs)
one_more line xs i d before lt =
    append_assoc before (map line (take i xs)) (line (get_or xs i d) ∷ [])
    ∙ ap (λ (t : List (List ℕ)). before ++ t)
    (sym (ap (map line) (take_more xs i d lt) ∙ map-append line (take i xs) (get_or xs i d ∷ [])))

pub none_more : (path : List ℕ) (before : List (List ℕ)) (listing : Listing) → Lists path before listing
    → Lists path (before ++ []) listing
none_more path before listing is = rw (append-nil before) is

-- ---- fields

pub mended_more : (head : Bool) (start : ℕ) (fields : Fields) (i : ℕ) → i < length fields
    → mended_from head start (take (i + 1) fields)
    ≡ mended_from head start (take i fields) ++ (mended_field (content_of head (start + i)) (get_or fields i []) ∷ [])
mended_more head start [] i lt = absurd (omega arith)
mended_more head start (field ∷ fields) zero lt =
    let e : start + 0 ≡ start = omega arith in rw e refl
mended_more head start (field ∷ fields) (suc i) lt =
    let n : suc i + 1 ≡ suc (i + 1) = omega arith in
    let e : start + suc i ≡ (start + 1) + i = omega arith in
    rw (n, e) (ap (λ (t : Fields). mended_field (content_of head start) field ∷ t)
    (mended_more head (start + 1) fields i (omega arith)))

pub lines_more : (path : List ℕ) (line : ℕ) (head : Bool) (start : ℕ) (fields : Fields) (i : ℕ) → i < length fields
    → lines_from path line head start (take (i + 1) fields)
    ≡ lines_from path line head start (take i fields)
    ++ field_lines path line (start + i + 1) (changes_of (content_of head (start + i)) (get_or fields i []))
lines_more path line head start [] i lt = absurd (omega arith)
lines_more path line head start (field ∷ fields) zero lt =
    let e : start + 0 ≡ start = omega arith in
    rw e (append-nil (field_lines path line (start + 1) (changes_of (content_of head start) field)))
lines_more path line head start (field ∷ fields) (suc i) lt =
    let n : suc i + 1 ≡ suc (i + 1) = omega arith in
    let e : start + suc i ≡ (start + 1) + i = omega arith in
    let first = field_lines path line (start + 1) (changes_of (content_of head start) field) in
    rw (n, e) (ap (λ (t : List (List ℕ)). first ++ t) (lines_more path line head (start + 1) fields i (omega arith))
    ∙ sym (append_assoc first (lines_from path line head (start + 1) (take i fields))
    (field_lines path line ((start + 1) + i + 1) (changes_of (content_of head ((start + 1) + i)) (get_or fields i [])))))

-- the lines of one more field are added
pub adds_more : (line : ℕ) (head : Bool) (fields : Fields) (i : ℕ) (start old new : Listing) → i < length fields
    → AddsLines (λ path. lines_from path line head 0 (take i fields)) start old
    → AddsLines (λ path. field_lines path line (i + 1) (changes_of (content_of head i) (get_or fields i []))) old new
    → AddsLines (λ path. lines_from path line head 0 (take (i + 1) fields)) start new
adds_more line head fields i start old new lt was adds = λ path before is.
    let e : 0 + i ≡ i = omega arith in
    let last = field_lines path line (i + 1) (changes_of (content_of head i) (get_or fields i [])) in
    let so_far = lines_from path line head 0 (take i fields) in
    let lines : lines_from path line head 0 (take (i + 1) fields) ≡ so_far ++ last =
    rw e at (lines_more path line head 0 fields i lt) in
    rw lines (rw (append_assoc before so_far last) at (adds path (before ++ so_far) (was path before is)))

pub fields_more : (head : Bool) (fields : Fields) (i : ℕ) → i < length fields
    → mended_from head 0 (take (i + 1) fields)
    ≡ mended_from head 0 (take i fields) ++ (mended_field (content_of head i) (get_or fields i []) ∷ [])
fields_more head fields i lt = let e : 0 + i ≡ i = omega arith in rw e at (mended_more head 0 fields i lt)

-- ---- rows

fields_of_more : (rows : List ReadRow) (row : ReadRow) → fields_in (rows ++ row ∷ []) ≡ fields_in rows ++ row.fields ∷ []
fields_of_more rows row = map-append (λ (r : ReadRow). r.fields) rows (row ∷ [])

written_more : (byte : ℕ) (rows : List Fields) (row : Fields)
    → table_text byte (rows ++ row ∷ []) ≡ table_text byte rows ++ row_text (writer_of byte) row
written_more byte rows row =
    flat_map-append (row_text (writer_of byte)) rows (row ∷ [])
    ∙ ap (λ (t : List ℕ). table_text byte rows ++ t) (append-nil (row_text (writer_of byte) row))

table_more : (rows : List ReadRow) (row : ReadRow)
    → mended_table (fields_in rows ++ row.fields ∷ [])
    ≡ mended_table (fields_in rows) ++ mended_row (is_nil rows) row.fields ∷ []
table_more [] row = refl
table_more (first ∷ rows) row =
    ap (λ (t : List Fields). mended_row true first.fields ∷ t)
    (map-append (mended_row false) (fields_in rows) (row.fields ∷ []))

lines_of_more : (path : List ℕ) (rows : List ReadRow) (row : ReadRow)
    → table_lines path (rows ++ row ∷ []) ≡ table_lines path rows ++ row_lines path (is_nil rows) row
lines_of_more path [] row = append-nil (row_lines path true row)
lines_of_more path (first ∷ rows) row =
    let header = row_lines path true first in
    ap (λ (t : List (List ℕ)). header ++ t) (flat_map-append (row_lines path false) rows (row ∷ [])
    ∙ ap (λ (t : List (List ℕ)). flat_map (row_lines path false) rows ++ t) (append-nil (row_lines path false row)))
    ∙ sym (append_assoc header (flat_map (row_lines path false) rows) (row_lines path false row))

not_nil : (rows : List ReadRow) (row : ReadRow) → false ≡ is_nil (rows ++ row ∷ [])
not_nil [] row = refl
not_nil (first ∷ rows) row = refl

-- one more row
pub holds_more : (path : List ℕ) (separator : Separator) (rows : List ReadRow) (row : ReadRow) (mended : Fields)
    (old new : Table) → Holds path separator rows old → new.separator ≡ old.separator → new.empty ≡ false
    → mended ≡ mended_row old.empty row.fields
    → new.mended.items ≡ old.mended.items ++ row_text (writer_of 44) mended
    → new.written.items ≡ old.written.items ++ row_text (writer_of (separator_byte old.separator)) row.fields
    → AddsLines (λ path. lines_from path row.line old.empty 0 row.fields) old.listing new.listing
    → Holds path separator (rows ++ row ∷ []) new
holds_more path separator rows row mended old new is same begun fields added copied lines = record {
  separator = same ∙ is.separator;
  empty = begun ∙ not_nil rows row;
  mended =
      let head = is.empty in
      added
      ∙ ap (λ (t : List ℕ). t ++ row_text (writer_of 44) mended) is.mended
      ∙ ap (λ (f : Fields). table_text 44 (mended_table (fields_in rows)) ++ row_text (writer_of 44) f)
      (fields ∙ ap (λ (h : Bool). mended_row h row.fields) head)
      ∙ sym (ap (table_text 44) (ap mended_table (fields_of_more rows row) ∙ table_more rows row)
      ∙ written_more 44 (mended_table (fields_in rows)) (mended_row (is_nil rows) row.fields));
  written =
      copied
      ∙ ap (λ (t : List ℕ). t ++ row_text (writer_of (separator_byte old.separator)) row.fields) is.written
      ∙ ap (λ (s : Separator). table_text (separator_byte separator) (fields_in rows)
      ++ row_text (writer_of (separator_byte s)) row.fields)
      is.separator
      ∙ sym (ap (table_text (separator_byte separator)) (fields_of_more rows row)
      ∙ written_more (separator_byte separator) (fields_in rows) row.fields);
  listed =
      let head = is.empty in
      rw (lines_of_more path rows row, sym head) (lines path (table_lines path rows) is.listed);
}

-- ---- reading

none_at_end : (rules : Config) (text : List ℕ) (at : ℕ) → length text ≤ at
    → next_record rules StartRecord [] [] (drop at text) ≡ None
unfolding next_record
none_at_end rules text at le = rw (drop_all at text le) refl

-- the rows before this place were read, and the table holds them
pub record RowsSoFar (path : List ℕ) (separator : Separator) (text : List ℕ) (at line : ℕ) (table : Table) : Type 0 where
  pub within : at ≤ length text
  pub few : line ≤ 1 + at
  pub rows : List ReadRow
  pub read : (rest : List ReadRow) → AreRead (separated_by separator) line (drop at text) rest
      → AreRead (separated_by separator) 1 text (rows ++ rest)
  pub holds : Holds path separator rows table

pub none_yet : (path : List ℕ) (separator : Separator) (text : List ℕ) (table : Table) → Holds path separator [] table
    → RowsSoFar path separator text 0 1 table
none_yet path separator text table is = record {
  within = omega arith;
  few = omega arith;
  rows = [];
  read = λ rest are. are;
  holds = is;
}

pub all_read : (path : List ℕ) (separator : Separator) (text : List ℕ) (at line : ℕ) (table : Table)
    → RowsSoFar path separator text at line table
    → next_record (separated_by separator) StartRecord [] [] (drop at text) ≡ None
    → (rows : List ReadRow) × AreRead (separated_by separator) 1 text rows × Holds path separator rows table
all_read path separator text at line table so_far none =
    (so_far.rows, rw (append-nil so_far.rows) at (so_far.read [] none), so_far.holds)

pub row_read : (path : List ℕ) (separator : Separator) (text : List ℕ) (at line taken begins : ℕ) (old new : Table)
    (fields : Fields) → RowsSoFar path separator text at line old → at + taken ≤ length text
    → IsNextRow (separated_by separator) (drop at text) fields (take taken (drop at text)) (drop taken (drop at text))
    → begins ≡ line + line_feeds (empty_lines (drop at text))
    → ((rows : List ReadRow) → Holds path separator rows old
    → Holds path separator (rows ++ record { line = begins; fields = fields } ∷ []) new)
    → RowsSoFar path separator text (at + taken) (line + line_feeds (take taken (drop at text))) new
row_read path separator text at line taken begins old new fields so_far le next begin more = record {
  within = le;
  few =
      let feeds = count_by-le-length is_line_feed (take taken (drop at text)) in
      let size = length-take taken (drop at text) in
      let before = so_far.few in omega (arith, feeds, size, before);
  rows = so_far.rows ++ record { line = begins; fields = fields } ∷ [];
  read = λ rest are.
      let row : ReadRow = record { line = begins; fields = fields } in
      rw (sym (append_assoc so_far.rows (row ∷ []) rest)) at (so_far.read (row ∷ rest) (
        take taken (drop at text),
        drop taken (drop at text),
        next,
        begin,
        rw (sym (drop-drop taken at text)) at are,
      ));
  holds = more so_far.rows so_far.holds;
}

pub end_read : (path : List ℕ) (separator : Separator) (text : List ℕ) (at line : ℕ) (table : Table)
    → RowsSoFar path separator text at line table → length text ≤ at
    → (rows : List ReadRow) × AreRead (separated_by separator) 1 text rows × Holds path separator rows table
end_read path separator text at line table so_far le =
    all_read path separator text at line table so_far (none_at_end (separated_by separator) text at le)
