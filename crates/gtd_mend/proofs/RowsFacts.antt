-- The rows of a mended file, as they are read again.
use Rattle.std.proofs.Common.{◌≡◌, ◌∙◌, ◌⊎◌, ap, refl, sym, arith, cond, inl, inr, ℕ, zero, suc, ◌+◌, ◌<◌, ◌≤◌}
use Rattle.std.proofs.Common.{Bool, true, false, List, [], ◌∷◌, ◌++◌, length, length-append, Option, Some, None}
use Rattle.std.specs.Prelude.{map, ⊤}
use Rattle.std.proofs.lemmas.Bool.Decides.{nat_tests}
use Rattle.csv.proofs.RoundTrip.{read-write}
use Rattle.csv.specs.Machine.{Read, ends_at_end, field_after, fields_after, in_field, is_end, next_record, step}
use Rattle.csv.specs.Reading.{default_config, records, records_from, strip_bom}
use Rattle.csv.specs.Writing.{read_back, row_text}
use Rattle.csv.specs.declared.parser.Action.{Action}
use Rattle.csv.specs.declared.parser.Action.TheVariants as act
use Rattle.csv.specs.declared.parser.State.{State}
use Rattle.csv.specs.declared.parser.State.TheVariants as st
use Rattle.gtd_rows.specs.Columns.{Fields}
use Rattle.gtd_records.specs.File.{header}
use Rattle.gtd_rows.specs.Table.{IsBetween}
use Rattle.gtd_rows.specs.declared.vehicles.Version.{Version}
use Rattle.gtd_rows.specs.declared.vehicles.Version.TheVariants as version
use Rattle.gtd_mend.proofs.MendFacts.{read_apart, same_fields}
use Rattle.gtd_mend.specs.Fields.{mended_row, mended_table}
use Rattle.gtd_mend.specs.Mended.{HasHeader, IsRewritten, table_text, writer_of}
use Rattle.gtd_mend.specs.Reading.{AreRead, ReadRow, by_byte, fields_in, line_feeds, separated_by, separator_byte}
use Rattle.gtd_mend.specs.declared.change.FileChange.{FileChange}
use Rattle.gtd_mend.specs.declared.separator.Separator.{Separator}

-- ---- what a row leaves

ends_field : (b c : ℕ) → is_end (in_field (by_byte b) c).1 ≡ true → IsBetween (in_field (by_byte b) c).0
ends_field b c h = grind (arith, nat_tests)

ends : (b : ℕ) (s : State) (c : ℕ) → is_end (step (by_byte b) s c).1 ≡ true → IsBetween (step (by_byte b) s c).0
ends b st.StartRecord c h = grind (arith, nat_tests)
ends b st.StartField c h = grind (arith, nat_tests)
ends b st.InField c h = ends_field b c h
ends b st.InQuoted c h = grind (arith, nat_tests)
ends b st.InEscape c h = grind (arith, nat_tests)
ends b st.AfterQuote c h = grind (arith, nat_tests)
ends b st.InComment c h = grind (arith, nat_tests)
ends b st.AfterCr c h = grind (arith, nat_tests)

chosen : {A : Type 0} (b : Bool) (x y z : A) → cond b x y ≡ z → ((b ≡ true) × (x ≡ z)) ⊎ ((b ≡ false) × (y ≡ z))
chosen true x y z h = inl (refl, h)
chosen false x y z h = inr (refl, h)

-- a row has a field, ends between two rows, and leaves no more than there was
pub record Leaves (text : List ℕ) (read : Read) : Type 0 where
  pub some : 0 < length read.0
  pub between : IsBetween read.1
  pub less : length read.2 ≤ length text

one_field : (a : Action) (fields : Fields) (field : List ℕ) → is_end a ≡ true → 0 < length (fields_after a fields field)
one_field act.EndRecord fields field is = let n = length-append fields (field ∷ []) in omega (arith, n)
one_field act.Skip fields field is = absurd cc
one_field act.Copy fields field is = absurd cc
one_field act.EndField fields field is = absurd cc

last_row : (b : Bool) (fields : Fields) (field : List ℕ) (read : Read)
    → ◌≡◌ {A = Option Read} (cond b (Some (fields ++ field ∷ [], st.StartRecord, [])) None) (Some read) → Leaves [] read
last_row true fields field read h =
    let same : read ≡ (fields ++ field ∷ [], st.StartRecord, []) = cc in
    rw same (record {
      some = let n = length-append fields (field ∷ []) in omega (arith, n);
      between = inl refl;
      less = omega arith;
    })
last_row false fields field read h = absurd cc

leaves : (b : ℕ) (s : State) (fields : Fields) (field text : List ℕ) (read : Read)
    → next_record (by_byte b) s fields field text ≡ Some read → Leaves text read
unfolding next_record
leaves b s fields field [] read h = last_row (ends_at_end s) fields field read h
leaves b s fields field (c ∷ rest) read h =
    let now = step (by_byte b) s c in
    let hit : Read = (fields_after now.1 fields field, now.0, rest) in
    let more = next_record (by_byte b) now.0 (fields_after now.1 fields field) (field_after now.1 c field) rest in
    elim (chosen (is_end now.1) (Some hit) more (Some read) h) [
      | inl p ↦ let same : read ≡ hit = cc in rw same (record {
        some = one_field now.1 fields field p.0;
        between = ends b s c p.0;
        less = omega arith;
      })
      | inr q ↦
          let found = leaves b now.0 (fields_after now.1 fields field) (field_after now.1 c field) rest read q.1 in
          record { some = found.some; between = found.between; less = let l = found.less in omega (arith, l) }
    ]

-- a row takes at least one byte
takes : (b : ℕ) (text : List ℕ) (read : Read) → next_record (by_byte b) st.StartRecord [] [] text ≡ Some read
    → length read.2 < length text
unfolding next_record
takes b [] read h = absurd cc
takes b (c ∷ rest) read h =
    let now = step (by_byte b) st.StartRecord c in
    let hit : Read = (fields_after now.1 [] [], now.0, rest) in
    let more = next_record (by_byte b) now.0 (fields_after now.1 [] []) (field_after now.1 c []) rest in
    elim (chosen (is_end now.1) (Some hit) more (Some read) h) [
      | inl p ↦ let same : read ≡ hit = cc in rw same (omega arith)
      | inr q ↦
          let found = leaves b now.0 (fields_after now.1 [] []) (field_after now.1 c []) rest read q.1 in
          let l = found.less in omega (arith, l)
    ]

same_step : (b c : ℕ) → step (by_byte b) st.AfterCr c ≡ step (by_byte b) st.StartRecord c
same_step b c = grind (arith, nat_tests)

after_cr : (b : ℕ) (text : List ℕ)
    → next_record (by_byte b) st.AfterCr [] [] text ≡ next_record (by_byte b) st.StartRecord [] [] text
unfolding next_record
after_cr b [] = refl
after_cr b (c ∷ text) = rw (same_step b c) refl

from_between : (b : ℕ) (s : State) (text : List ℕ) → IsBetween s
    → next_record (by_byte b) s [] [] text ≡ next_record (by_byte b) st.StartRecord [] [] text
from_between b s text (inl e) = rw e refl
from_between b s text (inr e) = rw e (after_cr b text)

-- ---- the rows of a text, one after the other

abbrev Chain : ℕ → List ℕ → List Fields → Type 0
Chain b text [] = next_record (by_byte b) st.StartRecord [] [] text ≡ None
Chain b text (fields ∷ rows) =
    (s : State) × (rest : List ℕ) × (next_record (by_byte b) st.StartRecord [] [] text ≡ Some (fields, s, rest))
    × Chain b rest rows

records_are : (b n : ℕ) (s : State) (text : List ℕ) (rows : List Fields) → IsBetween s → length text < n → Chain b text rows
    → records_from (by_byte b) n s text ≡ rows
unfolding records_from
records_are b zero s text rows between less chain = absurd (omega (arith, less))
records_are b (suc n) s text [] between less chain = rw (from_between b s text between, chain) refl
records_are b (suc n) s text (fields ∷ rows) between less chain =
    let read : Read = (fields, chain.0, chain.1) in
    let left = leaves b st.StartRecord [] [] text read chain.2 in
    let fewer = takes b text read chain.2 in
    rw (from_between b s text between, chain.2) (ap (λ (more : List Fields). fields ∷ more)
    (records_are b n chain.0 chain.1 rows left.between (omega (arith, less, fewer)) chain.3))

all_records : (b : ℕ) (text : List ℕ) (rows : List Fields) → Chain b text rows → records (by_byte b) text ≡ rows
all_records b text rows chain = records_are b (length text + 1) st.StartRecord text rows (inl refl) (omega arith) chain

chain_of_read : (b line : ℕ) (text : List ℕ) (rows : List ReadRow) → AreRead (by_byte b) line text rows
    → Chain b text (fields_in rows)
chain_of_read b line text [] are = are
chain_of_read b line text (row ∷ rows) are =
    (are.2.state, are.1, are.2.read, chain_of_read b (line + line_feeds are.0) are.1 rows are.4)

chain_of_written : (rows : List Fields) → Chain 44 (table_text 44 rows) (map read_back rows)
unfolding next_record
chain_of_written [] = refl
chain_of_written (row ∷ rows) =
    (st.StartRecord, table_text 44 rows, read-write row (table_text 44 rows), chain_of_written rows)

-- ---- each row has a field

abbrev AllSome : List Fields → Type 0
AllSome [] = ⊤
AllSome (row ∷ rows) = (0 < length row) × AllSome rows

all_some : (b : ℕ) (text : List ℕ) (rows : List Fields) → Chain b text rows → AllSome rows
all_some b text [] chain = tt
all_some b text (fields ∷ rows) chain =
    ((leaves b st.StartRecord [] [] text (fields, chain.0, chain.1) chain.2).some, all_some b chain.1 rows chain.3)

row_back : (head : Bool) (row : Fields) → 0 < length row → read_back (mended_row head row) ≡ mended_row head row
row_back head [] some = absurd (omega (arith, some))
row_back head (field ∷ row) some = refl

rest_back : (rows : List Fields) → AllSome rows → map read_back (map (mended_row false) rows) ≡ map (mended_row false) rows
rest_back [] all = refl
rest_back (row ∷ rows) all = rw (row_back false row all.0, rest_back rows all.1) refl

table_back : (rows : List Fields) → AllSome rows → map read_back (mended_table rows) ≡ mended_table rows
table_back [] all = refl
table_back (row ∷ rows) all = rw (row_back true row all.0, rest_back rows all.1) refl

-- ---- a header begins with no byte order mark

header_stays : (v : Version) (tail : List ℕ)
    → strip_bom (row_text (writer_of 44) (header v) ++ tail) ≡ row_text (writer_of 44) (header v) ++ tail
unfolding strip_bom
header_stays version.One tail = refl
header_stays version.Two tail = refl

table_stays : (separator : Separator) (text : List ℕ) (rows : List Fields) → HasHeader separator text
    → Chain (separator_byte separator) text rows
    → strip_bom (table_text 44 (mended_table rows)) ≡ table_text 44 (mended_table rows)
table_stays separator text [] has chain = absurd (read_apart has.fields has.state has.rest (sym chain ∙ has.read))
table_stays separator text (first ∷ rows) has chain =
    let same : first ≡ has.fields =
    same_fields first has.fields chain.0 has.state chain.1 has.rest (sym chain.2 ∙ has.read) in
    let head : mended_row true first ≡ header has.version = ap (mended_row true) same ∙ has.is_header in
    rw head (header_stays has.version (table_text 44 (map (mended_row false) rows)))

pub rows_kept : (path : List ℕ) (separator : Separator) (marks : List FileChange) (text mended : List ℕ)
    (lines : List (List ℕ)) → HasHeader separator text → IsRewritten path separator marks text mended lines
    → records default_config (strip_bom mended) ≡ mended_table (records (separated_by separator) text)
rows_kept path separator marks text mended lines has is =
    let b = separator_byte separator in
    let rows = fields_in is.rows in
    let chain = chain_of_read b 1 text is.rows is.read in
    ap (λ (m : List ℕ). records default_config (strip_bom m)) is.written
    ∙ ap (λ (m : List ℕ). records default_config m) (table_stays separator text rows has chain)
    ∙ all_records 44 (table_text 44 (mended_table rows)) (map read_back (mended_table rows))
    (chain_of_written (mended_table rows))
    ∙ table_back rows (all_some b text rows chain)
    ∙ sym (ap mended_table (all_records b text rows chain))
