-- The migrated file of restrictions that were read is a file of just those restrictions.
use Rattle.std.proofs.Common.{◌≡◌, ◌∙◌, ◌<◌, ◌≤◌, ◌+◌, ◌^◌, ap, refl, sym, subst, arith, inl, inr, cond, ℕ, zero, suc, List}
use Rattle.std.proofs.Common.{[], ◌∷◌, ◌++◌, length, length-append, append_assoc, map, Bool, true, false, Option, Some, None}
use Rattle.std.specs.Prelude.{codes, decimal, flat_map, nat_le, IfSome, MatchOption, Result, Ok, Err, ◌&&◌, ◌||◌, ◌==◌}
use Rattle.std.specs.Char.{is_ascii_digit}
use Rattle.std.specs.List.{list_all, list_any}
use Rattle.std.specs.Str.Parse.{digits_value}
use Rattle.std.proofs.lemmas.Bool.{leb-true}
use Rattle.std.proofs.lemmas.Bool.Decides.{nat_tests}
use Rattle.std.proofs.lemmas.List.{length-map}
use Rattle.std.proofs.lemmas.List.Folds.{flat_map-map, list_any-append}
use Rattle.csv.proofs.RoundTrip.{read-write-many}
use Rattle.csv.specs.Machine.{next_record}
use Rattle.csv.specs.Reading.{default_config, records, records_from, records_next, strip_bom}
use Rattle.csv.specs.Writing.{default_writer, fields_text, is_blank, needs_byte, row_text}
use Rattle.csv.specs.declared.parser.State.TheVariants as st
use Rattle.gtd_core.specs.Trees.{Tree}
use Rattle.gtd_core.specs.declared.fault.TextFault.{TextFault}
use Rattle.gtd_records.specs.facts.FileFacts.{record_count}
use Rattle.gtd_rows.specs.facts.NumberFacts.{number_below}
use Rattle.gtd_records.specs.facts.OneAnswer.{one_file}
use Rattle.gtd_records.specs.facts.RowFacts.{full_row}
use Rattle.gtd_rows.specs.Columns.{closed_of, number_of, Fields, IsOrdered, AreTypesRead, vehicles_of}
use Rattle.gtd_core.specs.Limits.{most_file_bytes, most_rows}
use Rattle.gtd_records.specs.facts.FileForms.{computed_table, table_of}
use Rattle.gtd_records.specs.ComputedFile.{AreRecords, AreSoundRows, IsTable}
use Rattle.gtd_records.specs.ComputedRow.{IsDomainColumn, IsFullRow, IsRow}
use Rattle.gtd_records.specs.File.{IsFile, header}
use Rattle.gtd_records.specs.ComputedRow.{with_domain}
use Rattle.gtd_records.specs.Closing.{Restriction}
use Rattle.gtd_rows.specs.declared.direction.Closed.{Closed}
use Rattle.gtd_rows.specs.declared.direction.Closed.TheVariants.{One, Both}
use Rattle.gtd_rows.specs.declared.direction.Direction.TheVariants.{Positive, Negative}
use Rattle.gtd_records.specs.declared.fault.RecordFault.{RecordFault}
use Rattle.gtd_records.specs.declared.fault.RecordFault.TheVariants as fault
use Rattle.gtd_rows.specs.declared.vehicles.Vehicles.{Vehicles}
use Rattle.gtd_rows.specs.declared.vehicles.Version.{Version}
use Rattle.gtd_rows.specs.declared.vehicles.Version.TheVariants as version
use Rattle.gtd_report.specs.Putting.{text_of}
use Rattle.gtd_migrate.specs.Migrated.{closed_word, domain_text, header_line, migrated, row_line, vehicles_text}
use Rattle.gtd_migrate.proofs.CodesFacts.{IsNamed, number_read, ordered_itself, vehicles_named, vehicles_plain, vehicles_read}
use Rattle.gtd_migrate.proofs.TextFacts.{IsPlain, canonical_unquoted, decimal_plain, domain_read}
use Rattle.gtd_text.specs.facts.Printable.{IsPrintableTree, read_is_printable}

-- ---- what was read can be printed

-- each part of a restriction can be printed and read again
pub record IsPrintable (r : Restriction) : Type 0 where
  pub element : r.element < 10 ^ 10
  pub vehicles : IsNamed r.vehicles
  pub domain : IfSome r.domain IsPrintableTree

abbrev pub ArePrintable : List Restriction → Type 0
ArePrintable [] = Unit {0}
ArePrintable (r ∷ found) = IsPrintable r × ArePrintable found

number_short : (text : List ℕ) (n : ℕ) → number_of text ≡ Some n → length text ≤ 10
number_short text n e = by_form (nat_le 1 (length text)) (nat_le (length text) 10) (list_all is_ascii_digit text) refl e
  where
    by_form : (a b d : Bool) → nat_le (length text) 10 ≡ b → ◌≡◌ {A = Option ℕ}
        (cond (a && b && d) (Some (digits_value 10 text)) None) (Some n) → length text ≤ 10
    by_form a true d ten h = leb-true (length text) 10 ten
    by_form true false d ten h = absurd cc
    by_form false false d ten h = absurd cc

match_some : {A : Type 0} (o : Option A) (P : Type 0) (Q : A → Type 0) → (P → ⊥) → MatchOption o P Q → (x : A) × (o ≡ Some x)
    × Q x
match_some None P Q none m = absurd (none m)
match_some (Some x) P Q none m = (x, refl, m)

column_printable : (text : List ℕ) (domain : Option Tree) → IsDomainColumn text (Ok domain) → IfSome domain IsPrintableTree
column_printable text None is = tt
column_printable [] (Some tree) is = absurd cc
column_printable (b ∷ text) (Some tree) is = read_is_printable (b ∷ text) tree is.0 is.1

made : (version : Version) (row element : ℕ) (closed : Closed) (given types : Vehicles) (number vehicles domain : List ℕ)
    (read : Result (Option Tree) TextFault) (r : Restriction)
    → number_of number ≡ Some element → vehicles_of version vehicles ≡ Some given → IsOrdered given types
    → IsDomainColumn domain read
    → Ok r ≡ with_domain row element closed types read → IsPrintable r
made version row element closed given types number vehicles domain (Err why) r a b d e is = absurd cc
made version row element closed given types number vehicles domain (Ok tree) r a b d e is =
    let same : r ≡ record { element = element; closed = closed; vehicles = types; domain = tree } = cc in
    subst IsPrintable (sym same) (record {
      element = number_below number element 10 a (number_short number element a);
      vehicles = vehicles_named version vehicles given types b d;
      domain = column_printable domain tree e;
    })

full_printable : (version : Version) (row : ℕ) (element closed vehicles domain : List ℕ) (r : Restriction)
    → IsFullRow version row element closed vehicles domain (Ok r) → IsPrintable r
full_printable version row element closed vehicles domain r is =
    let a = match_some (number_of element) _ _ (λ (e : ◌≡◌ {A = Result Restriction RecordFault} (Ok r) (Err (fault.Element row))).
    cc) is in
    let b = match_some (closed_of closed) _ _
    (λ (e : ◌≡◌ {A = Result Restriction RecordFault} (Ok r) (Err (fault.Direction row))). cc) a.2 in
    let n = match_some (vehicles_of version vehicles) _ _ (λ
    (e : ◌≡◌ {A = Result Restriction RecordFault} (Ok r) (Err (fault.Vehicle row))). cc) b.2 in
    made version row a.0 b.0 n.0 n.2.0 element vehicles domain n.2.1 r a.1 n.1 n.2.2 n.2.3 n.2.4

row_printable : (version : Version) (row : ℕ) (fields : Fields) (r : Restriction) → IsRow version row fields (Ok r)
    → IsPrintable r
row_printable version row [] r is = absurd cc
row_printable version row (a ∷ []) r is = absurd cc
row_printable version row (a ∷ b ∷ []) r is = absurd cc
row_printable version row (a ∷ b ∷ c ∷ []) r is = absurd cc
row_printable version row (a ∷ b ∷ c ∷ d ∷ []) r is = full_printable version row a b c d r is
row_printable version row (a ∷ b ∷ c ∷ d ∷ e ∷ more) r is = absurd cc

records_printable : (version : Version) (number : ℕ) (rows : List Fields) (found : List Restriction)
    → AreRecords version number rows found → ArePrintable found
records_printable version number [] found are = subst ArePrintable (sym are) tt
records_printable version number (row ∷ rows) found are =
    subst ArePrintable (sym are.4) (
      row_printable version number row are.0 are.2,
      records_printable version (number + 1) rows are.1 are.3,
    )

table_printable : (text : List Fields) (found : List Restriction) → IsTable text (Ok found) → ArePrintable found
table_printable text found (inl t) = records_printable t.0 1 t.1 found t.3.1
table_printable text found (inr t) = absurd (cc (t.1))

pub file_printable : (bytes : List ℕ) (found : List Restriction) → IsFile bytes (Ok found) → ArePrintable found
file_printable bytes found (inl f) = table_printable _ found (computed_table _ _ f.1)
file_printable bytes found (inr f) = absurd (cc (f.1))

table_few : (text : List Fields) (found : List Restriction) → IsTable text (Ok found) → length found ≤ most_rows
table_few text found (inl t) =
    let few = t.3.0 in
    let same = record_count t.0 1 t.1 found t.3.1 in
    omega arith
table_few text found (inr t) = absurd (cc (t.1))

pub file_few : (bytes : List ℕ) (found : List Restriction) → IsFile bytes (Ok found) → length found ≤ most_rows
file_few bytes found (inl f) = table_few _ found (computed_table _ _ f.1)
file_few bytes found (inr f) = absurd (cc (f.1))

-- ---- a row is read as its restriction

pub closed_plain : (closed : Closed) → IsPlain (closed_word closed)
closed_plain (One Positive) = refl
closed_plain (One Negative) = refl
closed_plain Both = refl

closed_read : (closed : Closed) → closed_of (closed_word closed) ≡ Some closed
closed_read (One Positive) = refl
closed_read (One Negative) = refl
closed_read Both = refl

pub domain_plain : (domain : Option Tree) → IfSome domain IsPrintableTree → IsPlain (domain_text domain)
domain_plain None is = refl
domain_plain (Some tree) is = canonical_unquoted tree is.valid

column_read : (domain : Option Tree) → IfSome domain IsPrintableTree → IsDomainColumn (domain_text domain) (Ok domain)
column_read None is = refl
column_read (Some tree) is = domain_read tree is

-- the columns of a restriction
abbrev columns_of : Restriction → Fields
columns_of r = decimal r.element ∷ closed_word r.closed ∷ vehicles_text r.vehicles ∷ domain_text r.domain ∷ []

vehicles_are : (v : Vehicles) → IsNamed v → AreTypesRead (vehicles_of version.Two (vehicles_text v)) (Some v)
vehicles_are v is = rw (vehicles_read v is) (v, ordered_itself v is, refl)

row_read : (row : ℕ) (r : Restriction) → IsPrintable r → IsRow version.Two row (columns_of r) (Ok r)
row_read row r p =
    full_row version.Two row (columns_of r) (decimal r.element) (closed_word r.closed) (vehicles_text r.vehicles)
    (domain_text r.domain)
    r.element r.closed r.vehicles (Ok r.domain) refl (number_read r.element p.element) (closed_read r.closed)
    (vehicles_are r.vehicles p.vehicles) (column_read r.domain p.domain)

rows_read : (number : ℕ) (found : List Restriction) → ArePrintable found
    → AreRecords version.Two number (map columns_of found) found
rows_read number [] p = refl
rows_read number (r ∷ found) p = (r, found, row_read number r p.0, rows_read (number + 1) found p.1, refl)

-- ---- the lines are read as the columns

-- the row of four fields that need no quotes
row_of : (a b c d : List ℕ) → IsPlain a → IsPlain b → IsPlain c → IsPlain d
    → row_text default_writer (a ∷ b ∷ c ∷ d ∷ []) ≡ a ++ codes "," ++ b ++ codes "," ++ c ++ codes "," ++ d ++ codes "\n"
unfolding fields_text is_blank
row_of a b c d p q r s = rw (p, q, r, s) (simp append_assoc)

line_is : (r : Restriction) → IsPrintable r → row_line r ≡ row_text default_writer (columns_of r)
line_is r p =
    sym (row_of (decimal r.element) (closed_word r.closed) (vehicles_text r.vehicles) (domain_text r.domain)
    (decimal_plain r.element (let e = p.element in omega arith)) (closed_plain r.closed) (vehicles_plain r.vehicles p.vehicles)
    (domain_plain r.domain p.domain))

header_is : header_line ≡ row_text default_writer (header version.Two)
unfolding fields_text is_blank
header_is = refl

-- a row that was written is read first
row_then : (x y : List ℕ) (ys : List (List ℕ)) (tail : List ℕ) (fuel : ℕ)
    → records_from default_config (suc fuel) st.StartRecord (row_text default_writer (x ∷ y ∷ ys) ++ tail) ≡ (x ∷ y ∷ ys)
    ∷ records_from default_config fuel st.StartRecord tail
unfolding records_from
row_then x y ys tail fuel = ap (records_next (records_from default_config fuel)) (read-write-many x y ys tail)

lines_read : (found : List Restriction) (fuel : ℕ) → length found < fuel → ArePrintable found
    → records_from default_config fuel st.StartRecord (flat_map row_line found) ≡ map columns_of found
unfolding records_from next_record
lines_read [] zero h p = refl
lines_read [] (suc fuel) h p = refl
lines_read (r ∷ found) zero h p = absurd (omega arith)
lines_read (r ∷ found) (suc fuel) h p =
    ap (λ (t : List ℕ). records_from default_config (suc fuel) st.StartRecord (t ++ flat_map row_line found)) (line_is r p.0)
    ∙ row_then (decimal r.element) (closed_word r.closed) (vehicles_text r.vehicles ∷ domain_text r.domain ∷ [])
    (flat_map row_line found) fuel
    ∙ ap (λ (l : List Fields). columns_of r ∷ l) (lines_read found fuel (omega arith) p.1)

-- there are no more lines than bytes
lines_long : (found : List Restriction) → length found ≤ length (flat_map row_line found)
lines_long [] = omega arith
lines_long (r ∷ found) =
    let more = lines_long found in
    let l : 0 < length (row_line r) = simp length-append (omega arith) in
    let all = length-append (row_line r) (flat_map row_line found) in
    omega arith

all_read : (found : List Restriction) (fuel : ℕ) → length found + 1 < fuel → ArePrintable found
    → records_from default_config fuel st.StartRecord (header_line ++ flat_map row_line found) ≡ header version.Two
    ∷ map columns_of found
all_read found zero h p = absurd (omega arith)
all_read found (suc fuel) h p =
    let lines = flat_map row_line found in
    ap (λ (t : List ℕ). records_from default_config (suc fuel) st.StartRecord (t ++ lines)) header_is
    ∙ row_then (codes "element") (codes "direction") (codes "vehicles" ∷ codes "domain" ∷ []) lines fuel
    ∙ ap (λ (l : List Fields). header version.Two ∷ l) (lines_read found fuel (omega arith) p)

no_mark : (lines : List ℕ) → strip_bom (header_line ++ lines) ≡ header_line ++ lines
unfolding strip_bom
no_mark lines = refl

pub written : (found : List Restriction) → text_of (migrated found) ≡ header_line ++ flat_map row_line found
written found = ap (λ (l : List ℕ). header_line ++ l) (flat_map-map (λ (line : List ℕ). line) row_line found)

pub written_is_file : (found : List Restriction) → length found ≤ most_rows → ArePrintable found
    → length (header_line ++ flat_map row_line found) ≤ most_file_bytes
    → IsFile (header_line ++ flat_map row_line found) (Ok found)
written_is_file found few p fits =
    let lines = flat_map row_line found in
    let long = lines_long found in
    let head = length-append header_line lines in
    let rows : length (map columns_of found) ≡ length found = simp length-map in
    let all : records default_config (strip_bom (header_line ++ lines)) ≡ header version.Two ∷ map columns_of found =
    rw (no_mark lines) (all_read found (length (header_line ++ lines) + 1) (omega arith) p) in
    inl (fits, table_of _ _ (inl (version.Two, map columns_of found, all, (omega arith, rows_read 1 found p))))

printed_is_file : (found : List Restriction) → length found ≤ most_rows → ArePrintable found
    → length (text_of (migrated found)) ≤ most_file_bytes → IsFile (text_of (migrated found)) (Ok found)
printed_is_file found few p fits =
    let w = written found in
    let fits_too : length (header_line ++ flat_map row_line found) ≤ most_file_bytes =
    subst (λ (t : List ℕ). length t ≤ most_file_bytes) w fits in
    subst (λ (t : List ℕ). IsFile t (Ok found)) (sym w) (written_is_file found few p fits_too)

-- the migrated file of the restrictions of sound rows is a file of just these
pub rows_are_file : (v : Version) (rows : List Fields) (found : List Restriction) → AreSoundRows v rows found
    → length (text_of (migrated found)) ≤ most_file_bytes → IsFile (text_of (migrated found)) (Ok found)
rows_are_file v rows found sound fits =
    let few = sound.0 in
    let same = record_count v 1 rows found sound.1 in
    printed_is_file found (omega arith) (records_printable v 1 rows found sound.1) fits

-- the migrated file of a record file is a file of just the same restrictions
pub migrated_is_file : (bytes : List ℕ) (found : List Restriction) → IsFile bytes (Ok found)
    → length (text_of (migrated found)) ≤ most_file_bytes → IsFile (text_of (migrated found)) (Ok found)
migrated_is_file bytes found file fits =
    printed_is_file found (file_few bytes found file) (file_printable bytes found file) fits

-- ---- and the migrated file stands for nothing else

ok_same : {x y : List Restriction} → ◌≡◌ {A = Result (List Restriction) RecordFault} (Ok x) (Ok y) → x ≡ y
ok_same e = cc

-- what a migrated file stands for is what was migrated
pub same_restrictions : (bytes : List ℕ) (found again : List Restriction) → IsFile bytes (Ok found)
    → IsFile (text_of (migrated found)) (Ok again) → again ≡ found
same_restrictions bytes found again file (inl f) =
    let text = text_of (migrated found) in
    ok_same (one_file text (Ok again) (Ok found) (inl f) (migrated_is_file bytes found file f.0))
same_restrictions bytes found again file (inr f) = absurd (cc (f.1))

-- ---- no field needs quotes

-- no byte is a quotation mark
abbrev Unquoted : List ℕ → Type 0
Unquoted text = list_any (λ (b : ℕ). b == 34) text ≡ false

unquoted_joined : (a b : List ℕ) → Unquoted a → Unquoted b → Unquoted (a ++ b)
unquoted_joined a b p q = list_any-append (λ (c : ℕ). c == 34) a b ∙ rw (p, q) refl

either_false : (a b : Bool) → (a || b) ≡ false → (a ≡ false) × (b ≡ false)
either_false false b h = (refl, h)
either_false true b h = absurd cc

plain_byte : (b : ℕ) → needs_byte default_writer b ≡ false → (b == 34) ≡ false
plain_byte b h = grind (arith, nat_tests)

plain_unquoted : (text : List ℕ) → IsPlain text → Unquoted text
plain_unquoted [] p = refl
plain_unquoted (b ∷ text) p =
    let e = either_false (needs_byte default_writer b) _ p in
    rw (plain_byte b e.0, plain_unquoted text e.1) refl

line_unquoted : (r : Restriction) → IsPrintable r → Unquoted (row_line r)
line_unquoted r p =
    let a = decimal r.element in
    let b = closed_word r.closed in
    let c = vehicles_text r.vehicles in
    let d = domain_text r.domain in
    let element = plain_unquoted a (decimal_plain r.element (let e = p.element in omega arith)) in
    let closed = plain_unquoted b (closed_plain r.closed) in
    let vehicles = plain_unquoted c (vehicles_plain r.vehicles p.vehicles) in
    let domain = plain_unquoted d (domain_plain r.domain p.domain) in
    unquoted_joined (a ++ codes "," ++ b ++ codes "," ++ c ++ codes "," ++ d) (codes "\n")
    (unquoted_joined (a ++ codes "," ++ b ++ codes "," ++ c ++ codes ",") d
    (unquoted_joined (a ++ codes "," ++ b ++ codes "," ++ c) (codes ",")
    (unquoted_joined (a ++ codes "," ++ b ++ codes ",") c
    (unquoted_joined (a ++ codes "," ++ b) (codes ",")
    (unquoted_joined (a ++ codes ",") b (unquoted_joined a (codes ",") element refl) closed) refl) vehicles) refl) domain) refl

lines_unquoted : (found : List Restriction) → ArePrintable found → Unquoted (flat_map row_line found)
lines_unquoted [] p = refl
lines_unquoted (r ∷ found) p =
    unquoted_joined (row_line r) (flat_map row_line found) (line_unquoted r p.0) (lines_unquoted found p.1)

-- no byte of a migrated file is a quotation mark
pub file_unquoted : (bytes : List ℕ) (found : List Restriction) → IsFile bytes (Ok found)
    → list_any (λ (b : ℕ). b == 34) (text_of (migrated found)) ≡ false
file_unquoted bytes found file =
    ap (list_any (λ (b : ℕ). b == 34)) (written found)
    ∙ unquoted_joined header_line (flat_map row_line found) refl (lines_unquoted found (file_printable bytes found file))
