-- A migrated file in parts.
use Rattle.std.proofs.Common.{◌≡◌, ◌∙◌, ◌≤◌, ◌+◌, ◌==◌, ◌||◌, ◌++◌, refl, subst, sym, ap, arith, Bool, true, false, ℕ, List, []}
use Rattle.std.proofs.Common.{◌∷◌, length, map}
use Rattle.std.specs.Prelude.{decimal, flat_map, Ok}
use Rattle.std.specs.List.{list_any}
use Rattle.std.proofs.lemmas.Bool.Decides.{nat_tests}
use Rattle.std.proofs.lemmas.Grind.{flat_map-append}
use Rattle.std.proofs.lemmas.List.{length-append, map-append}
use Rattle.csv.specs.Quoting.{needs_byte}
use Rattle.csv.specs.Writing.{default_writer}
use Rattle.gtd_core.specs.Limits.{most_file_bytes, most_rows}
use Rattle.gtd_records.specs.Closing.{Restriction}
use Rattle.gtd_records.specs.File.{IsFile}
use Rattle.gtd_report.specs.Putting.{text_of}
use Rattle.gtd_migrate.specs.Migrated.{IsPlainField, IsPlainRow, closed_word, domain_text, header_line, is_mark, migrated}
use Rattle.gtd_migrate.specs.Migrated.{row_line, vehicles_text}
use Rattle.gtd_migrate.proofs.CodesFacts.{vehicles_plain}
use Rattle.gtd_migrate.proofs.MigrateFacts.{ArePrintable, IsPrintable, closed_plain, domain_plain, file_few, file_printable}
use Rattle.gtd_migrate.proofs.MigrateFacts.{written, written_is_file}
use Rattle.gtd_migrate.proofs.TextFacts.{IsPlain, decimal_plain}

-- ---- a row has no marks of its own

no_mark : (b : ℕ) → needs_byte default_writer b ≡ false → is_mark b ≡ false
no_mark b h = grind (arith, nat_tests)

neither : (a b : Bool) → (a || b) ≡ false → (a ≡ false) × (b ≡ false)
neither false b h = (refl, h)
neither true b h = absurd cc

plain_field : (text : List ℕ) → IsPlain text → IsPlainField text
plain_field [] h = refl
plain_field (b ∷ text) h =
    let parts = neither (needs_byte default_writer b) (list_any (needs_byte default_writer) text) h in
    rw (no_mark b parts.0, plain_field text parts.1) refl

plain_row : (r : Restriction) → IsPrintable r → IsPlainRow (row_line r)
plain_row r p = record {
  element = decimal r.element;
  direction = closed_word r.closed;
  vehicles = vehicles_text r.vehicles;
  domain = domain_text r.domain;
  element_plain = plain_field (decimal r.element) (decimal_plain r.element (let e = p.element in omega arith));
  direction_plain = plain_field (closed_word r.closed) (closed_plain r.closed);
  vehicles_plain = plain_field (vehicles_text r.vehicles) (vehicles_plain r.vehicles p.vehicles);
  domain_plain = plain_field (domain_text r.domain) (domain_plain r.domain p.domain);
  whole = refl;
}

-- ---- the parts of what can be printed

front : (one two : List Restriction) → ArePrintable (one ++ two) → ArePrintable one
front [] two p = tt
front (r ∷ one) two p = (p.0, front one two p.1)

back : (one two : List Restriction) → ArePrintable (one ++ two) → ArePrintable two
back [] two p = p
back (r ∷ one) two p = back one two p.1

-- each row of a migrated file is one line of four plain fields
pub plain_lines : (bytes : List ℕ) (one two : List Restriction) (r : Restriction) → IsFile bytes (Ok (one ++ r ∷ two))
    → IsPlainRow (row_line r)
plain_lines bytes one two r file = plain_row r (back one (r ∷ two) (file_printable bytes (one ++ r ∷ two) file)).0

-- the text of the lines up to a cut, and of those behind it
pub text_in_parts : (one two : List Restriction)
    → text_of (migrated (one ++ two)) ≡ text_of (migrated one) ++ text_of (map row_line two)
text_in_parts one two =
    ap (λ (rows : List (List ℕ)). text_of (header_line ∷ rows)) (map-append row_line one two)
    ∙ flat_map-append (λ (line : List ℕ). line) (migrated one) (map row_line two)

-- ---- each part stands for its restrictions

module _ (bytes : List ℕ) (one two : List Restriction) (file : IsFile bytes (Ok (one ++ two)))
    (fits : length (text_of (migrated (one ++ two))) ≤ most_file_bytes) where
  printable : ArePrintable (one ++ two)
  printable = file_printable bytes (one ++ two) file

  few : length one + length two ≤ most_rows
  few = rw (length-append one two) at (file_few bytes (one ++ two) file)

  room : length header_line + (length (flat_map row_line one) + length (flat_map row_line two)) ≤ most_file_bytes
  room =
      let all = written (one ++ two) ∙ ap (λ (t : List ℕ). header_line ++ t) (flat_map-append row_line one two) in
      let a = length-append header_line (flat_map row_line one ++ flat_map row_line two) in
      let b = length-append (flat_map row_line one) (flat_map row_line two) in
      let l = ap length all in
      omega arith

  part : (rows : List Restriction) → ArePrintable rows → length rows ≤ most_rows
      → length header_line + length (flat_map row_line rows) ≤ most_file_bytes
      → IsFile (text_of (migrated rows)) (Ok rows)
  part rows p small short =
      subst (λ (t : List ℕ). IsFile t (Ok rows)) (sym (written rows))
      (written_is_file rows small p (let l = length-append header_line (flat_map row_line rows) in omega arith))

  pub parts_are_files : IsFile (text_of (migrated one)) (Ok one) × IsFile (text_of (migrated two)) (Ok two)
  parts_are_files =
      let n = few in
      let l = room in (
        part one (front one two printable) (omega arith) (omega arith),
        part two (back one two printable) (omega arith) (omega arith),
      )
