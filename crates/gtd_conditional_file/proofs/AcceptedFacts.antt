-- The text that is put for a file of tags is a record file of exactly the restrictions of its rows.
use Rattle.std.proofs.Common.{◌≡◌, ◌<◌, ◌≤◌, ◌^◌, arith, refl, subst, sym, ℕ, suc, List, [], ◌∷◌, ◌++◌, length}
use Rattle.std.proofs.Common.{Option, Some, None}
use Rattle.std.specs.List.{Contains}
use Rattle.std.specs.Prelude.{option_map, IfSome, Ok}
use Rattle.gtd_core.specs.Limits.{most_file_bytes, most_rows}
use Rattle.gtd_core.specs.Parts.{domain_tree}
use Rattle.gtd_core.specs.Trees.{Tree}
use Rattle.gtd_core.specs.declared.domain.Domain.{Domain}
use Rattle.gtd_core.specs.facts.Leaves.{leaves_are_valid}
use Rattle.gtd_text.specs.facts.Printable.{IsPrintableTree}
use Rattle.gtd_hours_options.specs.Readings.{HowRead}
use Rattle.gtd_migrate.proofs.CodesFacts.{AreTypes, IsNamed}
use Rattle.gtd_migrate.proofs.MigrateFacts.{ArePrintable, IsPrintable, written, written_is_file}
use Rattle.gtd_migrate.specs.Migrated.{migrated}
use Rattle.gtd_records.specs.Closing.{Restriction}
use Rattle.gtd_records.specs.File.{IsFile}
use Rattle.gtd_rows.specs.declared.vehicles.Vehicles.{Vehicles}
use Rattle.gtd_rows.specs.declared.vehicles.Vehicles.TheVariants as vehicles
use Rattle.gtd_report.specs.Putting.{text_of}
use Rattle.gtd_conditional_means.specs.declared.meaning.MeansRow.{MeansRow}
use Rattle.gtd_conditional_rows.specs.Types.{HasType, IsVehicle}
use Rattle.gtd_conditional_rows.specs.declared.listing.Listing.{Listing}
use Rattle.gtd_conditional_rows.specs.declared.listing.Listing.TheVariants as listing
use Rattle.gtd_conditional_rows.specs.declared.types.Types.{Types}
use Rattle.gtd_conditional_elements.specs.File.{AreOfFile}
use Rattle.gtd_conditional_elements.specs.declared.found.ElementRow.{ElementRow}
use Rattle.gtd_conditional_file.specs.Records.{AreRestrictions, IsRestrictionOf}
use Rattle.gtd_conditional_file.specs.Vehicles.{AreNamed, AreNumbers, IsNamedAs}
use Rattle.gtd_conditional_file.proofs.SoundFacts.{AreSoundRows, IsSoundRow, rows_of_file}

-- ---- vehicle types

are_types : (codes : List ℕ) → ((t : ℕ) → Contains codes t → IsVehicle t) → AreTypes codes
are_types [] within = tt
are_types (x ∷ codes) within =
    let first = within x (0, omega arith, refl) in
    let low = first.0 in
    let high = first.1 in (
      omega arith,
      omega arith,
      are_types codes (λ t c. within t (suc c.0, (let l = c.1 in omega arith), c.2)),
    )

some_code : (codes : List ℕ) (t : ℕ) → Contains codes t → 0 < length codes
some_code codes t c = let l = c.1 in omega arith

not_empty : (codes : List ℕ) → (vehicles.AllBut codes ≡ vehicles.AllBut [] → ⊥) → 0 < length codes
not_empty [] some = absurd (some refl)
not_empty (x ∷ codes) some = omega arith

-- the types of which a list is written
of_list : (listed : Listing) (codes : List ℕ) → IsNamedAs listed (vehicles.Only codes) → (types : Types) × AreNumbers types codes
of_list listing.Every codes is = absurd is
of_list (listing.Only types) codes is = (types, is)
of_list (listing.AllBut types) codes is = absurd is

of_others : (listed : Listing) (codes : List ℕ) → IsNamedAs listed (vehicles.AllBut codes)
    → (types : Types) × AreNumbers types codes
of_others listing.Every codes is = absurd is
of_others (listing.Only types) codes is = absurd is
of_others (listing.AllBut types) codes is = (types, is)

-- a record file can name the types of a set that is not empty
named : (types : Types) (names : Vehicles) (t : ℕ) → IsVehicle t → HasType types t → AreNamed types names → IsNamed names
named types vehicles.Every t vehicle has are = tt
named types (vehicles.Only codes) t vehicle has are =
    let numbers = (of_list are.listed codes are.written).1 in record {
      order = numbers.ascending;
      some = some_code codes t ((are.same t vehicle).1 has);
      each = are_types codes numbers.vehicles;
    }
named types (vehicles.AllBut codes) t vehicle has are =
    let numbers = (of_others are.listed codes are.written).1 in record {
      order = numbers.ascending;
      some = not_empty codes are.some_other;
      each = are_types codes numbers.vehicles;
    }

-- ---- restrictions that can be written and read again

domain_printable : (domain : Option Domain) → IfSome (option_map domain_tree domain) IsPrintableTree
domain_printable None = tt
domain_printable (Some domain) = record { valid = leaves_are_valid domain.expr; few = domain.few_leaves }

printable_one : (row : ElementRow) (r : Restriction) → IsSoundRow row → IsRestrictionOf row r → IsPrintable r
printable_one row r sound is = record {
  element = subst (λ (n : ℕ). n < 10 ^ 10) (sym is.element) sound.element;
  vehicles = named row.row.types r.vehicles sound.some.0 sound.some.1 sound.some.2 is.vehicles;
  domain = subst (λ (tree : Option Tree). IfSome tree IsPrintableTree) (sym is.domain) (domain_printable row.row.domain);
}

printable : (rows : List ElementRow) (found : List Restriction) → AreSoundRows rows → AreRestrictions rows found
    → ArePrintable found × (length found ≡ length rows)
printable [] found sound are = rw are (tt, refl)
printable (row ∷ rows) found sound are =
    let one = printable_one row are.0 sound.0 are.2 in
    let more = printable rows are.1 sound.1 are.3 in
    let count = more.1 in
    rw (are.4) ((one, more.0), omega arith)

pub accepted : (how : HowRead) (table : List MeansRow) (bytes : List ℕ) (rows : List ElementRow) (found : List Restriction)
    → AreOfFile how table bytes rows [] → AreRestrictions rows found → length rows ≤ most_rows
    → length (text_of (migrated found)) ≤ most_file_bytes → IsFile (text_of (migrated found)) (Ok found)
accepted how table bytes rows found file are few fits =
    let can = printable rows found (rows_of_file how table bytes rows [] file) are in
    let count = can.1 in
    let small : length found ≤ most_rows = omega arith in
    let text = written found in
    subst (λ (t : List ℕ). IsFile t (Ok found)) (sym text)
    (written_is_file found small can.0 (subst (λ (t : List ℕ). length t ≤ most_file_bytes) text fits))
