-- What reading a file of tags makes of its rows.
use Rattle.std.specs.Prelude.{◌≡◌, ◌↔◌, ◌++◌, ℕ, Bool, ◌&&◌, true, false, List, ◌==◌, map, IsTrue}
use Rattle.std.specs.BTreeSet.{BTreeSet, contains}
use Rattle.std.specs.List.{list_any}
use Rattle.std.specs.Ordering.{nat_cmp, ordering_then}
use Rattle.std.specs.declared.cmp.Ordering.{Ordering}
use Rattle.gtd_rows.specs.Columns.{Fields}
use Rattle.gtd_conditional_tags.specs.File.{header}
use Rattle.gtd_conditional_tags.specs.Keys.{form_of}
use Rattle.gtd_conditional_tags.specs.Rows.{RowSays, Said, fault_in, row_of, said_by, tag_in}
use Rattle.gtd_conditional_tags.specs.declared.table.Reading.{Reading}

-- an element and a key, as numbers of the mode and the form
abbrev pub SeenKey : Type 0
SeenKey = ℕ × ℕ × ℕ

abbrev pub seen_cmp : SeenKey → SeenKey → Ordering
seen_cmp one other =
    ordering_then (ordering_then (nat_cmp one.0 other.0) (nat_cmp one.1 other.1)) (nat_cmp one.2 other.2)

-- a tag has this element and key
abbrev pub is_seen_as : ℕ → ℕ → ℕ → Said → Bool
is_seen_as element mode form tag = (tag.element == element) && ((tag.key.mode == mode) && (form_of tag.key == form))

-- the set has exactly the elements and keys of the tags
abbrev pub AreSeen : BTreeSet SeenKey → List Said → Type 0
AreSeen seen tags = (element mode form : ℕ)
    → contains seen_cmp seen (element, mode, form) ≡ list_any (is_seen_as element mode form) tags

-- what a row says was added
pub record Adds (old new : Reading) (says : RowSays) : Type 0 where
  pub means : new.means ≡ old.means
  pub seen : AreSeen new.seen (map said_by new.found.tags.items)
  pub tags : map said_by new.found.tags.items ≡ map said_by old.found.tags.items ++ tag_in says
  pub faults : new.found.faults.items ≡ old.found.faults.items ++ fault_in says

-- the first record is the header, or is not; nothing is added
abbrev pub Begins : Reading → Fields → Reading → Bool → Type 0
Begins old first new is = (IsTrue is ↔ (first ≡ header)) × (new ≡ old)

-- what the row says is added, if the set has the elements and keys of the tags before it
abbrev pub Takes : Reading → ℕ → Fields → Reading → Bool → Type 0
Takes old number row new false = ⊥
Takes old number row new true =
    AreSeen old.seen (map said_by old.found.tags.items)
    → Adds old new (row_of old.means.now.rows.items (map said_by old.found.tags.items) number row)
