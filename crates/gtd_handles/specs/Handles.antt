-- What handles stand for, and what calls do to them.
use Rattle.std.specs.Prelude.{◌≡◌, ◌≤◌, ◌∷◌, [], ℕ, ℤ, List, Option, Some, Ok, length, slice_get}
use Rattle.gtd_core.specs.declared.domain.Domain.{Domain}
use Rattle.gtd_records.specs.Closing.{AreElements, Restriction}
use Rattle.gtd_core.specs.Parts.{domain_tree}
use Rattle.gtd_text.specs.Reading.{HasNoFault, StandsFor}
use Rattle.gtd_spans.specs.Normal.{IsNormalFor}
use Rattle.gtd_records.specs.File.{IsFile}
use Rattle.gtd_eval.specs.Cursors.{cursor_list}
use Rattle.gtd_handles.specs.Answers.{day_begin, gtd_kind, gtd_no, gtd_yes}
use Rattle.gtd_handles.specs.Holding.{records_of}
use Rattle.gtd_handles.specs.declared.handle.Thing.{Thing}
use Rattle.gtd_handles.specs.declared.handle.Thing.TheVariants as thing

-- what is said of the domain that a handle stands for; any other handle is answered by its kind
abbrev pub OfDomain : Option Thing → ℕ → (Domain → Type 0) → Type 0
OfDomain (Some (thing.Domain found)) answer Says = Says found
OfDomain _ answer Says = answer ≡ gtd_kind

-- what is said of the records that a handle stands for; any other handle is answered by its kind
abbrev pub OfRecords : Option Thing → ℕ → (List Restriction → Type 0) → Type 0
OfRecords (Some (thing.Records shared)) answer Says = Says (records_of shared)
OfRecords _ answer Says = answer ≡ gtd_kind

-- what is said of the text that a handle stands for; any other handle is answered by its kind
abbrev pub OfText : Option Thing → ℕ → (List ℕ → Type 0) → Type 0
OfText (Some (thing.Text bytes)) answer Says = Says bytes.items
OfText _ answer Says = answer ≡ gtd_kind

-- the handle stands for the domain of the text
abbrev pub IsDomainOf : List ℕ → Option Thing → Type 0
IsDomainOf text (Some (thing.Domain found)) = StandsFor text (domain_tree found) × HasNoFault text
IsDomainOf text _ = ⊥

-- the handle stands for the records of the file
abbrev pub AreRecordsOf : List ℕ → Option Thing → Type 0
AreRecordsOf bytes (Some (thing.Records shared)) = IsFile bytes (Ok (records_of shared))
AreRecordsOf bytes _ = ⊥

-- the handle stands for the spans of the set, from the one day up to the other
abbrev pub AreSpansOf : (ℤ → Type 0) → ℤ → ℤ → Option Thing → Type 0
AreSpansOf set from until (Some (thing.Spans cursor)) = IsNormalFor set (day_begin from) (day_begin until) (cursor_list cursor)
AreSpansOf set from until _ = ⊥

-- the handle stands for a text of this kind
abbrev pub IsTextOf : (List ℕ → Type 0) → Option Thing → Type 0
IsTextOf Is (Some (thing.Text bytes)) = Is bytes.items
IsTextOf Is _ = ⊥

-- The first span is taken off the list; or the list is at its end, and stays there.
abbrev pub IsSpanTaken : Option Thing → Option Thing → ℕ → ℤ → ℤ → Type 0
IsSpanTaken (Some (thing.Spans old)) (Some (thing.Spans new)) answer from until =
    ((answer ≡ gtd_yes) → cursor_list old ≡ record { from = from; until = until } ∷ cursor_list new)
    × ((answer ≡ gtd_no) → (cursor_list old ≡ []) × (cursor_list new ≡ [])) × (answer ≤ gtd_yes)
IsSpanTaken (Some (thing.Spans old)) _ answer from until = ⊥
IsSpanTaken _ new answer from until = answer ≡ gtd_kind

-- the handle stands for these records
abbrev pub StandsForRecords : List Restriction → Option Thing → Type 0
StandsForRecords found (Some (thing.Records shared)) = records_of shared ≡ found
StandsForRecords found _ = ⊥

-- yes, and the element at this place among those that the records name; or no, and the place is past the last
abbrev pub IsElementAt : List Restriction → ℕ → ℕ → ℕ → Type 0
IsElementAt found place answer element = (elements : List ℕ) × AreElements found elements
    × (answer ≤ gtd_yes)
    × ((answer ≡ gtd_yes) → slice_get elements place ≡ Some element) × ((answer ≡ gtd_no) → length elements ≤ place)

-- the number of the elements that the records name
abbrev pub IsElementCount : List Restriction → ℕ → Type 0
IsElementCount found count = (elements : List ℕ) × AreElements found elements × (count ≡ length elements)
