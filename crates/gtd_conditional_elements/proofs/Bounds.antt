-- How many rows the elements of a file have at most.
use Rattle.std.proofs.Common.{◌≡◌, ◌≤◌, ◌+◌, ◌*◌, ap, arith, refl, inl, inr, ℕ, Bool, true, false, not}
use Rattle.std.proofs.Common.{List, [], ◌∷◌, ◌++◌, length, length-append}
use Rattle.std.proofs.lemmas.List.{length-map}
use Rattle.std.specs.Prelude.{◌==◌, filter, ◌⊎◌, Result, Ok, Err, Some, None}
use Rattle.gtd_core.specs.Limits.{most_rows}
use Rattle.gtd_rows.specs.Columns.{Fields}
use Rattle.gtd_hours_options.specs.Readings.{HowRead}
use Rattle.gtd_conditional_means.specs.declared.meaning.MeansRow.{MeansRow}
use Rattle.gtd_conditional_rows.specs.Rows.{AreOrdered, AreRows, is_listed}
use Rattle.gtd_conditional_rows.specs.declared.row.Row.{Row}
use Rattle.gtd_conditional_rows.specs.declared.step.Step.{Step}
use Rattle.gtd_conditional_steps.specs.declared.tag.Tag as steps
use Rattle.gtd_conditional_tags.specs.File.{AreFew, AreOfBytes, AreTable, AreTooMany}
use Rattle.gtd_conditional_tags.specs.Groups.{each_once, elements_of}
use Rattle.gtd_conditional_tags.specs.Rows as said
use Rattle.gtd_conditional_tags.specs.declared.fault.TagsFault.{TagsFault}
use Rattle.gtd_conditional_tags.specs.declared.groups.ElementItem.{ElementItem}
use Rattle.gtd_conditional_tags.specs.declared.groups.ElementItems.{ElementItems}
use Rattle.gtd_conditional_tags.specs.declared.row.Tag.{Tag}
use Rattle.gtd_conditional_elements.specs.Elements.{AreEach, AreElementRows, IsElement, rows_in}
use Rattle.gtd_conditional_elements.specs.File.{AreGroups as AreElementGroups, AreOfFile}
use Rattle.gtd_conditional_elements.specs.Values.{AreValues, sound_of}
use Rattle.gtd_conditional_elements.specs.declared.fault.ConditionsFault.{ConditionsFault}
use Rattle.gtd_conditional_elements.specs.declared.found.ElementRow.{ElementRow}
use Rattle.gtd_conditional_elements.specs.declared.tag.ReadTag.{ReadTag}

-- ---- rows of an element

few_ordered : (bound : ℕ) (rows : List Row) → bound ≤ 99 → AreOrdered bound rows → bound + length rows ≤ 99
few_ordered bound [] low are = omega arith
few_ordered bound (row ∷ rows) low are =
    let above = are.1 in
    let more = few_ordered are.0 rows are.2.vehicle.1 are.3 in omega arith

kept_one : {X : Type 0} (p : X → Bool) (b : Bool) (x : X) (xs : List X) → p x ≡ b → length (filter p xs) ≤ length xs
    → length (filter p (x ∷ xs)) ≤ length (x ∷ xs)
kept_one p true x xs is more = rw is (omega arith)
kept_one p false x xs is more = rw is (omega arith)

few_kept : {X : Type 0} (p : X → Bool) (xs : List X) → length (filter p xs) ≤ length xs
few_kept p [] = omega arith
few_kept p (x ∷ xs) = kept_one p (p x) x xs refl (few_kept p xs)

few_rows : (positive negative : List Step) (rows : List Row) → AreRows positive negative rows → length rows ≤ 198
few_rows positive negative rows are =
    let forward = few_ordered 0 are.forward (omega arith) are.forward_groups.ordered in
    let backward = few_ordered 0 are.backward (omega arith) are.backward_groups.ordered in
    let kept = few_kept (λ (row : Row). not (is_listed row are.forward)) are.backward in
    rw (are.are, length-append) (omega arith)

few_element : (means : List MeansRow) (tags : List steps.Tag) (rows : List Row) → AreElementRows means tags rows
    → length rows ≤ 396
few_element means tags rows are =
    let access = few_rows are.of_access.positive are.of_access.negative are.access are.of_access.are in
    let oneway = few_rows are.of_oneway.positive are.of_oneway.negative are.oneway are.of_oneway.are in
    rw (are.whole, length-append) (omega arith)

few_in : (means : List MeansRow) (group : ElementItems ReadTag) (answer : Result (List Row) ConditionsFault)
    → IsElement means group answer → length (rows_in group.element answer) ≤ 396
few_in means group (Ok rows) is = rw length-map (few_element means _ rows is)
few_in means group (Err why) is = omega arith

few_each : (means : List MeansRow) (groups : List (ElementItems ReadTag)) (found : List ElementRow)
    (faults : List ConditionsFault) → AreEach means groups found faults → length found ≤ 396 * length groups
few_each means [] found faults are = rw (are.0) (omega arith)
few_each means (group ∷ groups) found faults are =
    let one = few_in means group are.0 are.3 in
    let more = few_each means groups are.1 are.2 are.4 in
    rw (are.5, length-append) (omega arith)

-- ---- elements of tags, and tags of rows

few_once : (xs : List ℕ) → length (each_once xs) ≤ length xs
few_once [] = omega arith
few_once (x ∷ xs) =
    let kept = few_kept (λ (y : ℕ). not (y == x)) (each_once xs) in
    let more = few_once xs in omega arith

few_groups : (sound : List (ElementItem ReadTag)) (groups : List (ElementItems ReadTag)) → AreElementGroups sound groups
    → length groups ≤ length sound
few_groups sound groups are =
    let same = ap length are.order in
    let groups_same = length-map groups (λ (g : ElementItems ReadTag). g.element) in
    let items_same = length-map sound (λ (i : ElementItem ReadTag). i.element) in
    let once = few_once (elements_of sound) in omega arith

few_sound_one : (tag : Tag) (answer : Result ReadTag ConditionsFault) → length (sound_of tag answer) ≤ 1
few_sound_one tag (Ok read) = omega arith
few_sound_one tag (Err why) = omega arith

few_sound : (how : HowRead) (means : List MeansRow) (tags : List Tag) (sound : List (ElementItem ReadTag))
    (faults : List ConditionsFault)
    → AreValues how means tags sound faults → length sound ≤ length tags
few_sound how means [] sound faults are = rw (are.0) (omega arith)
few_sound how means (tag ∷ tags) sound faults are =
    let one = few_sound_one tag are.0 in
    let more = few_sound how means tags are.1 are.2 are.4 in
    rw (are.5, length-append) (omega arith)

few_tag : (says : said.RowSays) → length (said.tag_in says) ≤ 1
few_tag (Ok (Some tag)) = omega arith
few_tag (Ok None) = omega arith
few_tag (Err why) = omega arith

few_said : (means : List MeansRow) (before : List said.Said) (number : ℕ) (rows : List Fields)
    → length (said.tags_of means before number rows) ≤ length before + length rows
few_said means before number [] = omega arith
few_said means before number (row ∷ rows) =
    let says = said.row_of means before number row in
    let one = few_tag says in
    let more = few_said means (before ++ said.tag_in says) (number + 1) rows in
    let long = length-append before (said.tag_in says) in omega arith

few_of_rows : (means : List MeansRow) (rows : List Fields) (tags : List Tag) (faults : List TagsFault)
    → AreFew means rows tags faults ⊎ AreTooMany means rows tags faults → length tags ≤ most_rows
few_of_rows means rows tags faults (inl few) =
    let same = ap length few.said in
    let long = length-map tags said.said_by in
    let most = few_said means [] 1 rows in
    let count = few.few in omega arith
few_of_rows means rows tags faults (inr many) =
    let same = ap length many.said in
    let long = length-map tags said.said_by in
    let most = few_said means [] 1 many.before in
    let count = many.many in omega arith

few_table : (means : List MeansRow) (text : List Fields) (tags : List Tag) (faults : List TagsFault)
    → AreTable means text tags faults → length tags ≤ most_rows
few_table means text tags faults (inl table) = few_of_rows means table.0 tags faults table.2
few_table means text tags faults (inr none) = rw (none.1) (omega arith)

few_tags : (means : List MeansRow) (bytes : List ℕ) (tags : List Tag) (faults : List TagsFault)
    → AreOfBytes means bytes tags faults → length tags ≤ most_rows
few_tags means bytes tags faults (inl small) = few_table means _ tags faults small.1
few_tags means bytes tags faults (inr large) = rw (large.1) (omega arith)

-- ---- rows of a file

pub few_of_file : (how : HowRead) (means : List MeansRow) (bytes : List ℕ) (rows : List ElementRow)
    (faults : List ConditionsFault)
    → AreOfFile how means bytes rows faults → length rows ≤ 25_952_256
few_of_file how means bytes rows faults are =
    let tags = few_tags means bytes are.tags are.of_rows are.file in
    let sound = few_sound how means are.tags are.sound are.of_values are.values in
    let groups = few_groups are.sound are.groups are.grouped in
    let each = few_each means are.groups rows are.of_elements are.each in omega arith
