-- The rows of a file of tags: their elements have at most ten digits, and each row has a vehicle type.
use Rattle.std.proofs.Common.{◌≡◌, ◌<◌, ◌≤◌, ◌+◌, ◌^◌, cond, refl, subst, sym, inl, inr, ℕ, Bool, true, false, not}
use Rattle.std.proofs.Common.{List, [], ◌∷◌, ◌++◌, length, map, Option, Some, None}
use Rattle.std.proofs.lemmas.Bool.{leb-true}
use Rattle.std.proofs.lemmas.List.{map-append}
use Rattle.std.specs.Char.{is_ascii_digit}
use Rattle.std.specs.List.{list_all, list_any}
use Rattle.std.specs.Prelude.{◌==◌, ◌&&◌, ◌⊎◌, filter, nat_le, Result, Ok, Err}
use Rattle.std.specs.Str.Parse.{digits_value}
use Rattle.gtd_hours_options.specs.Readings.{HowRead}
use Rattle.gtd_rows.specs.Columns.{Fields, number_of}
use Rattle.gtd_rows.specs.facts.NumberFacts.{number_below}
use Rattle.gtd_conditional_means.specs.declared.meaning.MeansRow.{MeansRow}
use Rattle.gtd_conditional_rows.specs.Rows.{AreOrdered, AreRows, Each, is_listed}
use Rattle.gtd_conditional_rows.specs.Types.{HasType, IsVehicle}
use Rattle.gtd_conditional_rows.specs.declared.row.Row.{Row}
use Rattle.gtd_conditional_rows.specs.declared.step.Step.{Step}
use Rattle.gtd_conditional_steps.specs.declared.tag.Tag as steps
use Rattle.gtd_conditional_tags.specs.File.{AreFew, AreOfBytes, AreTable, AreTooMany}
use Rattle.gtd_conditional_tags.specs.Groups.{each_once, elements_in, elements_of}
use Rattle.gtd_conditional_tags.specs.Rows as said
use Rattle.gtd_conditional_tags.specs.Rows.{said_by, tag_in}
use Rattle.gtd_conditional_tags.specs.declared.fault.TagsFault.{TagsFault}
use Rattle.gtd_conditional_tags.specs.declared.fault.TagsFault.TheVariants as row
use Rattle.gtd_conditional_tags.specs.declared.groups.ElementItem.{ElementItem}
use Rattle.gtd_conditional_tags.specs.declared.groups.ElementItems.{ElementItems}
use Rattle.gtd_conditional_tags.specs.declared.key.Key.{Key}
use Rattle.gtd_conditional_tags.specs.declared.row.Tag.{Tag}
use Rattle.gtd_conditional_elements.specs.Elements.{AreEach, AreElementRows, IsElement, rows_in}
use Rattle.gtd_conditional_elements.specs.File.{AreOfFile}
use Rattle.gtd_conditional_elements.specs.Values.{AreValues, sound_of}
use Rattle.gtd_conditional_elements.specs.declared.fault.ConditionsFault.{ConditionsFault}
use Rattle.gtd_conditional_elements.specs.declared.found.ElementRow.{ElementRow}
use Rattle.gtd_conditional_elements.specs.declared.tag.ReadTag.{ReadTag}

-- ---- numbers of at most ten digits

abbrev AreLow : List ℕ → Type 0
AreLow [] = Unit {0}
AreLow (x ∷ xs) = (x < 10 ^ 10) × AreLow xs

low_joined : (xs ys : List ℕ) → AreLow xs → AreLow ys → AreLow (xs ++ ys)
low_joined [] ys low more = more
low_joined (x ∷ xs) ys low more = (low.0, low_joined xs ys low.1 more)

low_one_kept : (p : ℕ → Bool) (b : Bool) (x : ℕ) (xs : List ℕ) → p x ≡ b → x < 10 ^ 10 → AreLow (filter p xs)
    → AreLow (filter p (x ∷ xs))
low_one_kept p true x xs is low more = rw is (low, more)
low_one_kept p false x xs is low more = rw is more

low_kept : (p : ℕ → Bool) (xs : List ℕ) → AreLow xs → AreLow (filter p xs)
low_kept p [] low = tt
low_kept p (x ∷ xs) low = low_one_kept p (p x) x xs refl low.0 (low_kept p xs low.1)

low_once : (xs : List ℕ) → AreLow xs → AreLow (each_once xs)
low_once [] low = tt
low_once (x ∷ xs) low = (low.0, low_kept (λ (y : ℕ). not (y == x)) (each_once xs) (low_once xs low.1))

short : (text : List ℕ) (n : ℕ) → number_of text ≡ Some n → length text ≤ 10
short text n e = by_form (nat_le 1 (length text)) (nat_le (length text) 10) (list_all is_ascii_digit text) refl e
  where
    by_form : (a b d : Bool) → nat_le (length text) 10 ≡ b → ◌≡◌ {A = Option ℕ}
        (cond (a && b && d) (Some (digits_value 10 text)) None) (Some n) → length text ≤ 10
    by_form a true d ten h = leb-true (length text) 10 ten
    by_form true false d ten h = absurd cc
    by_form false false d ten h = absurd cc

-- ---- the elements of tags

abbrev AreLowTags : List said.Said → Type 0
AreLowTags [] = Unit {0}
AreLowTags (tag ∷ tags) = (tag.element < 10 ^ 10) × AreLowTags tags

tags_joined : (xs ys : List said.Said) → AreLowTags xs → AreLowTags ys → AreLowTags (xs ++ ys)
tags_joined [] ys low more = more
tags_joined (x ∷ xs) ys low more = (low.0, tags_joined xs ys low.1 more)

low_with_key : (key : Option Key) (bad : Bool) (row element : ℕ) (value : List ℕ) → element < 10 ^ 10
    → AreLowTags (tag_in (said.with_key key bad row element value))
low_with_key (Some key) bad row element value low = (low, tt)
low_with_key None true row element value low = tt
low_with_key None false row element value low = tt

low_with_element : (means : List MeansRow) (row : ℕ) (element : Option ℕ) (key value : List ℕ)
    → ((n : ℕ) → element ≡ Some n → n < 10 ^ 10) → AreLowTags (tag_in (said.with_element means row element key value))
low_with_element means row None key value low = tt
low_with_element means row (Some n) key value low = low_with_key _ _ row n value (low n refl)

low_alone : (means : List MeansRow) (row : ℕ) (fields : Fields) → AreLowTags (tag_in (said.alone means row fields))
low_alone means row [] = tt
low_alone means row (a ∷ []) = tt
low_alone means row (a ∷ b ∷ []) = tt
low_alone means row (a ∷ b ∷ c ∷ []) =
    low_with_element means row (number_of a) b c (λ n e. number_below a n 10 e (short a n e))
low_alone means row (a ∷ b ∷ c ∷ d ∷ more) = tt

low_unless : (before : List said.Said) (says : said.RowSays) → AreLowTags (tag_in says)
    → AreLowTags (tag_in (said.unless_repeated before says))
low_unless before (Ok (Some tag)) low = by_list (list_any (said.is_tag_of tag.element tag.key) before)
  where
    by_list : (b : Bool) → AreLowTags (tag_in (cond b (Err (row.Repeated tag.row)) (Ok (Some tag))))
    by_list true = tt
    by_list false = low
low_unless before (Ok None) low = tt
low_unless before (Err why) low = tt

low_tags : (means : List MeansRow) (before : List said.Said) (number : ℕ) (rows : List Fields) → AreLowTags before
    → AreLowTags (said.tags_of means before number rows)
low_tags means before number [] low = low
low_tags means before number (row ∷ rows) low =
    let says = said.row_of means before number row in
    low_tags means (before ++ tag_in says) (number + 1) rows
    (tags_joined before (tag_in says) low (low_unless before (said.alone means number row) (low_alone means number row)))

low_of_rows : (means : List MeansRow) (rows : List Fields) (tags : List Tag) (faults : List TagsFault)
    → AreFew means rows tags faults ⊎ AreTooMany means rows tags faults → AreLowTags (map said_by tags)
low_of_rows means rows tags faults (inl few) = subst AreLowTags (sym few.said) (low_tags means [] 1 rows tt)
low_of_rows means rows tags faults (inr many) = subst AreLowTags (sym many.said) (low_tags means [] 1 many.before tt)

low_table : (means : List MeansRow) (text : List Fields) (tags : List Tag) (faults : List TagsFault)
    → AreTable means text tags faults → AreLowTags (map said_by tags)
low_table means text tags faults (inl table) = low_of_rows means table.0 tags faults table.2
low_table means text tags faults (inr none) = rw (none.1) tt

low_file : (means : List MeansRow) (bytes : List ℕ) (tags : List Tag) (faults : List TagsFault)
    → AreOfBytes means bytes tags faults → AreLowTags (map said_by tags)
low_file means bytes tags faults (inl small) = low_table means _ tags faults small.1
low_file means bytes tags faults (inr large) = rw (large.1) tt

low_sound_one : (tag : Tag) (answer : Result ReadTag ConditionsFault) → tag.element < 10 ^ 10
    → AreLow (elements_of (sound_of tag answer))
low_sound_one tag (Ok read) low = (low, tt)
low_sound_one tag (Err why) low = tt

low_sound : (how : HowRead) (means : List MeansRow) (tags : List Tag) (sound : List (ElementItem ReadTag))
    (faults : List ConditionsFault)
    → AreValues how means tags sound faults → AreLowTags (map said_by tags) → AreLow (elements_of sound)
low_sound how means [] sound faults are low = rw (are.0) tt
low_sound how means (tag ∷ tags) sound faults are low =
    rw (are.5, map-append (λ (i : ElementItem ReadTag). i.element) (sound_of tag are.0) are.1)
    (low_joined (elements_of (sound_of tag are.0)) (elements_of are.1) (low_sound_one tag are.0 low.0)
    (low_sound how means tags are.1 are.2 are.4 low.1))

-- ---- rows that have a vehicle type

abbrev pub HasSome : Row → Type 0
HasSome row = (t : ℕ) × IsVehicle t × HasType row.types t

each_joined : (xs ys : List Row) → Each HasSome xs → Each HasSome ys → Each HasSome (xs ++ ys)
each_joined [] ys each more = more
each_joined (x ∷ xs) ys each more = (each.0, each_joined xs ys each.1 more)

each_one_kept : (p : Row → Bool) (b : Bool) (x : Row) (xs : List Row) → p x ≡ b → HasSome x → Each HasSome (filter p xs)
    → Each HasSome (filter p (x ∷ xs))
each_one_kept p true x xs is some more = rw is (some, more)
each_one_kept p false x xs is some more = rw is more

each_kept : (p : Row → Bool) (xs : List Row) → Each HasSome xs → Each HasSome (filter p xs)
each_kept p [] each = tt
each_kept p (x ∷ xs) each = each_one_kept p (p x) x xs refl each.0 (each_kept p xs each.1)

ordered_some : (bound : ℕ) (rows : List Row) → AreOrdered bound rows → Each HasSome rows
ordered_some bound [] are = tt
ordered_some bound (row ∷ rows) are = ((are.0, are.2.vehicle, are.2.has), ordered_some are.0 rows are.3)

rows_some : (positive negative : List Step) (rows : List Row) → AreRows positive negative rows → Each HasSome rows
rows_some positive negative rows are =
    let kept = each_kept (λ (row : Row). not (is_listed row are.forward)) are.backward
    (ordered_some 0 are.backward are.backward_groups.ordered) in
    subst (Each HasSome) (sym are.are)
    (each_joined are.forward _ (ordered_some 0 are.forward are.forward_groups.ordered) kept)

element_some : (means : List MeansRow) (tags : List steps.Tag) (rows : List Row) → AreElementRows means tags rows
    → Each HasSome rows
element_some means tags rows are =
    subst (Each HasSome) (sym are.whole)
    (each_joined are.access are.oneway (rows_some are.of_access.positive are.of_access.negative are.access are.of_access.are)
    (rows_some are.of_oneway.positive are.of_oneway.negative are.oneway are.of_oneway.are))

-- ---- the rows of a file

pub record IsSoundRow (row : ElementRow) : Type 0 where
  pub element : row.element < 10 ^ 10
  pub some : HasSome row.row

abbrev pub AreSoundRows : List ElementRow → Type 0
AreSoundRows [] = Unit {0}
AreSoundRows (row ∷ rows) = IsSoundRow row × AreSoundRows rows

sound_joined : (xs ys : List ElementRow) → AreSoundRows xs → AreSoundRows ys → AreSoundRows (xs ++ ys)
sound_joined [] ys sound more = more
sound_joined (x ∷ xs) ys sound more = (sound.0, sound_joined xs ys sound.1 more)

sound_rows : (element : ℕ) (rows : List Row) → element < 10 ^ 10 → Each HasSome rows
    → AreSoundRows (rows_in element (Ok rows))
sound_rows element [] low each = tt
sound_rows element (row ∷ rows) low each = (record { element = low; some = each.0 }, sound_rows element rows low each.1)

sound_element : (means : List MeansRow) (group : ElementItems ReadTag) (answer : Result (List Row) ConditionsFault)
    → IsElement means group answer → group.element < 10 ^ 10 → AreSoundRows (rows_in group.element answer)
sound_element means group (Ok rows) is low = sound_rows group.element rows low (element_some means _ rows is)
sound_element means group (Err why) is low = tt

sound_each : (means : List MeansRow) (groups : List (ElementItems ReadTag)) (found : List ElementRow)
    (faults : List ConditionsFault) → AreEach means groups found faults → AreLow (elements_in groups) → AreSoundRows found
sound_each means [] found faults are low = rw (are.0) tt
sound_each means (group ∷ groups) found faults are low =
    rw (are.5)
    (sound_joined (rows_in group.element are.0) are.1 (sound_element means group are.0 are.3 low.0)
    (sound_each means groups are.1 are.2 are.4 low.1))

pub rows_of_file : (how : HowRead) (means : List MeansRow) (bytes : List ℕ) (rows : List ElementRow)
    (faults : List ConditionsFault) → AreOfFile how means bytes rows faults → AreSoundRows rows
rows_of_file how means bytes rows faults are =
    let tags = low_file means bytes are.tags are.of_rows are.file in
    let sound = low_sound how means are.tags are.sound are.of_values are.values tags in
    sound_each means are.groups rows are.of_elements are.each
    (subst AreLow (sym are.grouped.order) (low_once (elements_of are.sound) sound))
