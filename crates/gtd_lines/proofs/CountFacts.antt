-- How many records are left after some.
use Rattle.std.proofs.Common.{◌≡◌, ◌∙◌, ap, refl, arith, ℕ, zero, suc, ◌+◌, ◌<◌, ◌≤◌, subst, Bool, true, false}
use Rattle.std.proofs.Common.{List, [], ◌∷◌, ◌++◌, add-one, drop, get_or, length-drop, length, length-append, inl, inr}
use Rattle.std.proofs.Common.{Option, Some, None}
use Rattle.std.proofs.lemmas.Bool.{cases_Bool}
use Rattle.std.proofs.lemmas.Bool.Decides.{nat_tests}
use Rattle.csv.specs.Machine.{Read, ends_at_end, field_after, fields_after, is_end, next_record, step}
use Rattle.csv.specs.Reading.{default_config, records, strip_bom}
use Rattle.csv.specs.declared.parser.State.{State}
use Rattle.csv.specs.declared.parser.State.TheVariants as st
use Rattle.gtd_rows.proofs.TableFacts.{first_then_rest, leaves, none_left}
use Rattle.gtd_rows.specs.Columns.{Fields}
use Rattle.gtd_rows.specs.Table.{IsBetween, records_after}
use Rattle.gtd_lines.proofs.PlaceFacts.{after_cr, between, field_begins, line_end_skipped}
use Rattle.gtd_lines.specs.Cut.{IsPlace}
use Rattle.gtd_lines.specs.Lines.{AreLinesOfRows, IsLine, from_record, is_within, left_after, rest_of}
use Rattle.gtd_lines.specs.declared.cut.Place.{Place}
use Rattle.gtd_lines.specs.facts.OneLine.{line_of_place}

-- ---- a text that goes on has a record

-- in a record: before or in a field, or after a quote
abbrev is_inside : State → Bool
is_inside st.StartField = true
is_inside st.InField = true
is_inside st.InQuoted = true
is_inside st.AfterQuote = true
is_inside _ = false

stays_inside : (s : State) (c : ℕ) → is_inside s ≡ true → is_end (step default_config s c).1 ≡ false
    → is_inside (step default_config s c).0 ≡ true
stays_inside st.StartField c is un = grind (arith, nat_tests)
stays_inside st.InField c is un = grind (arith, nat_tests)
stays_inside st.InQuoted c is un = grind (arith, nat_tests)
stays_inside st.AfterQuote c is un = grind (arith, nat_tests)
stays_inside st.StartRecord c is un = cc
stays_inside st.InEscape c is un = cc
stays_inside st.InComment c is un = cc
stays_inside st.AfterCr c is un = cc

ends_inside : (s : State) → is_inside s ≡ true → ends_at_end s ≡ true
ends_inside st.StartField is = refl
ends_inside st.InField is = refl
ends_inside st.InQuoted is = refl
ends_inside st.AfterQuote is = refl
ends_inside st.StartRecord is = cc
ends_inside st.InEscape is = cc
ends_inside st.InComment is = cc
ends_inside st.AfterCr is = cc

inside_some : (s : State) (fields : List (List ℕ)) (field text : List ℕ) → is_inside s ≡ true
    → (read : Read) × (next_record default_config s fields field text ≡ Some read)
unfolding next_record
inside_some s fields field [] is =
    ((fields ++ (field ∷ []), st.StartRecord, []), rw (ends_inside s is) refl)
inside_some s fields field (c ∷ rest) is = elim (cases_Bool (is_end (step default_config s c).1)) [
  | inl ends ↦
      ((fields_after (step default_config s c).1 fields field, (step default_config s c).0, rest), rw ends refl)
  | inr goes ↦
      let more = inside_some (step default_config s c).0 (fields_after (step default_config s c).1 fields field)
      (field_after (step default_config s c).1 c field) rest (stays_inside s c is goes) in
      (more.0, rw goes more.1)
]

start_some : (text : List ℕ) → 0 < length (from_record text)
    → (read : Read) × (next_record default_config st.StartRecord [] [] text ≡ Some read)
unfolding next_record
start_some [] more = absurd (omega arith)
start_some (c ∷ text) more = elim (cases_Bool (is_within c)) [
  | inl is ↦
      let some = inside_some st.StartField [] [] (c ∷ text) refl in (some.0, rw (field_begins c is) some.1)
  | inr un ↦
      let rest : 0 < length (from_record text) = rw un at more in
      let some = start_some text rest in (some.0, rw (line_end_skipped c un) some.1)
]

start_none : (text : List ℕ) → length (from_record text) ≡ 0 → next_record default_config st.StartRecord [] [] text ≡ None
unfolding next_record
start_none [] none = refl
start_none (c ∷ text) none = elim (cases_Bool (is_within c)) [
  | inl is ↦ let n : suc (length text) ≡ 0 = rw is at none in absurd (omega (arith, n))
  | inr un ↦
      let rest : length (from_record text) ≡ 0 = rw un at none in
      rw (line_end_skipped c un) (start_none text rest)
]

some_between : (s : State) → IsBetween s → (text : List ℕ) → 0 < length (from_record text)
    → (read : Read) × (next_record default_config s [] [] text ≡ Some read)
some_between s (inl e) text more = rw e (start_some text more)
some_between s (inr e) text more = let some = start_some text more in (some.0, rw e (after_cr text ∙ some.1))

none_between : (s : State) → IsBetween s → (text : List ℕ) → length (from_record text) ≡ 0
    → next_record default_config s [] [] text ≡ None
none_between s (inl e) text none = rw e (start_none text none)
none_between s (inr e) text none = rw e (after_cr text ∙ start_none text none)

-- ---- the records that are left

-- the records of a text after so many
abbrev pub left_records : ℕ → List ℕ → List Fields
left_records n text = records_after (left_after n text).0 (left_after n text).1

pub one_fewer : (n : ℕ) (text : List ℕ) → 0 < length (from_record (left_after n text).1)
    → length (left_records n text) ≡ length (left_records (n + 1) text) + 1
unfolding left_after
one_fewer n text more =
    let here = left_after n text in
    let some = some_between here.0 (between n text) here.1 more in
    let parts = first_then_rest here.0 here.1 some.0 (between n text) some.1 in
    let next : left_after (suc n) text ≡ (some.0.1, some.0.2) = ap rest_of some.1 in
    rw (add-one n, next, parts) (omega arith)

pub none_more : (n : ℕ) (text : List ℕ) → length (from_record (left_after n text).1) ≡ 0 → length (left_records n text) ≡ 0
none_more n text none =
    let here = left_after n text in
    rw (none_left here.0 here.1 (none_between here.0 (between n text) here.1 none)) refl

after_header_of : (text : List ℕ) (o : Option Read) → next_record default_config st.StartRecord [] [] text ≡ o
    → drop 1 (records_after st.StartRecord text) ≡ records_after (rest_of o).0 (rest_of o).1
after_header_of text None e = rw (none_left st.StartRecord text e, none_left st.StartRecord [] (start_none [] refl)) refl
after_header_of text (Some read) e = rw (first_then_rest st.StartRecord text read (inl refl) e) refl

-- those after the header
pub after_header : (text : List ℕ) → drop 1 (records default_config text) ≡ left_records 1 text
unfolding left_after
after_header text = after_header_of text (next_record default_config st.StartRecord [] [] text) refl

-- ---- the lines so far

-- the lines of some first rows, where the next record begins at a place
pub record AreLinesSoFar (bytes lines : List ℕ) (place : Place) : Type 0 where
  pub here : IsPlace bytes (length lines + 1) place
  pub all : length (drop 1 (records default_config (strip_bom bytes)))
      ≡ length lines + length (left_records (length lines + 1) (strip_bom bytes))
  pub each : (at : ℕ) → at < length lines → IsLine bytes (at + 1) (get_or lines at 0)

pub first_lines : (bytes : List ℕ) (place : Place) → IsPlace bytes 1 place → AreLinesSoFar bytes [] place
first_lines bytes place is = record {
  here = is;
  all = let e = ap length (after_header (strip_bom bytes)) in omega (arith, e);
  each = λ at lt. absurd (omega (arith, lt));
}

each_more : (P : ℕ → ℕ → Type 0) (xs : List ℕ) (x : ℕ) → ((at : ℕ) → at < length xs → P at (get_or xs at 0)) → P (length xs) x
    → (at : ℕ) → at < length (xs ++ (x ∷ [])) → P at (get_or (xs ++ (x ∷ [])) at 0)
each_more P [] x each last zero lt = last
each_more P [] x each last (suc at) lt = absurd (omega (arith, lt))
each_more P (y ∷ xs) x each last zero lt = each 0 (omega arith)
each_more P (y ∷ xs) x each last (suc at) lt =
    each_more (λ k v. P (suc k) v) xs x (λ k less. each (suc k) (omega (arith, less))) last at (omega (arith, lt))

pub more_lines : (bytes lines : List ℕ) (place next : Place) → AreLinesSoFar bytes lines place → place.at < length bytes
    → IsPlace bytes ((length lines + 1) + 1) next → AreLinesSoFar bytes (lines ++ (place.line ∷ [])) next
more_lines bytes lines place next so_far lt is =
    let text = strip_bom bytes in
    let size = length-append lines (place.line ∷ []) in
    let many : length lines + 1 ≡ length (lines ++ (place.line ∷ [])) = omega (arith, size) in
    let left = ap length so_far.here.begins in
    let gone = length-drop place.at bytes in
    let more : 0 < length (from_record (left_after (length lines + 1) text).1) = omega (arith, left, gone, lt) in
    let fewer = one_fewer (length lines + 1) text more in
    let all = so_far.all in
    record {
      here = subst (λ (n : ℕ). IsPlace bytes (n + 1) next) many is;
      all =
          let sum : length (drop 1 (records default_config text))
          ≡ (length lines + 1) + length (left_records ((length lines + 1) + 1) text) = omega (arith, all, fewer) in
          subst (λ (n : ℕ). length (drop 1 (records default_config text)) ≡ n + length (left_records (n + 1) text)) many sum;
      each = each_more (λ at line. IsLine bytes (at + 1) line) lines place.line so_far.each
          (line_of_place bytes (length lines + 1) place so_far.here);
    }

pub all_lines : (bytes lines : List ℕ) (place : Place) → AreLinesSoFar bytes lines place → length bytes ≤ place.at
    → AreLinesOfRows bytes lines
all_lines bytes lines place so_far end =
    let text = strip_bom bytes in
    let left = ap length so_far.here.begins in
    let gone = length-drop place.at bytes in
    let none : length (from_record (left_after (length lines + 1) text).1) ≡ 0 = omega (arith, left, gone, end) in
    let nothing = none_more (length lines + 1) text none in
    let all = so_far.all in
    record { all = omega (arith, all, nothing); each = so_far.each }
