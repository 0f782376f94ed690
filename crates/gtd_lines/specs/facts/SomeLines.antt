-- Each record of a file begins on a line.
use Rattle.std.proofs.Common.{◌≡◌, ◌∙◌, ◌<◌, ap, refl, sym, arith, cond, ℕ, zero, suc, ◌+◌, Bool, true, false}
use Rattle.std.proofs.Common.{List, [], ◌∷◌, ◌++◌, append_assoc, append-nil, drop, get_or, inl, inr, length, Some, None}
use Rattle.std.proofs.lemmas.Bool.{cases_Bool}
use Rattle.std.specs.List.{count_by}
use Rattle.csv.specs.Machine.{ends_at_end, field_after, fields_after, is_end, next_record, step}
use Rattle.csv.specs.Reading.{default_config, is_bom, records, strip_bom}
use Rattle.csv.specs.declared.parser.State.{State}
use Rattle.csv.specs.declared.parser.State.TheVariants as st
use Rattle.gtd_lines.specs.Lines.{AreLinesOfRows, IsLine, from_record, is_line_feed, is_within, left_after, rest_of}

-- a text ends in another
abbrev EndsIn : List ℕ → List ℕ → Type 0
EndsIn text rest = (before : List ℕ) × (text ≡ before ++ rest)

itself : (text : List ℕ) → EndsIn text text
itself text = ([], refl)

at_last : (text : List ℕ) → EndsIn text []
at_last text = (text, sym (append-nil text))

one_before : (byte : ℕ) (text rest : List ℕ) → EndsIn text rest → EndsIn (byte ∷ text) rest
one_before byte text rest ends = (byte ∷ ends.0, ap (λ (l : List ℕ). byte ∷ l) ends.1)

then_ends : (text middle rest : List ℕ) → EndsIn text middle → EndsIn middle rest → EndsIn text rest
then_ends text middle rest first second =
    (first.0 ++ second.0, first.1 ∙ ap (λ (l : List ℕ). first.0 ++ l) second.1 ∙ sym (append_assoc first.0 second.0 rest))

ends_in_record : (text : List ℕ) → EndsIn text (from_record text)
ends_in_record [] = itself []
ends_in_record (byte ∷ text) = elim (cases_Bool (is_within byte)) [
  | inl is ↦ rw is (itself (byte ∷ text))
  | inr un ↦ rw un (one_before byte text (from_record text) (ends_in_record text))
]

ends_chosen : (b : Bool) (fields : List (List ℕ)) (text : List ℕ)
    → EndsIn text (rest_of (cond b (Some (fields, st.StartRecord, [])) None)).1
ends_chosen true fields text = at_last text
ends_chosen false fields text = at_last text

ends_in_rest : (s : State) (fields : List (List ℕ)) (field text : List ℕ)
    → EndsIn text (rest_of (next_record default_config s fields field text)).1
unfolding next_record
ends_in_rest s fields field [] = ends_chosen (ends_at_end s) (fields ++ (field ∷ [])) []
ends_in_rest s fields field (c ∷ text) = elim (cases_Bool (is_end (step default_config s c).1)) [
  | inl is ↦ rw is (one_before c text text (itself text))
  | inr un ↦ rw un (one_before c text _ (ends_in_rest (step default_config s c).0
      (fields_after (step default_config s c).1 fields field) (field_after (step default_config s c).1 c field) text))
]

ends_in_left : (n : ℕ) (text : List ℕ) → EndsIn text (left_after n text).1
unfolding left_after
ends_in_left zero text = itself text
ends_in_left (suc n) text =
    let here = left_after n text in
    then_ends text here.1 (left_after (suc n) text).1 (ends_in_left n text) (ends_in_rest here.0 [] [] here.1)

ends_unmarked : (bytes : List ℕ) → EndsIn bytes (strip_bom bytes)
unfolding strip_bom
ends_unmarked [] = itself []
ends_unmarked (x ∷ []) = itself (x ∷ [])
ends_unmarked (x ∷ y ∷ []) = itself (x ∷ y ∷ [])
ends_unmarked (x ∷ y ∷ z ∷ rest) = elim (cases_Bool (is_bom x y z)) [
  | inl is ↦ rw is (one_before x (y ∷ z ∷ rest) rest (one_before y (z ∷ rest) rest (one_before z rest rest (itself rest))))
  | inr un ↦ rw un (itself (x ∷ y ∷ z ∷ rest))
]

pub some_line : (bytes : List ℕ) (number : ℕ) → (line : ℕ) × IsLine bytes number line
some_line bytes number =
    let text = strip_bom bytes in
    let left = (left_after number text).1 in
    let ends = then_ends bytes text (from_record left) (ends_unmarked bytes)
    (then_ends text left (from_record left) (ends_in_left number text) (ends_in_record left)) in
    (count_by is_line_feed ends.0 + 1, record { before = ends.0; record_follows = ends.1; counted = refl })

-- ---- the lines of all rows

-- the values of a count from 0 on
abbrev first_values : (ℕ → ℕ) → ℕ → List ℕ
first_values value zero = []
first_values value (suc count) = value 0 ∷ first_values (λ at. value (suc at)) count

many : (value : ℕ → ℕ) (count : ℕ) → length (first_values value count) ≡ count
many value zero = refl
many value (suc count) = ap (λ (n : ℕ). suc n) (many (λ at. value (suc at)) count)

value_at : (value : ℕ → ℕ) (count at : ℕ) → at < count → get_or (first_values value count) at 0 ≡ value at
value_at value zero at lt = absurd (omega (arith, lt))
value_at value (suc count) zero lt = refl
value_at value (suc count) (suc at) lt = value_at (λ k. value (suc k)) count at (omega (arith, lt))

pub some_lines : (bytes : List ℕ) → (lines : List ℕ) × AreLinesOfRows bytes lines
some_lines bytes =
    let count = length (drop 1 (records default_config (strip_bom bytes))) in
    let value : ℕ → ℕ = λ at. (some_line bytes (at + 1)).0 in (
      first_values value count,
      record {
        all = many value count;
        each = λ at lt.
            let few : at < count = rw (many value count) at lt in
            rw (value_at value count at few) ((some_line bytes (at + 1)).1);
      },
    )
