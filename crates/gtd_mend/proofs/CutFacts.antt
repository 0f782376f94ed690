-- A row that is read byte by byte.
use Rattle.std.proofs.Common.{◌≡◌, ◌∙◌, ap, refl, sym, arith, ℕ, suc, ◌+◌, ◌<◌, ◌≤◌, true, false}
use Rattle.std.proofs.Common.{List, [], ◌∷◌, ◌++◌, drop, get_or, length, Some, None}
use Rattle.std.proofs.Common.{drop-drop, inl, inr, take}
use Rattle.std.proofs.lemmas.Bool.{cases_Bool}
use Rattle.std.proofs.lemmas.Bool.Decides.{nat_tests}
use Rattle.std.proofs.lemmas.List.{drop_all, drop_more, take-append-drop}
use Rattle.std.specs.List.{prefix_len}
use Rattle.csv.specs.Machine.{field_after, fields_after, is_end, next_record, step}
use Rattle.csv.specs.declared.parser.Config.{Config}
use Rattle.csv.specs.declared.parser.Action.TheVariants as act
use Rattle.csv.specs.declared.parser.State.{State}
use Rattle.csv.specs.declared.parser.State.TheVariants as st
use Rattle.gtd_rows.specs.Columns.{Fields}
use Rattle.gtd_records.specs.Cut.{is_line_end}
use Rattle.gtd_mend.specs.Cutting.{IsFed, IsRowRead, state_of}
use Rattle.gtd_mend.specs.Reading.{IsNextRow, by_byte}
use Rattle.gtd_mend.specs.declared.cut.Within.{Within}
use Rattle.gtd_mend.specs.declared.cut.Within.TheVariants as within

-- from the start of a row the machine has come to this state, with these fields and these bytes of the field at hand
abbrev pub Follows : Config → List ℕ → ℕ → State → Fields → List ℕ → Type 0
Follows rules text at s fields field =
    next_record rules st.StartField [] [] text ≡ next_record rules s fields field (drop at text)

goes_on : (rules : Config) (s : State) (fields : Fields) (field : List ℕ) (byte : ℕ) (rest : List ℕ)
    → is_end (step rules s byte).1 ≡ false → next_record rules s fields field (byte ∷ rest)
    ≡ next_record rules (step rules s byte).0 (fields_after (step rules s byte).1 fields field)
    (field_after (step rules s byte).1 byte field) rest
unfolding next_record
goes_on rules s fields field byte rest un = rw un refl

ends : (rules : Config) (s : State) (fields : Fields) (field : List ℕ) (byte : ℕ) (rest : List ℕ)
    → is_end (step rules s byte).1 ≡ true → next_record rules s fields field (byte ∷ rest)
    ≡ Some (fields_after (step rules s byte).1 fields field, (step rules s byte).0, rest)
unfolding next_record
ends rules s fields field byte rest is = rw is refl

-- the end of the text ends a row that was begun
at_end : (rules : Config) (here : Within) (fields : Fields) (field : List ℕ)
    → next_record rules (state_of here) fields field [] ≡ Some (fields ++ (field ∷ []), st.StartRecord, [])
unfolding next_record
at_end rules within.FieldStart fields field = refl
at_end rules within.Plain fields field = refl
at_end rules within.Quoted fields field = refl
at_end rules within.Quote fields field = refl

module _ (separator : ℕ) (text : List ℕ) (at : ℕ) (here : Within) (fields : Fields) (field : List ℕ)
    (so_far : Follows (by_byte separator) text at (state_of here) fields field) where
  pub fed : (next : Within) (fields_new : Fields) (field_new : List ℕ) → at < length text
      → IsFed separator (state_of here) (get_or text at 0) fields field fields_new field_new (Some next)
      → Follows (by_byte separator) text (at + 1) (state_of next) fields_new field_new
  fed next fields_new field_new lt is =
      rw (sym is.1, is.2, is.3) (so_far
      ∙ ap (next_record (by_byte separator) (state_of here) fields field) (drop_more text at 0 lt)
      ∙ goes_on (by_byte separator) (state_of here) fields field (get_or text at 0) (drop (at + 1) text) is.0)

  pub ended : (fields_new : Fields) (field_new : List ℕ) → at < length text
      → IsFed separator (state_of here) (get_or text at 0) fields field fields_new field_new None
      → IsRowRead (by_byte separator) text fields_new (drop (at + 1) text)
  ended fields_new field_new lt is = record {
    after = (step (by_byte separator) (state_of here) (get_or text at 0)).0;
    read = rw (is.1) (so_far ∙ ap (next_record (by_byte separator) (state_of here) fields field) (drop_more text at 0 lt)
        ∙ ends (by_byte separator) (state_of here) fields field (get_or text at 0) (drop (at + 1) text) is.0);
  }

  pub stopped : length text ≤ at → IsRowRead (by_byte separator) text (fields ++ (field ∷ [])) (drop (length text) text)
  stopped le = record {
    after = st.StartRecord;
    read = rw (drop_all (length text) text (omega arith)) (so_far
        ∙ ap (next_record (by_byte separator) (state_of here) fields field) (drop_all at text le)
        ∙ at_end (by_byte separator) here fields field);
  }

-- ---- line ends before a row

skipped : (separator c : ℕ) → is_line_end c ≡ true → step (by_byte separator) st.StartRecord c ≡ (st.StartRecord, act.Skip)
skipped separator c is = grind (arith, nat_tests)

begun : (separator c : ℕ) → is_line_end c ≡ false
    → step (by_byte separator) st.StartRecord c ≡ step (by_byte separator) st.StartField c
begun separator c un = grind (arith, nat_tests)

begins : (separator c : ℕ) (text : List ℕ) → is_line_end c ≡ false
    → next_record (by_byte separator) st.StartRecord [] [] (c ∷ text)
    ≡ next_record (by_byte separator) st.StartField [] [] (c ∷ text)
unfolding next_record
begins separator c text un = rw (begun separator c un) refl

-- they are skipped
pub from_start : (separator : ℕ) (text : List ℕ) → prefix_len is_line_end text < length text
    → next_record (by_byte separator) st.StartRecord [] [] text
    ≡ next_record (by_byte separator) st.StartField [] [] (drop (prefix_len is_line_end text) text)
unfolding next_record
from_start separator [] lt = absurd (omega arith)
from_start separator (c ∷ text) lt = elim (cases_Bool (is_line_end c)) [
  | inl is ↦
      let n : prefix_len is_line_end (c ∷ text) ≡ suc (prefix_len is_line_end text) = rw is (omega arith) in
      let less : prefix_len is_line_end text < length text = omega (arith, n, lt) in
      rw (n, skipped separator c is) (from_start separator text less)
  | inr un ↦
      let n : prefix_len is_line_end (c ∷ text) ≡ 0 = rw un refl in
      rw n (begins separator c text un)
]

-- a text of nothing else has no row
pub no_row : (separator : ℕ) (text : List ℕ) → length text ≤ prefix_len is_line_end text
    → next_record (by_byte separator) st.StartRecord [] [] text ≡ None
unfolding next_record
no_row separator [] le = refl
no_row separator (c ∷ text) le = elim (cases_Bool (is_line_end c)) [
  | inl is ↦
      let n : prefix_len is_line_end (c ∷ text) ≡ suc (prefix_len is_line_end text) = rw is (omega arith) in
      let less : length text ≤ prefix_len is_line_end text = omega (arith, n, le) in
      rw (skipped separator c is) (no_row separator text less)
  | inr un ↦
      let n : prefix_len is_line_end (c ∷ text) ≡ 0 = rw un refl in
      absurd (omega (arith, n, le))
]

-- the row after them
pub next_row : (separator before taken : ℕ) (text : List ℕ) (fields : Fields) → before ≡ prefix_len is_line_end text
    → before < length text → IsRowRead (by_byte separator) (drop before text) fields (drop taken (drop before text))
    → IsNextRow (by_byte separator) text fields (take (before + taken) text) (drop (before + taken) text)
next_row separator before taken text fields is lt read = record {
  state = read.after;
  read =
      from_start separator text (rw (sym is) lt)
      ∙ ap (λ (k : ℕ). next_record (by_byte separator) st.StartField [] [] (drop k text)) (sym is)
      ∙ read.read
      ∙ ap (λ (rest : List ℕ). Some (fields, read.after, rest)) (drop-drop taken before text);
  cut = sym (take-append-drop (before + taken) text);
}
