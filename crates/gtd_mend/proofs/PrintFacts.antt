-- The text of rows, byte by byte and field by field.
use Rattle.std.proofs.Common.{◌≡◌, ◌∙◌, ap, refl, sym, arith, ℕ, zero, suc, ◌+◌, ◌<◌, ◌≤◌, ◌==◌, true, false, inl, inr}
use Rattle.std.proofs.Common.{List, [], ◌∷◌, ◌++◌, take, get_or, length, append_assoc, Option, Some, None}
use Rattle.std.proofs.lemmas.Bool.{cases_Bool, ne_eqb}
use Rattle.std.proofs.lemmas.List.{take_more}
use Rattle.csv.proofs.WriteFacts.{escaped-append, row-step}
use Rattle.csv.specs.Records.{field_at}
use Rattle.csv.specs.Writing.{escaped, field_text, is_blank, needs_quotes, next_sep, row_body}
use Rattle.csv.specs.declared.writer.WriterBuilder.{WriterBuilder}
use Rattle.gtd_rows.specs.Columns.{Fields}
use Rattle.gtd_mend.specs.Mended.{writer_of}

-- one more byte between quotes
pub escaped_more : (rules : WriterBuilder) (start before after field : List ℕ) (i : ℕ) → i < length field
    → before ≡ start ++ escaped rules (take i field) → after ≡ before ++ escaped rules (get_or field i 0 ∷ [])
    → after ≡ start ++ escaped rules (take (i + 1) field)
escaped_more rules start before after field i lt was is =
    let here = get_or field i 0 ∷ [] in
    is ∙ ap (λ (t : List ℕ). t ++ escaped rules here) was
    ∙ append_assoc start (escaped rules (take i field)) (escaped rules here)
    ∙ ap (λ (t : List ℕ). start ++ t) (sym (ap (escaped rules) (take_more field i 0 lt)
    ∙ escaped-append rules (take i field) here))

-- the text of a field in quotes
pub in_quotes : (start field : List ℕ) → ((start ++ 34 ∷ []) ++ field) ++ 34 ∷ [] ≡ start ++ 34 ∷ (field ++ 34 ∷ [])
in_quotes start field =
    append_assoc (start ++ 34 ∷ []) field (34 ∷ []) ∙ append_assoc start (34 ∷ []) (field ++ 34 ∷ [])

-- the field at a place
pub present : (fields : Fields) (i : ℕ) → i < length fields → field_at fields i ≡ Some (get_or fields i [])
unfolding field_at
present [] i lt = absurd (omega arith)
present (field ∷ fields) zero lt = refl
present (field ∷ fields) (suc i) lt = present fields i (omega arith)

same_field : (a b : List ℕ) → ◌≡◌ {A = Option (List ℕ)} (Some a) (Some b) → a ≡ b
same_field a b e = cc

pub is_present : (fields : Fields) (i : ℕ) (field : List ℕ) → i < length fields → Some field ≡ field_at fields i
    → field ≡ get_or fields i []
is_present fields i field lt e = same_field field (get_or fields i []) (e ∙ present fields i lt)

none_apart : (field : List ℕ) → ◌≡◌ {A = Option (List ℕ)} None (Some field) → ⊥
none_apart field e = cc

pub not_absent : (fields : Fields) (i : ℕ) → i < length fields → None ≡ field_at fields i → ⊥
not_absent fields i lt e = none_apart (get_or fields i []) (e ∙ present fields i lt)

-- one more field
pub body_more : (rules : WriterBuilder) (start before after field : List ℕ) (fields : Fields) (i : ℕ) → i < length fields
    → Some field ≡ field_at fields i → before ≡ start ++ row_body rules (take i fields)
    → after ≡ before ++ (next_sep rules i ++ field_text rules field)
    → after ≡ start ++ row_body rules (take (i + 1) fields)
body_more rules start before after field fields i lt here was is =
    let last : List ℕ = next_sep rules i ++ field_text rules field in
    is ∙ ap (λ (t : List ℕ). t ++ last) was
    ∙ append_assoc start (row_body rules (take i fields)) last
    ∙ ap (λ (t : List ℕ). start ++ t)
    (ap (λ (f : List ℕ). row_body rules (take i fields) ++ (next_sep rules i ++ field_text rules f))
    (is_present fields i field lt here)
    ∙ sym (row-step rules fields i lt))

-- ---- rows that show no byte

pub blank_many : (rules : WriterBuilder) (fields : Fields) → 1 < length fields → false ≡ is_blank rules fields
unfolding is_blank
blank_many rules [] more = absurd (omega arith)
blank_many rules (field ∷ []) more = absurd (omega arith)
blank_many rules (field ∷ next ∷ fields) more = refl

apart : (byte : ℕ) (rest : List ℕ) → (length (byte ∷ rest) == 0) ≡ false
apart byte rest = ne_eqb (length (byte ∷ rest)) 0 (λ e. omega (arith, e))

-- the text of a field that needs quotes
pub quoted_text : (separator : ℕ) (field : List ℕ) → needs_quotes (writer_of separator) field ≡ true
    → field_text (writer_of separator) field ≡ 34 ∷ (escaped (writer_of separator) field ++ 34 ∷ [])
quoted_text separator field is = rw is refl

shown : (separator : ℕ) (field : List ℕ) → (length field == 0) ≡ (length (field_text (writer_of separator) field) == 0)
shown separator [] = refl
shown separator (byte ∷ field) = elim (cases_Bool (needs_quotes (writer_of separator) (byte ∷ field))) [
  | inl quotes ↦
      apart byte field
      ∙ sym (ap (λ (t : List ℕ). length t == 0) (quoted_text separator (byte ∷ field) quotes)
      ∙ apart 34 (escaped (writer_of separator) (byte ∷ field) ++ 34 ∷ []))
  | inr plain ↦ rw plain refl
]

pub blank_one : (separator : ℕ) (fields : Fields) (field : List ℕ) → length fields ≤ 1 → Some field ≡ field_at fields 0
    → (length field == 0) ≡ is_blank (writer_of separator) fields
unfolding is_blank field_at
blank_one separator [] field few here = absurd (none_apart field (sym here))
blank_one separator (first ∷ []) field few here =
    let same : field ≡ first = same_field field first here in rw same (shown separator first)
blank_one separator (first ∷ next ∷ fields) field few here = absurd (omega arith)

pub blank_none : (rules : WriterBuilder) (fields : Fields) → None ≡ field_at fields 0 → true ≡ is_blank rules fields
unfolding is_blank field_at
blank_none rules [] here = refl
blank_none rules (first ∷ fields) here = absurd (none_apart first here)
