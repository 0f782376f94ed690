-- No field of a text's records is longer than the text.
use Rattle.std.proofs.Common.{◌≡◌, subst, ℕ, zero, suc, ◌+◌, ◌≤◌, ◌⊎◌, inl, inr, Bool, true, false, cond, List, []}
use Rattle.std.proofs.Common.{◌∷◌, ◌++◌, length, length-append, Option, Some, None, arith, refl}
use Rattle.csv.specs.Machine.{Read, ends_at_end, field_after, fields_after, is_end, next_record, step}
use Rattle.csv.specs.Reading.{default_config, is_bom, records, records_from, records_next, strip_bom}
use Rattle.csv.specs.declared.parser.Action.{Action}
use Rattle.csv.specs.declared.parser.Action.TheVariants as act
use Rattle.csv.specs.declared.parser.State.{State}
use Rattle.csv.specs.declared.parser.State.TheVariants as st
use Rattle.gtd_rows.specs.Columns.{Fields}

-- no field is longer than this
abbrev pub AreShort : ℕ → Fields → Type 0
AreShort most [] = Unit {0}
AreShort most (field ∷ fields) = (length field ≤ most) × AreShort most fields

-- nor is one of these rows
abbrev pub AreShortRows : ℕ → List Fields → Type 0
AreShortRows most [] = Unit {0}
AreShortRows most (row ∷ rows) = AreShort most row × AreShortRows most rows

pub rows_before : (most : ℕ) (before after : List Fields) → AreShortRows most (before ++ after) → AreShortRows most before
rows_before most [] after short = record {}
rows_before most (row ∷ before) after short = (short.0, rows_before most before after short.1)

one_more : (most : ℕ) (fields : Fields) (field : List ℕ) → AreShort most fields → length field ≤ most
    → AreShort most (fields ++ (field ∷ []))
one_more most [] field short le = (le, record {})
one_more most (first ∷ fields) field short le = (short.0, one_more most fields field short.1 le)

fields_short : (most : ℕ) (a : Action) (fields : Fields) (field : List ℕ) → AreShort most fields → length field ≤ most
    → AreShort most (fields_after a fields field)
fields_short most act.EndField fields field short le = one_more most fields field short le
fields_short most act.EndRecord fields field short le = one_more most fields field short le
fields_short most act.Skip fields field short le = short
fields_short most act.Copy fields field short le = short

field_short : (a : Action) (c : ℕ) (field : List ℕ) → length (field_after a c field) ≤ length field + 1
field_short act.EndField c field = omega arith
field_short act.EndRecord c field = omega arith
field_short act.Skip c field = omega arith
field_short act.Copy c field = omega (arith, length-append field (c ∷ []))

chosen : {A : Type 0} (b : Bool) (x y z : A) → cond b x y ≡ z → (x ≡ z) ⊎ (y ≡ z)
chosen true x y z h = inl h
chosen false x y z h = inr h

-- a record that was read, and what is left
abbrev IsShort : ℕ → List ℕ → Read → Type 0
IsShort most bytes read = AreShort most read.0 × (length read.2 ≤ length bytes)

at_end : (most : ℕ) (b : Bool) (fields : Fields) (field : List ℕ) (read : Read) → AreShort most fields → length field ≤ most
    → ◌≡◌ {A = Option Read} (cond b (Some (fields ++ (field ∷ []), st.StartRecord, [])) None) (Some read) → IsShort most [] read
at_end most true fields field read short le h =
    let e : ◌≡◌ {A = Read} (fields ++ (field ∷ []), st.StartRecord, []) read = cc in
    subst (IsShort most []) e (one_more most fields field short le, omega arith)
at_end most false fields field read short le h = cc

read_short : (most : ℕ) (s : State) (fields : Fields) (field bytes : List ℕ) (read : Read) → AreShort most fields
    → length field + length bytes ≤ most → next_record default_config s fields field bytes ≡ Some read
    → IsShort most bytes read
unfolding next_record
read_short most s fields field [] read short le h =
    at_end most (ends_at_end s) fields field read short (omega (arith, le)) h
read_short most s fields field (c ∷ rest) read short le h =
    let now = step default_config s c in
    let hit : Read = (fields_after now.1 fields field, now.0, rest) in
    let more = next_record default_config now.0 (fields_after now.1 fields field) (field_after now.1 c field) rest in
    let so = fields_short most now.1 fields field short (omega (arith, le)) in
    elim (chosen (is_end now.1) (Some hit) more (Some read) h) [
      | inl p ↦ let e : hit ≡ read = cc in subst (IsShort most (c ∷ rest)) e (so, omega arith)
      | inr q ↦
          let l = read_short most now.0 (fields_after now.1 fields field) (field_after now.1 c field) rest read so
          (omega (arith, le, field_short now.1 c field)) q in
          (l.0, omega (arith, l.1))
    ]

next_short : (most n : ℕ) (o : Option Read) → ((read : Read) → o ≡ Some read → AreShort most read.0
    × AreShortRows most (records_from default_config n read.1 read.2))
    → AreShortRows most (records_next (records_from default_config n) o)
next_short most n None each = record {}
next_short most n (Some read) each = each read refl

rows_short : (most n : ℕ) (s : State) (bytes : List ℕ) → length bytes ≤ most
    → AreShortRows most (records_from default_config n s bytes)
unfolding records_from
rows_short most zero s bytes le = record {}
rows_short most (suc n) s bytes le =
    next_short most n (next_record default_config s [] [] bytes) (λ read e.
    let l = read_short most s [] [] bytes read (record {}) (omega (arith, le)) e in
    (l.0, rows_short most n read.1 read.2 (omega (arith, l.1, le))))

stripped : (b : Bool) (xs rest : List ℕ) (most : ℕ) → length xs ≤ most → length rest ≤ most
    → length (cond b rest xs) ≤ most
stripped true xs rest most le short = short
stripped false xs rest most le short = le

strip_short : (bytes : List ℕ) → length (strip_bom bytes) ≤ length bytes
unfolding strip_bom
strip_short [] = omega arith
strip_short (a ∷ []) = omega arith
strip_short (a ∷ b ∷ []) = omega arith
strip_short (a ∷ b ∷ c ∷ rest) =
    stripped (is_bom a b c) (a ∷ b ∷ c ∷ rest) rest (length (a ∷ b ∷ c ∷ rest)) (omega arith) (omega arith)

pub all_short : (most : ℕ) (bytes : List ℕ) → length bytes ≤ most
    → AreShortRows most (records default_config (strip_bom bytes))
all_short most bytes le =
    rows_short most (length (strip_bom bytes) + 1) st.StartRecord (strip_bom bytes) (omega (arith, le, strip_short bytes))
